use Rattle.std.proofs.Common.{◌≡◌, ◌-◌}
use Rattle.qc_wire.specs.Reading.{times}
use Rattle.qc_wire.specs.Replies.{column_packet, stream_view}
use Rattle.qc_wire.proofs.Loops.{with_prefix}
use Rattle.qc_wire.proofs.reading.columns.columns.Given as goal

abbrev pub invariant-loop : goal.invariant-loop
invariant-loop l = with_prefix l.columns (times column_packet (l.count - l.counter) (stream_view l.stream)) ≡ times column_packet l.count (stream_view l.fn.stream)
