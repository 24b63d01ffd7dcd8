use Rattle.std.proofs.Common.{◌≡◌, ◌-◌}
use Rattle.qc_wire.specs.Reading.{times, unread}
use Rattle.qc_wire.specs.Replies.{cell}
use Rattle.qc_wire.proofs.Loops.{with_prefix}
use Rattle.qc_wire.proofs.reading.rows.cells.Given as goal

abbrev pub invariant-loop : goal.invariant-loop
invariant-loop l = with_prefix l.row (times cell (l.count - l.counter) (unread l.fields)) ≡ times cell l.count (unread l.fn.fields)
