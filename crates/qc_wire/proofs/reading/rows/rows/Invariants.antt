use Rattle.std.proofs.Common.{◌≡◌, length}
use Rattle.qc_wire.specs.Replies.{stream_view}
use Rattle.qc_wire.proofs.Loops.{with_prefix}
use Rattle.qc_wire.proofs.RowLoop.{rows_of}
use Rattle.qc_wire.proofs.reading.rows.rows.Given as goal

abbrev pub invariant-loop-rows : goal.invariant-loop-rows
invariant-loop-rows l = with_prefix l.rows (rows_of l.columns l.status (stream_view l.stream)) ≡ rows_of l.columns l.status (stream_view l.fn.stream)

abbrev pub decreases-loop-rows : goal.decreases-loop-rows
decreases-loop-rows l = length l.stream.fields.left.now
