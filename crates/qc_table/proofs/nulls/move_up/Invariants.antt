use Rattle.qc_table.proofs.BitMoves.{AreMovedUpTo}
use Rattle.qc_table.proofs.nulls.move_up.Given as goal

abbrev pub invariant-loop-index : goal.invariant-loop-index
invariant-loop-index l = AreMovedUpTo l.at l.fn.bit l.fn.words l.words l.index l.place l.bit
