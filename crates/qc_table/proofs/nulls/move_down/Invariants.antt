use Rattle.qc_table.proofs.BitMoves.{AreMovedDownTo}
use Rattle.qc_table.proofs.nulls.move_down.Given as goal

abbrev pub invariant-loop-index : goal.invariant-loop-index
invariant-loop-index l = AreMovedDownTo l.at l.fn.words l.words l.index l.place
