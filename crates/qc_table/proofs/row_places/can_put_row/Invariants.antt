use Rattle.qc_table.proofs.Replacing.{CanPutTo}
use Rattle.qc_table.proofs.row_places.can_put_row.Given as goal

abbrev pub invariant-loop-index : goal.invariant-loop-index
invariant-loop-index l = CanPutTo l.index l.at l.row l.cells
