use Rattle.qc_table.proofs.Replacing.{ArePutTo}
use Rattle.qc_table.proofs.row_places.put_rows.Given as goal

abbrev pub invariant-loop-index : goal.invariant-loop-index
invariant-loop-index l = ArePutTo l.index l.places l.puts.rows l.fn.cells.items l.cells.items
