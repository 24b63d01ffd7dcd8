use Rattle.qc_table.proofs.Replacing.{AreFoundTo}
use Rattle.qc_table.proofs.row_places.places_of.Given as goal

abbrev pub invariant-loop-index : goal.invariant-loop-index
invariant-loop-index l = AreFoundTo l.index l.columns l.keys l.cells l.places.items l.puts.rows
