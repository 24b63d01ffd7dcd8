use Rattle.qc_table.specs.Stored.{without_one}
use Rattle.qc_table.proofs.Appending.{AreMadeTo}
use Rattle.qc_table.proofs.row_edits.remove_row.Given as goal

abbrev pub invariant-loop-column : goal.invariant-loop-column
invariant-loop-column l = AreMadeTo (λ j. without_one l.at) l.fn.cells.items l.cells.items l.column
