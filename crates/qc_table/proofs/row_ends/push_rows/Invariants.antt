use Rattle.qc_table.specs.Puts.{values_at}
use Rattle.qc_table.specs.Stored.{and_more}
use Rattle.qc_table.proofs.Appending.{AreMadeTo}
use Rattle.qc_table.proofs.row_ends.push_rows.Given as goal

abbrev pub invariant-loop-index : goal.invariant-loop-index
invariant-loop-index l = AreMadeTo (λ j. and_more (values_at j l.puts.rows)) l.fn.cells.items l.cells.items l.index
