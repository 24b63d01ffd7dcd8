use Rattle.qc_table.proofs.Appending.{AreMadeTo, RoomTo}
use Rattle.qc_table.proofs.row_ends.reserve_rows.Given as goal

abbrev pub invariant-loop-index : goal.invariant-loop-index
invariant-loop-index l = record {
  made : AreMadeTo (λ j vs. vs) l.fn.cells.items l.cells.items l.index;
  room : RoomTo l.index l.puts.rows l.cells.items;
}
