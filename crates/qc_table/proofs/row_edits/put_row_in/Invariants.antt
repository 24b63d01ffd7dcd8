use Rattle.std.proofs.Common.{◌+◌, drop}
use Rattle.qc_table.specs.Puts.{put_at}
use Rattle.qc_table.specs.Stored.{put_in}
use Rattle.qc_table.specs.Views.{value_at}
use Rattle.qc_table.proofs.Appending.{AreMadeTo, RoomTo}
use Rattle.qc_table.proofs.row_edits.put_row_in.Given as goal

abbrev pub invariant-loop-column : goal.invariant-loop-column
invariant-loop-column l = record {
  made : AreMadeTo (λ j. put_in l.place (value_at (put_at l.puts.rows l.index) j)) l.fn.cells.items l.cells.items l.column;
  room : RoomTo l.column (drop (l.index + 1) l.puts.rows) l.cells.items;
}
