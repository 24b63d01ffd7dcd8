use Rattle.std.proofs.Common.{◌≡◌, ◌+◌, ◌≤◌, drop, length}
use Rattle.std.specs.Vec.{vec_capacity, vec_len}
use Rattle.qc_model.specs.Sound.{IsSoundTable}
use Rattle.qc_table.specs.Puts.{with_rows}
use Rattle.qc_table.specs.Stored.{table_stored, HaveRoom, IsStore}
use Rattle.qc_table.proofs.row_edits.put_each.Given as goal

abbrev pub invariant-loop-index : goal.invariant-loop-index
invariant-loop-index l = record {
  store : IsStore l.columns (length l.keys.items) l.cells.items;
  sound : IsSoundTable (table_stored l.columns l.keys.items l.cells.items);
  rows : with_rows (drop l.index l.puts.rows) (table_stored l.columns l.keys.items l.cells.items) ≡ with_rows l.puts.rows (table_stored l.columns l.fn.keys.items l.fn.cells.items);
  room : vec_len l.keys + length l.puts.rows ≤ vec_capacity l.keys + l.index;
  rooms : HaveRoom (drop l.index l.puts.rows) l.cells.items;
  few : length l.keys.items ≤ length l.fn.keys.items + l.index;
}
