use Rattle.std.proofs.Common.{◌≡◌, ◌+◌, ◌++◌, ◌≤◌, length, map, take}
use Rattle.std.specs.Vec.{vec_capacity, vec_len}
use Rattle.qc_sql.specs.Database.{key_of}
use Rattle.qc_table.proofs.table_rows.push_keys.Given as goal

abbrev pub invariant-loop-index : goal.invariant-loop-index
invariant-loop-index l = record {
  items : l.keys.items ≡ l.fn.keys.items ++ take l.index (map (key_of l.columns) l.puts.rows);
  room : vec_len l.keys + length l.puts.rows ≤ vec_capacity l.keys + l.index;
}
