use Rattle.std.proofs.Common.{◌≡◌, drop, map}
use Rattle.qc_sql.specs.Database.{key_of}
use Rattle.qc_table.specs.Changes.{rise_behind}
use Rattle.qc_table.proofs.table_rows.rise_behind.Given as goal

-- the keys that are left have to rise behind the last of those that do
abbrev pub invariant-loop-index : goal.invariant-loop-index
invariant-loop-index l = rise_behind l.fn.last (map (key_of l.columns) l.puts.rows) ≡ rise_behind l.last (drop l.index (map (key_of l.columns) l.puts.rows))
