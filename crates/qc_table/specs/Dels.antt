-- Rows that operations take out of one table.
use Rattle.std.specs.Prelude.{◌≡◌, ℕ, ℤ, pos, ◌<◌, Bool, true, false, List, [], ◌∷◌, map, length, slice_index_or}
use Rattle.std.specs.List.{list_all}
use Rattle.qc_types.specs.declared.names.TableName.{TableName}
use Rattle.qc_sql.specs.declared.tables.RowOp.{RowOp}
use Rattle.qc_sql.specs.declared.tables.RowOp.TheVariants as op
use Rattle.qc_sql.specs.Database.{Table, same_table, without_row}

-- the keys of rows that are taken out of a table, the first of them first
pub record DelRows : Type 0 where
  pub table : TableName
  pub keys : List ℤ

-- the key of the row that an operation takes out
abbrev pub key_taken : RowOp → ℤ
key_taken (op.Del t key) = key
key_taken _ = pos 0

abbrev pub is_taken_from : TableName → RowOp → Bool
is_taken_from t (op.Del u key) = same_table t u
is_taken_from t _ = false

-- the operations, of which there is one at least, take the rows of these keys out
abbrev pub AreDels : DelRows → List RowOp → Type 0
AreDels p ops = (list_all (is_taken_from p.table) ops ≡ true) × (p.keys ≡ map key_taken ops) × (0 < length ops)

-- a table without the rows of these keys
abbrev pub without_rows : List ℤ → Table → Table
without_rows [] t = t
without_rows (key ∷ keys) t = without_rows keys (without_row key t)

-- the key at an index
abbrev pub key_at : List ℤ → ℕ → ℤ
key_at keys i = slice_index_or keys i (pos 0)
