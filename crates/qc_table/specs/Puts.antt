-- Rows that operations put into one table.
use Rattle.std.specs.Prelude.{◌≡◌, ℕ, ◌<◌, Bool, true, false, List, [], ◌∷◌, map, length, slice_index_or}
use Rattle.std.specs.List.{list_all}
use Rattle.qc_types.specs.declared.names.TableName.{TableName}
use Rattle.qc_types.specs.declared.names.Value.{Value}
use Rattle.qc_sql.specs.declared.tables.RowOp.{RowOp}
use Rattle.qc_sql.specs.declared.tables.RowOp.TheVariants as op
use Rattle.qc_sql.specs.Database.{Table, same_table, with_row}
use Rattle.qc_table.specs.Views.{value_at}

-- rows that are put into a table, the first of them first
pub record PutRows : Type 0 where
  pub table : TableName
  pub rows : List (List Value)

-- the row that an operation puts
abbrev pub row_put : RowOp → List Value
row_put (op.Put t row) = row
row_put _ = []

abbrev pub is_put_into : TableName → RowOp → Bool
is_put_into t (op.Put u row) = same_table t u
is_put_into t _ = false

-- the operations, of which there is one at least, put these rows
abbrev pub ArePuts : PutRows → List RowOp → Type 0
ArePuts p ops = (list_all (is_put_into p.table) ops ≡ true) × (p.rows ≡ map row_put ops) × (0 < length ops)

-- a table with the rows, the first of them put first
abbrev pub with_rows : List (List Value) → Table → Table
with_rows [] t = t
with_rows (row ∷ rows) t = with_rows rows (with_row row t)

-- the row at an index
abbrev pub put_at : List (List Value) → ℕ → List Value
put_at rows i = slice_index_or rows i []

-- the values of rows in the column at an index
abbrev pub values_at : ℕ → List (List Value) → List Value
values_at j rows = map (λ row. value_at row j) rows

-- each row has a value in the column at an index
abbrev pub AreWide : ℕ → List (List Value) → Type 0
AreWide j rows = (i : ℕ) → i < length rows → j < length (put_at rows i)
