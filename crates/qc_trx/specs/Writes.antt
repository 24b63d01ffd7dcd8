-- The rows that a transaction's own operations write, by their numbers, and which of them a commit meets.
use Rattle.std.specs.Prelude.{ℕ, ◌+◌, ℤ, Bool, true, false, ◌&&◌, ◌||◌, List, [], ◌∷◌, ◌++◌, Option, Some, None, bytes_eq, nat_lt, if◌then◌else◌, option_map, cond}
use Rattle.std.specs.List.{list_any, position_from}
use Rattle.std.specs.Ordering.{int_cmp, is_eq}
use Rattle.qc_types.specs.declared.names.TableName.{TableName}
use Rattle.qc_types.specs.declared.names.Value.{Value}
use Rattle.qc_sql.specs.declared.tables.Column.{Column}
use Rattle.qc_sql.specs.declared.tables.RowOp.{RowOp}
use Rattle.qc_sql.specs.declared.tables.RowOp.TheVariants as op
use Rattle.qc_sql.specs.Database.{Name, Database, table_of, key_of, apply_one, same_table, columns_of}
use Rattle.qc_model.specs.Conflicts.{Written, Row, key_in, written_by, changes_form, is_row, Conflict}
use Rattle.qc_trx.specs.declared.writes.OwnRow.{OwnRow}

-- ---- own rows

abbrev pub own_row : RowOp → Database → Option OwnRow
own_row (op.Put t row) d = Some (record { table = t; key = key_in (table_of t d) row })
own_row (op.Del t key) d = Some (record { table = t; key = key })
own_row _ d = None

-- the row that each of the operations writes, or none, each on what those before it made
abbrev pub own_rows : List RowOp → Database → List (Option OwnRow)
own_rows [] d = []
own_rows (o ∷ os) d = own_row o d ∷ own_rows os (apply_one o d)

-- ---- which of them pass

abbrev pub is_own : (OwnRow → Bool) → Option OwnRow → Bool
is_own test None = false
is_own test (Some r) = test r

abbrev pub is_row_of : TableName → ℤ → OwnRow → Bool
is_row_of t key r = same_table r.table t && is_eq (int_cmp r.key key)

abbrev pub is_of_table : TableName → OwnRow → Bool
is_of_table t r = same_table r.table t

abbrev pub is_of_database : Name → OwnRow → Bool
is_of_database db r = bytes_eq r.table.db db

-- the number of the first own operation that passes, from 0
abbrev pub first_own : (OwnRow → Bool) → List (Option OwnRow) → Option ℕ
first_own test rows = position_from (is_own test) 0 rows

-- the row of that operation
abbrev pub row_there : (OwnRow → Bool) → List (Option OwnRow) → Option OwnRow
row_there test [] = None
row_there test (r ∷ rs) = cond (is_own test r) r (row_there test rs)

-- the least of two numbers that may be there
abbrev pub least : Option ℕ → Option ℕ → Option ℕ
least None n = n
least (Some m) None = Some m
least (Some m) (Some n) = if nat_lt n m then Some n else Some m

-- the rows alone
abbrev pub rows_written : List (Option OwnRow) → List Written
rows_written [] = []
rows_written (None ∷ rs) = rows_written rs
rows_written (Some r ∷ rs) = Row r.table r.key ∷ rows_written rs

-- ---- what a commit meets

-- what the operations of a commit write, with the keys that their rows have by the columns of one database
abbrev pub written_on : List RowOp → Database → List Written
written_on [] d = []
written_on (o ∷ os) d = written_by o d ++ written_on os d

-- whether something that was written changes the form of a row's table, or is that row
abbrev pub meets : Written → OwnRow → Bool
meets w r = changes_form r.table w || is_row r.table r.key w

abbrev pub is_met : List Written → OwnRow → Bool
is_met theirs r = list_any (λ w. meets w r) theirs

-- what is told of a row that is met
abbrev pub told : List Written → OwnRow → TableName × Option ℤ
told theirs r = (r.table, if list_any (changes_form r.table) theirs then None else Some r.key)

abbrev pub by_commit : ℕ → Option (TableName × Option ℤ) → Option Conflict
by_commit number found = option_map (λ m. record { table = m.0; key = m.1; by = number }) found

-- ---- columns

abbrev pub key_by : Option (List Column) → List Value → ℤ
key_by None row = key_of [] row
key_by (Some columns) row = key_of columns row

-- the columns that operations leave to a table that is there: those with which it was made last, or those that it had
abbrev pub columns_left : TableName → List RowOp → Option (List Column) → Option (List Column)
columns_left t [] columns = columns
columns_left t (op.CreateTable u made ∷ os) columns = columns_left t os (cond (same_table t u) (Some made) columns)
columns_left t (_ ∷ os) columns = columns_left t os columns

-- the row that an operation writes, on a database that the operations before it have changed
abbrev pub row_left : List RowOp → RowOp → Database → Option OwnRow
row_left done (op.Put t row) d = Some (record { table = t; key = key_by (columns_left t done (columns_of t d)) row })
row_left done (op.Del t key) d = Some (record { table = t; key = key })
row_left done _ d = None

abbrev pub rows_left : List RowOp → List RowOp → Database → List (Option OwnRow)
rows_left done [] d = []
rows_left done (o ∷ os) d = row_left done o d ∷ rows_left (done ++ o ∷ []) os d

-- whether an operation makes a table
abbrev pub makes_table : RowOp → Bool
makes_table (op.CreateTable t columns) = true
makes_table _ = false
