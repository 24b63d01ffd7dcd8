-- What holds of each table, of each database and of the commits of a journal, and what row operations are.
use Rattle.std.specs.Prelude.{◌≡◌, ℕ, Bool, true, false, ◌&&◌, [], ◌∷◌, Option, Some, None, IfSome}
use Rattle.qc_types.specs.declared.names.TableName.{TableName}
use Rattle.qc_sql.specs.declared.tables.RowOp.{RowOp}
use Rattle.qc_sql.specs.declared.tables.RowOp.TheVariants as op
use Rattle.qc_sql.specs.declared.statements.Statement.{Statement}
use Rattle.qc_sql.specs.declared.statements.Statement.TheVariants as statement
use Rattle.qc_sql.specs.Database.{Name, Database, apply}
use Rattle.qc_sql.specs.Rules.{full_name}
use Rattle.qc_model.specs.Journal.{Journal, operations, event_at}
use Rattle.qc_model.specs.Licence.{ops_fit}

-- ---- journals

-- the operations of each commit fit the database that those before it made
abbrev pub commits_fit : Database → Journal → Bool
commits_fit d [] = true
commits_fit d (e ∷ es) = ops_fit (operations e) d && commits_fit (apply (operations e) d) es

-- the event with a number, where it is there, changes nothing
abbrev pub IsNoChangeAt : ℕ → Journal → Type 0
IsNoChangeAt number journal = IfSome (event_at journal number) (λ e. operations e ≡ [])

-- ---- rows

-- a row is put or deleted
abbrev pub is_row_op : RowOp → Bool
is_row_op (op.Put t row) = true
is_row_op (op.Del t key) = true
is_row_op _ = false

-- the table whose rows a statement changes, where it is of that kind
abbrev pub rows_changed_by : Name → Statement → Option TableName
rows_changed_by db (statement.Insert i) = Some (full_name db i.table)
rows_changed_by db (statement.Update u) = Some (full_name db u.table)
rows_changed_by db (statement.Delete x) = Some (full_name db x.table)
rows_changed_by db _ = None

-- whether a statement changes tables or databases
abbrev pub changes_tables : Statement → Bool
changes_tables (statement.Truncate t) = true
changes_tables (statement.CreateTable t parts) = true
changes_tables (statement.DropTable t) = true
changes_tables (statement.CreateDb name) = true
changes_tables (statement.DropDb name) = true
changes_tables _ = false
