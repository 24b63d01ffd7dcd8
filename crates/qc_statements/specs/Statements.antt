-- What statements ask for that change rows, set a variable or choose a database.
use Rattle.std.specs.Prelude.{Bool, true, false, Option, None, Result, Ok, Err, is_some, if◌then◌else◌}
use Rattle.qc_types.specs.declared.sql_error.SqlError.{SqlError}
use Rattle.qc_sql.specs.declared.statements.Setting.{Setting}
use Rattle.qc_sql.specs.declared.statements.Setting.TheVariants as setting
use Rattle.qc_sql.specs.declared.statements.Statement.{Statement}
use Rattle.qc_sql.specs.declared.statements.Statement.TheVariants as statement
use Rattle.qc_sql.specs.Database.{Name, Database, tables_of}
use Rattle.qc_sql.specs.Errors.{unknown_database}
use Rattle.qc_model.specs.Settings.{switch}
use Rattle.qc_trx.specs.SnapshotStates.{SnapshotState, in_database, seen_on}

-- INSERT, UPDATE and DELETE
abbrev pub changes_rows : Statement → Bool
changes_rows (statement.Insert i) = true
changes_rows (statement.Update u) = true
changes_rows (statement.Delete d) = true
changes_rows _ = false

-- the value that a setting gives autocommit
abbrev pub switched : Setting → Option Bool
switched (setting.Names w) = None
switched (setting.Variable name v) = switch v

-- a database that the session sees becomes the current one
abbrev pub chosen : Name → Database → SnapshotState → Result SnapshotState SqlError
chosen name now x = if is_some (tables_of name (seen_on now x)) then Ok (in_database name x) else Err (unknown_database name)
