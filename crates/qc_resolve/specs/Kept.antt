-- The rows of one table that a condition keeps.
use Rattle.std.specs.Prelude.{ℕ, ℤ, List, Option, Result, Ok}
use Rattle.qc_types.specs.declared.names.TableName.{TableName}
use Rattle.qc_types.specs.declared.names.Value.{Value}
use Rattle.qc_types.specs.declared.sql_error.SqlError.{SqlError}
use Rattle.qc_sql.specs.declared.statements.Cond.{Cond}
use Rattle.qc_sql.specs.Database.{Name, Table}
use Rattle.qc_sql.specs.Effects.{matching, scope_of}
use Rattle.qc_sql.specs.Rows.{Bound, condition, ◌>>=◌}

-- a table that a statement names, called by its own name
abbrev pub under_its_name : TableName → Table → Bound
under_its_name name table = record { called = name.name; name = name; table = table }

-- the rows that a condition keeps, by rising key, or the condition's refusal
abbrev pub kept_rows : TableName → Table → Option Cond → Name → ℕ → Result (List (ℤ × List Value)) SqlError
kept_rows name table cond db session = condition (scope_of (under_its_name name table) db session) cond >>= λ keeps. Ok (matching table keeps)
