-- The table that a statement changes or makes, by its whole name.
use Rattle.std.specs.Prelude.{Result, is_some}
use Rattle.qc_types.specs.declared.names.TableName.{TableName}
use Rattle.qc_types.specs.declared.sql_error.SqlError.{SqlError}
use Rattle.qc_sql.specs.declared.statements.TableRef.{TableRef}
use Rattle.qc_sql.specs.Database.{Name, Database, table_of}
use Rattle.qc_sql.specs.Rows.{◌>>=◌, Bound, bound_in, refuse_if}
use Rattle.qc_sql.specs.Rules.{full_name}
use Rattle.qc_sql.specs.Errors.{table_exists}
use Rattle.qc_sql.specs.Effects.{known_database}
use Rattle.qc_write.specs.declared.target.Target.{Target}

-- the table, under its own name
abbrev pub bound_of : Target → Bound
bound_of t = record { called = t.name.name; name = t.name; table = t.version.now }

abbrev pub target_in : Database → Name → TableRef → Result Bound SqlError
target_in d db table = let t = full_name db table in bound_in d t t.name

-- the table isn't there, and its database is
abbrev pub absent : Database → TableName → Result (Unit {0}) SqlError
absent d t = known_database d t >>= λ _. refuse_if (is_some (table_of t d)) (table_exists t)
