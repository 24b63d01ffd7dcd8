-- Which statements are SELECTs.
use Rattle.std.specs.Prelude.{Bool, true, false}
use Rattle.qc_sql.specs.declared.statements.Statement.{Statement}
use Rattle.qc_sql.specs.declared.statements.Statement.TheVariants as statement

abbrev pub is_select : Statement → Bool
is_select (statement.Select s) = true
is_select _ = false
