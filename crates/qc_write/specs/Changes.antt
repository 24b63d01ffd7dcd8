-- The statements that change rows, tables or databases.
use Rattle.std.specs.Prelude.{Bool, true, false}
use Rattle.qc_sql.specs.declared.statements.Statement.{Statement}
use Rattle.qc_sql.specs.declared.statements.Statement.TheVariants as statement

abbrev pub is_change : Statement → Bool
is_change (statement.Insert i) = true
is_change (statement.Update u) = true
is_change (statement.Delete d) = true
is_change (statement.Truncate t) = true
is_change (statement.CreateTable t parts) = true
is_change (statement.DropTable t) = true
is_change (statement.CreateDb name) = true
is_change (statement.DropDb name) = true
is_change _ = false
