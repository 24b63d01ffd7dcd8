-- Each table once.
use Rattle.std.specs.Prelude.{List, [], ◌∷◌, ◌++◌, if◌then◌else◌}
use Rattle.std.specs.List.{list_any}
use Rattle.qc_types.specs.declared.names.TableName.{TableName}
use Rattle.qc_sql.specs.Database.{same_table}

-- tables, and one more where it isn't there yet
abbrev pub with_table : List TableName → TableName → List TableName
with_table tables t = if list_any (same_table t) tables then tables else tables ++ t ∷ []
