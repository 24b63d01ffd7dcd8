-- How many tables a select names.
use Rattle.std.specs.Prelude.{◌≡◌, ℕ, ◌≤◌, Bool, false, List, [], ◌∷◌, length, Ok}
use Rattle.std.specs.List.{list_any}
use Rattle.qc_types.specs.declared.names.TableName.{TableName}
use Rattle.qc_sql.specs.declared.statements.Select.{Select}
use Rattle.qc_sql.specs.declared.statements.Statement.TheVariants as statement
use Rattle.qc_sql.specs.Database.{Name, same_table}
use Rattle.qc_sql.specs.Grammar.{meaning}
use Rattle.qc_sql.specs.Rules.{select_tables}

-- no table stands twice
abbrev pub AreApartTables : List TableName → Type 0
AreApartTables [] = Unit {0}
AreApartTables (t ∷ ts) = (list_any (same_table t) ts ≡ false) × AreApartTables ts

-- a text's select names at most eight tables, under each name of the current database
abbrev pub TablesAreFew : Type 0
TablesAreFew = (text : List ℕ) (ansi : Bool) (select : Select) (db : Name) → meaning text ansi ≡ Ok (statement.Select select) → length (select_tables db select) ≤ 8

abbrev pub TablesAreApart : Type 0
TablesAreApart = (select : Select) (db : Name) → AreApartTables (select_tables db select)
