-- The database of the workload: the tables a and b with rows of two numbers.
use Rattle.std.specs.Prelude.{ℕ, pos, ℤ, true, false, List, [], ◌∷◌, map, codes}
use Rattle.qc_types.specs.declared.names.TableName.{TableName}
use Rattle.qc_types.specs.declared.names.Value.{Value}
use Rattle.qc_sql.specs.declared.tables.Column.{Column}
use Rattle.qc_sql.specs.declared.tables.Kind.TheVariants as kind
use Rattle.qc_sql.specs.Database.{Name, MapOf, Table, Database}
use Rattle.qc_app.specs.workload.Texts.{number}

abbrev pub in_w : Name → TableName
in_w name = record { db = codes "w"; name = name }

-- a key, and a number that may not be NULL
abbrev pub columns : List Column
columns = record { name = codes "id"; kind = kind.Int; not_null = true; primary = true } ∷ record { name = codes "v"; kind = kind.Int; not_null = true; primary = false } ∷ []

abbrev pub row : ℕ → ℕ → List Value
row key v = number key ∷ number v ∷ []

-- the rows of a map from keys to numbers
abbrev pub rows_of : MapOf ℕ ℕ → MapOf ℤ (List Value)
rows_of m = map (λ (e : ℕ × ℕ). (pos e.0, row e.0 e.1)) m

abbrev pub table_of_rows : MapOf ℕ ℕ → Table
table_of_rows m = record { columns = columns; rows = rows_of m }

abbrev pub database : MapOf ℕ ℕ → MapOf ℕ ℕ → Database
database a b = (codes "w", (codes "a", table_of_rows a) ∷ (codes "b", table_of_rows b) ∷ []) ∷ []
