-- Databases of which each table fits its columns, under names that differ.
use Rattle.std.specs.Prelude.{◌≡◌, ℤ, true, List, [], ◌∷◌, None}
use Rattle.std.specs.List.{AllByRecursion}
use Rattle.std.specs.List.Sorted.{IsStrictlySortedBy}
use Rattle.std.specs.Map.{keys_of}
use Rattle.std.specs.Ordering.{int_cmp}
use Rattle.qc_types.specs.declared.names.Value.{Value}
use Rattle.qc_sql.specs.declared.tables.Column.{Column}
use Rattle.qc_sql.specs.Database.{Name, MapOf, Table, Tables, Database, at_name, key_of}
use Rattle.qc_model.specs.Licence.{columns_fit, row_fits}

-- a row fits the columns, and stands under its key
abbrev pub IsRow : List Column → ℤ × List Value → Type 0
IsRow columns e = (row_fits columns e.1 ≡ true) × (e.0 ≡ key_of columns e.1)

-- the columns and the rows of a table fit, and the rows stand by rising key
pub record IsSoundTable (t : Table) : Type 0 where
  pub columns : columns_fit t.columns ≡ true
  pub rows : AllByRecursion (IsRow t.columns) t.rows
  pub ordered : IsStrictlySortedBy int_cmp (keys_of t.rows)

-- no name stands twice
abbrev pub AreApart : {X : Type 0} → MapOf Name X → Type 0
AreApart [] = Unit {0}
AreApart (entry ∷ entries) = (at_name entry.0 entries ≡ None) × AreApart entries

pub record AreSoundTables (ts : Tables) : Type 0 where
  pub apart : AreApart ts
  pub each : AllByRecursion (λ entry. IsSoundTable entry.1) ts

pub record IsSoundDatabase (d : Database) : Type 0 where
  pub apart : AreApart d
  pub each : AllByRecursion (λ entry. AreSoundTables entry.1) d
