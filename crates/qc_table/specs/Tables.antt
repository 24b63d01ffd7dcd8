-- What holds of each stored table.
use Rattle.std.specs.Prelude.{◌≡◌, ℤ, ◌≤◌, true, List, Option, Some, None, length}
use Rattle.std.specs.List.{AllByRecursion}
use Rattle.std.specs.List.Sorted.{IsStrictlySortedBy}
use Rattle.std.specs.Map.{keys_of}
use Rattle.std.specs.Ordering.{int_cmp}
use Rattle.qc_types.specs.declared.names.Value.{Value}
use Rattle.qc_sql.specs.declared.tables.Column.{Column}
use Rattle.qc_sql.specs.Database.{Database, MapOf, Table, most_rows}
use Rattle.qc_sql.specs.Order.{IsOrdered}
use Rattle.qc_model.specs.Licence.{is_within_rows}
use Rattle.qc_table.specs.Changes.{merged}
use Rattle.qc_model.specs.Sound.{IsRow, IsSoundTable}

-- the columns and the rows of a table fit, and the rows stand by rising key
abbrev pub IsSound : Table → Type 0
IsSound = IsSoundTable

-- so many rows may be stored
pub record IsStored (t : Table) : Type 0 where
  pub sound : IsSoundTable t
  pub within : length t.rows ≤ most_rows

-- rows to be put or, where there is none, taken out, by key
abbrev pub Changes : Type 0
Changes = MapOf ℤ (Option (List Value))

-- a row that is put fits the columns, and stands under its key
abbrev pub IsChange : List Column → ℤ × Option (List Value) → Type 0
IsChange columns c = put_fits c.1
  where
    put_fits : Option (List Value) → Type 0
    put_fits None = Unit {0}
    put_fits (Some row) = IsRow columns (c.0, row)

-- a stored table, and changes that fit it
pub record IsDraft (t : Table) (cs : Changes) : Type 0 where
  pub base : IsStored t
  pub changes : AllByRecursion (IsChange t.columns) cs
  pub ordered : IsStrictlySortedBy int_cmp (keys_of cs)

-- the table with the changes
abbrev pub with_changes : Table → Changes → Table
with_changes t changes = record { columns = t.columns; rows = merged t.rows changes }

-- a database as it is held: in order, and no table has too many rows
pub record IsHeld (d : Database) : Type 0 where
  pub ordered : IsOrdered d
  pub within : is_within_rows d ≡ true
