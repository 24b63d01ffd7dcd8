-- Databases in order: the names of databases rise, those of each one's tables, and the keys of each table's rows, so none stands twice.
use Rattle.std.specs.List.{AllByRecursion}
use Rattle.std.specs.List.Sorted.{IsStrictlySortedBy}
use Rattle.std.specs.Map.{keys_of, values_of}
use Rattle.std.specs.Ordering.{int_cmp}
use Rattle.qc_sql.specs.Database.{Table, Tables, Database, name_cmp}

-- the rows of a table rise by key
abbrev pub RowsRise : Table → Type 0
RowsRise t = IsStrictlySortedBy int_cmp (keys_of t.rows)

-- the tables of a database rise by name, and the rows of each by key
pub record AreOrdered (ts : Tables) : Type 0 where
  pub names : IsStrictlySortedBy name_cmp (keys_of ts)
  pub rows : AllByRecursion RowsRise (values_of ts)

pub record IsOrdered (d : Database) : Type 0 where
  pub names : IsStrictlySortedBy name_cmp (keys_of d)
  pub tables : AllByRecursion AreOrdered (values_of d)
