-- The columns of the bound tables, each with the place of its value.
use Rattle.std.specs.Prelude.{ℕ, ◌+◌, Bool, ◌&&◌, List, [], ◌∷◌, ◌++◌, filter, Option, Some, None, Result, Ok, Err, bytes_eq}
use Rattle.qc_types.specs.declared.sql_error.SqlError.{SqlError}
use Rattle.qc_sql.specs.declared.tables.Column.{Column}
use Rattle.qc_sql.specs.declared.statements.ColumnName.{ColumnName}
use Rattle.qc_sql.specs.Database.{Name}
use Rattle.qc_sql.specs.Errors.{ambiguous_column, unknown_column}
use Rattle.qc_sql.specs.Rows.{Bound, Found, is_called, ◌>>=◌}
use Rattle.qc_resolve.specs.declared.formula.Place.{Place}
use Rattle.qc_resolve.specs.Meaning.{value_at}

-- a column of a bound table, and where its value stands
pub record Spot : Type 0 where
  pub bound : Bound
  pub column : Column
  pub place : Place

abbrev pub found_at : Spot → Found
found_at s = record { bound = s.bound; column = s.column; value_in = value_at s.place }

-- the columns of a table, from the one at an index, where the table's rows stand at a slot of the combinations
abbrev pub spots_from : Bound → ℕ → ℕ → List Column → List Spot
spots_from b slot i [] = []
spots_from b slot i (c ∷ cs) = record { bound = b; column = c; place = record { slot = slot; column = i } } ∷ spots_from b slot (i + 1) cs

-- all columns of all tables, from the table at a slot
abbrev pub all_spots : ℕ → List Bound → List Spot
all_spots slot [] = []
all_spots slot (b ∷ bs) = spots_from b slot 0 b.table.columns ++ all_spots (slot + 1) bs

-- whether a name may mean a column of a table
abbrev pub may_mean : ColumnName → Bound → Column → Bool
may_mean name b c = bytes_eq c.name name.name && is_called name.source b

abbrev pub is_meant : ColumnName → Spot → Bool
is_meant name s = may_mean name s.bound s.column

-- the one that was found, with what is found further on; a second one is refused
abbrev pub scan : Name → Option Spot → List Spot → Result (Option Spot) SqlError
scan name found [] = Ok found
scan name None (s ∷ ss) = scan name (Some s) ss
scan name (Some f) (s ∷ ss) = Err (ambiguous_column name)

abbrev pub scanned : ColumnName → Option Spot → List Spot → Result (Option Spot) SqlError
scanned column found spots = scan column.name found (filter (is_meant column) spots)

abbrev pub known : Name → Option Spot → Result Spot SqlError
known name None = Err (unknown_column name)
known name (Some s) = Ok s

-- the column that a name means
abbrev pub find_spot : List Bound → ColumnName → Result Spot SqlError
find_spot bounds column = scanned column None (all_spots 0 bounds) >>= known column.name
