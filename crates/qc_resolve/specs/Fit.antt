-- Bound tables whose rows fit their columns, and combinations of such rows.
use Rattle.std.specs.Prelude.{◌≡◌, true, List}
use Rattle.std.specs.List.{AllByRecursion}
use Rattle.qc_model.specs.Licence.{kind_fits}
use Rattle.qc_sql.specs.Rows.{Bound, Combination}
use Rattle.qc_table.specs.Tables.{IsSound}
use Rattle.qc_resolve.specs.Columns.{Spot, all_spots}
use Rattle.qc_resolve.specs.Meaning.{value_at}

abbrev pub IsSoundBound : Bound → Type 0
IsSoundBound b = IsSound b.table

-- the value of a column is of its kind
abbrev pub FitsAt : Combination → Spot → Type 0
FitsAt c s = kind_fits s.column.kind (value_at s.place c) ≡ true

abbrev pub IsFit : List Bound → Combination → Type 0
IsFit bounds c = AllByRecursion (FitsAt c) (all_spots 0 bounds)

abbrev pub AreFit : List Bound → List Combination → Type 0
AreFit bounds group = AllByRecursion (IsFit bounds) group
