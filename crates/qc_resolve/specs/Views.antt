-- The values of the code, without the references in them.
use Rattle.std.specs.Prelude.{◌≡◌}
use Rattle.qc_sql.specs.Rows as meant
use Rattle.qc_resolve.specs.declared.columns.Found.{Found}
use Rattle.qc_resolve.specs.declared.values.Sort.{Sort}
use Rattle.qc_resolve.specs.declared.values.Sort.TheVariants as sort
use Rattle.qc_resolve.specs.declared.values.Origin.{Origin}
use Rattle.qc_resolve.specs.declared.values.Origin.TheVariants as origin
use Rattle.qc_resolve.specs.declared.values.Valued.{Valued}
use Rattle.qc_resolve.specs.Columns.{Spot, found_at}
use Rattle.qc_resolve.specs.Values.{Validated}

abbrev pub spot_of : Found → Spot
spot_of f = record { bound = f.bound.now; column = f.column.now; place = f.place }

abbrev pub sort_of : Sort → meant.Sort
sort_of sort.Number = meant.Number
sort_of sort.Words = meant.Words
sort_of sort.Nothing = meant.Nothing

abbrev pub origin_of : Origin → meant.Origin
origin_of origin.Computed = meant.Computed
origin_of origin.Summed = meant.Summed
origin_of (origin.Itself f) = meant.Itself (found_at (spot_of f))
origin_of (origin.BestOf f) = meant.BestOf (found_at (spot_of f))

abbrev pub validated_of : Valued → Validated
validated_of v = record { sort = sort_of v.sort; origin = origin_of v.origin; formula = v.formula }
