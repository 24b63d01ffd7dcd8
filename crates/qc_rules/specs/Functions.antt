-- The first call of a function that keeps a select out of the cache.
use Rattle.std.specs.Prelude.{Option, find, option_map}
use Rattle.qc_sql.specs.Database.{Name}
use Rattle.qc_sql.specs.Rules.{Calls, is_uncached}

-- the name of the first of these calls that is uncached
abbrev pub first_name : Calls → Option Name
first_name calls = option_map (λ call. call.0) (find is_uncached calls)
