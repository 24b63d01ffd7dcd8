use Rattle.std.proofs.Common.{◌≡◌, drop, map}
use Rattle.std.specs.Prelude.{◌||◌, not}
use Rattle.std.specs.List.{list_all}
use Rattle.qc_sql.specs.Effects.{marked}
use Rattle.qc_sql.specs.Database.{is_int}
use Rattle.qc_write.specs.Lists.{borrowed}
use Rattle.qc_write.specs.Parts.{columns_of}
use Rattle.qc_write.proofs.create.are_keys_numbers.Given as goal

abbrev pub invariant-loop-column : goal.invariant-loop-column
invariant-loop-column l = list_all (λ c. not c.primary || is_int c.kind) (map (marked (borrowed l.keys)) (columns_of (drop l.column-index l.written))) ≡ list_all (λ c. not c.primary || is_int c.kind) (map (marked (borrowed l.keys)) (columns_of l.written))
