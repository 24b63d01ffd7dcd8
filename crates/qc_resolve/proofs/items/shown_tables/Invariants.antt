use Rattle.std.proofs.Common.{◌≡◌, drop}
use Rattle.qc_resolve.specs.Columns.{all_spots}
use Rattle.qc_resolve.specs.Validated.{none_shown, with_spots}
use Rattle.qc_resolve.proofs.items.shown_tables.Given as goal

abbrev pub invariant-loop-slot : goal.invariant-loop-slot
invariant-loop-slot l = with_spots l.flags l.aggregated l.shown (all_spots l.slot (drop l.slot l.bounds)) ≡ with_spots l.flags l.aggregated none_shown (all_spots 0 l.bounds)
