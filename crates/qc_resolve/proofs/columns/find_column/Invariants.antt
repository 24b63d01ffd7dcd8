use Rattle.std.proofs.Common.{◌≡◌, drop}
use Rattle.std.specs.Prelude.{option_map, None}
use Rattle.qc_resolve.specs.Columns.{scanned, all_spots}
use Rattle.qc_resolve.specs.Views.{spot_of}
use Rattle.qc_resolve.proofs.columns.find_column.Given as goal

abbrev pub invariant-loop-slot : goal.invariant-loop-slot
invariant-loop-slot l =
    scanned l.name (option_map spot_of l.found) (all_spots l.slot (drop l.slot l.bound-items)) ≡ scanned l.name None (all_spots 0 l.scope.bounds)
