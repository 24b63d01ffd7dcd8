use Rattle.std.proofs.Common.{◌≡◌, drop}
use Rattle.std.specs.Prelude.{option_map}
use Rattle.qc_resolve.specs.Columns.{scanned, spots_from}
use Rattle.qc_resolve.specs.Views.{spot_of}
use Rattle.qc_resolve.proofs.columns.find_in.Given as goal

abbrev pub invariant-loop-i : goal.invariant-loop-i
invariant-loop-i l =
    scanned l.name (option_map spot_of l.found) (spots_from l.bound l.slot l.i (drop l.i l.bound.table.columns)) ≡ scanned l.fn.name (option_map spot_of l.fn.found) (spots_from l.bound l.slot 0 l.bound.table.columns)
