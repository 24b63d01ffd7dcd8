use Rattle.std.proofs.Common.{◌≡◌, drop}
use Rattle.qc_resolve.specs.Columns.{spots_from}
use Rattle.qc_resolve.specs.Validated.{with_spots}
use Rattle.qc_resolve.proofs.items.Shown.add_table.Given as goal

abbrev pub invariant-loop-i : goal.invariant-loop-i
invariant-loop-i l =
    with_spots l.flags l.aggregated l.self (spots_from l.bound l.slot l.i (drop l.i l.column-items)) ≡ with_spots l.flags l.aggregated l.fn.self (spots_from l.bound l.slot 0 l.bound.table.columns)
