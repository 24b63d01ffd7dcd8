use Rattle.std.proofs.Common.{◌≡◌, drop}
use Rattle.std.specs.List.{list_any}
use Rattle.qc_resolve.specs.Validated.{has_aggregate_item, item_step, none_shown}
use Rattle.qc_resolve.specs.Steps.{run}
use Rattle.qc_resolve.proofs.items.shown_items.Given as goal

abbrev pub invariant-loop-item : goal.invariant-loop-item
invariant-loop-item l =
    let step = item_step l.flags l.scope l.aggregated in
    (l.aggregated ≡ list_any has_aggregate_item l.items) × (run step l.items none_shown ≡ run step (drop l.item-index l.items) l.shown)
