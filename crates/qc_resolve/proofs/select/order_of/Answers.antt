use Rattle.std.proofs.Common.{◌≡◌, ◌∙◌, sym, ap, refl, true, false, Err}
use Rattle.qc_resolve.proofs.Parts.{order_given, order_refused}
use Rattle.qc_resolve.proofs.select.order_of.Goals as goal

pub returns-then-is_ordered_aggregate : goal.returns-then-is_ordered_aggregate
returns-then-is_ordered_aggregate c =
    order_refused c.args.select.now c.args.scope.now true c.if-is_ordered_aggregate.ensures refl ∙ ap Err (sym c.in_ok-not_supported.ensures)

pub returns : goal.returns
returns c =
    order_given c.args.select.now c.args.scope.now false c.if-is_ordered_aggregate.ensures c.order_keys.result c.items.result.now refl c.items.ensures c.order_keys.ensures
