use Rattle.std.proofs.Common.{◌≡◌, sym, ◌∙◌, ap}
use Rattle.std.specs.List.{list_any}
use Rattle.qc_sql.specs.Trees.{fold_expr, fold_expr-Concat, fold_expr-Call}
use Rattle.qc_sql.specs.Rows.{aggregate_at}
use Rattle.qc_resolve.proofs.Lists.{any_met, any_of_map}
use Rattle.qc_resolve.proofs.items.+aggregates.Goals as goal

pub is_aggregate-returns-in-Concat : goal.is_aggregate-returns-in-Concat
is_aggregate-returns-in-Concat t c =
    c.any_aggregate.ensures ∙ ap (list_any (fold_expr aggregate_at)) c.items.ensures
    ∙ sym (ap (fold_expr aggregate_at) c.in-Concat.is ∙ fold_expr-Concat aggregate_at c.in-Concat.parts ∙ any_of_map (fold_expr aggregate_at) c.in-Concat.parts)

pub is_aggregate-returns-in-Call : goal.is_aggregate-returns-in-Call
is_aggregate-returns-in-Call t c =
    c.any_aggregate-in-Call.ensures ∙ ap (list_any (fold_expr aggregate_at)) c.items-in-Call.ensures
    ∙ sym (ap (fold_expr aggregate_at) c.in-Call.is ∙ fold_expr-Call aggregate_at c.in-Call.word c.in-Call.arguments ∙ any_of_map (fold_expr aggregate_at) c.in-Call.arguments)

pub any_aggregate-returns-then-is_aggregate : goal.any_aggregate-returns-then-is_aggregate
any_aggregate-returns-then-is_aggregate t c =
    sym (any_met (fold_expr aggregate_at) c.args.exprs.now c.loop-expr.expr-index c.expr-item.result c.loop-expr-test.true c.expr-item.is (sym c.if-is_aggregate.ensures)) ∙ c.loop-expr.invariant
