use Rattle.std.proofs.Common.{◌≡◌, drop}
use Rattle.std.specs.List.{list_any}
use Rattle.qc_sql.specs.Trees.{fold_expr}
use Rattle.qc_sql.specs.Rows.{aggregate_at}
use Rattle.qc_resolve.proofs.items.+aggregates.Given as goal

abbrev pub invariant-any_aggregate-loop-expr : goal.invariant-any_aggregate-loop-expr
invariant-any_aggregate-loop-expr l = list_any (fold_expr aggregate_at) (drop l.expr-index l.exprs) ≡ list_any (fold_expr aggregate_at) l.exprs
