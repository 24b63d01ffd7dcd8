use Rattle.std.proofs.Common.{◌≡◌, [], drop}
use Rattle.qc_resolve.specs.Values.{group_step, ways}
use Rattle.qc_resolve.specs.Steps.{run}
use Rattle.qc_resolve.proofs.InGroup.{step_of}
use Rattle.qc_resolve.proofs.groups.+group.Given as goal

abbrev pub invariant-group_values-loop-expr : goal.invariant-group_values-loop-expr
invariant-group_values-loop-expr l =
    run (step_of l.scope) l.exprs ([], l.fn.folds) ≡ run (step_of l.scope) (drop l.expr-index l.exprs) (l.formulas, l.folds)
