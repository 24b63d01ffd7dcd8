use Rattle.std.proofs.Common.{◌≡◌, sym, ◌∙◌, ap, ◌∷◌, ◌++◌, [], Ok, Err, subst, List, length}
use Rattle.std.proofs.lemmas.Result.{err_from_is_err_and}
use Rattle.qc_types.specs.Answers.{Gives}
use Rattle.qc_sql.specs.Rules.{in_capitals}
use Rattle.qc_sql.specs.Rows.{◌>>=◌, Words}
use Rattle.qc_resolve.specs.declared.formula.Formula.{Formula}
use Rattle.qc_resolve.specs.declared.resolved.Fold.{Fold}
use Rattle.qc_resolve.specs.declared.values.Valued.{Valued}
use Rattle.qc_resolve.specs.Steps.{run}
use Rattle.qc_resolve.specs.Values.{Validated, call_validated, group_validated, group_step, ways}
use Rattle.qc_resolve.specs.Views.{validated_of}
use Rattle.qc_resolve.proofs.Exits.{refused_too, gives_with}
use Rattle.qc_resolve.proofs.InGroup.{step_of, joined, concat_in_group, call_in_group}
use Rattle.qc_resolve.proofs.Steps.{run_on, run_refused}
use Rattle.qc_resolve.proofs.groups.+group.Goals as goal

pub group_value-returns-in_err-parts-in-Concat : goal.group_value-returns-in_err-parts-in-Concat
group_value-returns-in_err-parts-in-Concat t c =
    let p = err_from_is_err_and c.from_residual-in_err-parts-in-Concat.result c.from_residual-in_err-parts-in-Concat.ensures.1 in
    let scope = c.args.scope.now in
    rw (p.1, p.2)
    (refused_too (λ (fs : List Formula). (fs, c.args.folds.now)) (λ (v : Valued). (validated_of v, c.args.folds.now)) c.in_err-parts-in-Concat.field-0.0 (run (step_of scope) c.items.result.now ([], c.args.folds.now)) (group_validated scope c.args.expr.now c.args.folds.now)
    (λ e h. concat_in_group scope c.args.expr.now c.in-Concat.parts c.items.result.now c.args.folds.now c.in-Concat.is c.items.ensures ∙ ap (λ r. r >>= joined) h)
    c.in_err-parts-in-Concat.ensures)

pub group_value-returns-in_ok-parts-in-Concat : goal.group_value-returns-in_ok-parts-in-Concat
group_value-returns-in_ok-parts-in-Concat t c =
    concat_in_group c.args.scope.now c.args.expr.now c.in-Concat.parts c.items.result.now c.args.folds.now c.in-Concat.is c.items.ensures
    ∙ ap (λ r. r >>= joined) c.in_ok-parts-in-Concat.ensures
    ∙ ap (λ (x : Validated). Ok (x, c.group_values.new.folds)) (sym c.computed-in-Concat.ensures)

pub group_value-returns-in-Call : goal.group_value-returns-in-Call
group_value-returns-in-Call t c =
    gives_with validated_of c.args.folds.now c.call_value.result (call_validated c.args.scope.now (in_capitals c.bytes.result.now) (length c.items-in-Call.result.now)) (group_validated c.args.scope.now c.args.expr.now c.args.folds.now)
    (call_in_group c.args.scope.now c.args.expr.now c.in-Call.word c.bytes.result.now c.in-Call.arguments c.items-in-Call.result.now c.args.folds.now c.in-Call.is c.bytes.ensures c.items-in-Call.ensures)
    c.call_value.ensures

pub group_values-loop-expr-init : goal.group_values-loop-expr-init
group_values-loop-expr-init t c = ap (λ (fs : List Formula). run (step_of c.args.scope.now) c.args.exprs.now (fs, c.args.folds.now)) (sym c.new-formulas.ensures)

pub group_values-returns-in_err-value : goal.group_values-returns-in_err-value
group_values-returns-in_err-value t c =
    let p = err_from_is_err_and c.from_residual.result c.from_residual.ensures.1 in
    let step = step_of c.args.scope.now in
    let x = c.expr-item.result in
    rw (p.1, p.2)
    (refused_too (λ (v : Valued). (validated_of v, c.args.folds.now)) (λ (fs : List Formula). (fs, c.args.folds.now)) c.in_err-value.field-0.0 (group_validated c.args.scope.now x c.loop-expr.folds) (run step c.args.exprs.now ([], c.args.folds.now))
    (λ e h. c.loop-expr.invariant
    ∙ run_refused step c.args.exprs.now c.loop-expr.expr-index x (c.loop-expr.formulas, c.loop-expr.folds) e c.loop-expr-test.true c.expr-item.is
    (ap (λ r. r >>= λ y. Ok (c.loop-expr.formulas ++ y.0.formula ∷ [], y.1)) h))
    c.in_err-value.ensures)

pub group_values-loop-expr-preserved : goal.group_values-loop-expr-preserved
group_values-loop-expr-preserved t c =
    let step = step_of c.args.scope.now in
    c.loop-expr.invariant
    ∙ run_on step c.args.exprs.now c.loop-expr.expr-index c.expr-item.result (c.loop-expr.formulas, c.loop-expr.folds) (c.push.new.self, c.group_value.new.folds) c.loop-expr-test.true c.expr-item.is
    (ap (λ r. r >>= λ y. Ok (c.loop-expr.formulas ++ y.0.formula ∷ [], y.1)) c.in_ok-value.ensures ∙ ap (λ (fs : List Formula). Ok (fs, c.group_value.new.folds)) (sym c.in_ok-push.ensures.ok))
