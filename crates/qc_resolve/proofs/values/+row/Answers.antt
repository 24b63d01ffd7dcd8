use Rattle.std.proofs.Common.{◌≡◌, ◌∷◌, ◌++◌, [], sym, ◌∙◌, ap, subst, Ok, Err}
use Rattle.std.proofs.lemmas.Result.{err_from_is_err_and}
use Rattle.qc_types.specs.Answers.{Gives}
use Rattle.qc_sql.specs.Rows.{◌>>=◌, each, Words}
use Rattle.qc_resolve.specs.declared.formula.Formula.TheVariants as form
use Rattle.qc_resolve.specs.Values.{computed, row_validated}
use Rattle.qc_resolve.specs.Steps.{run, push_made}
use Rattle.qc_resolve.specs.Views.{validated_of}
use Rattle.qc_resolve.proofs.Steps.{run_on, run_refused, each_by_run}
use Rattle.qc_resolve.proofs.Exits.{refused_too}
use Rattle.qc_resolve.proofs.InRow.{formula_of, concat_in_row, call_in_row}
use Rattle.qc_resolve.proofs.values.+row.Goals as goal

pub row_value-returns-in_err-parts-in-Concat : goal.row_value-returns-in_err-parts-in-Concat
row_value-returns-in_err-parts-in-Concat t c =
    let p = err_from_is_err_and c.from_residual-in_err-parts-in-Concat.result c.from_residual-in_err-parts-in-Concat.ensures.1 in
    let scope = c.args.scope.now in
    rw (p.1, p.2)
    (refused_too (λ fs. fs) validated_of c.in_err-parts-in-Concat.field-0.0 (each (formula_of scope) c.items.result.now) (row_validated scope c.args.expr.now)
    (λ e h. concat_in_row scope c.args.expr.now c.in-Concat.parts c.items.result.now c.in-Concat.is c.items.ensures ∙ ap (λ r. r >>= λ fs. Ok (computed Words (form.Concat fs))) h)
    c.in_err-parts-in-Concat.ensures)

pub row_value-returns-in_ok-parts-in-Concat : goal.row_value-returns-in_ok-parts-in-Concat
row_value-returns-in_ok-parts-in-Concat t c =
    concat_in_row c.args.scope.now c.args.expr.now c.in-Concat.parts c.items.result.now c.in-Concat.is c.items.ensures
    ∙ ap (λ r. r >>= λ fs. Ok (computed Words (form.Concat fs))) c.in_ok-parts-in-Concat.ensures
    ∙ ap Ok (sym c.computed-in-Concat.ensures)

pub row_value-returns-in-Call : goal.row_value-returns-in-Call
row_value-returns-in-Call t c =
    subst (Gives validated_of (λ e. e) c.call_value.result)
    (sym (call_in_row c.args.scope.now c.args.expr.now c.in-Call.word c.bytes.result.now c.in-Call.arguments c.items-in-Call.result.now c.in-Call.is c.bytes.ensures c.items-in-Call.ensures))
    c.call_value.ensures

pub row_values-returns-in_err-value : goal.row_values-returns-in_err-value
row_values-returns-in_err-value t c =
    let p = err_from_is_err_and c.from_residual.result c.from_residual.ensures.1 in
    let f = formula_of c.args.scope.now in
    rw (p.1, p.2)
    (refused_too validated_of (λ fs. fs) c.in_err-value.field-0.0 (row_validated c.args.scope.now c.expr-item.result) (each f c.args.exprs.now)
    (λ e h. c.loop-expr.invariant
    ∙ run_refused (push_made f) c.args.exprs.now c.loop-expr.expr-index c.expr-item.result c.loop-expr.formulas e c.loop-expr-test.true c.expr-item.is
    (ap (λ r. (r >>= λ v. Ok v.formula) >>= λ y. Ok (c.loop-expr.formulas ++ y ∷ [])) h))
    c.in_err-value.ensures)

pub row_values-loop-expr-init : goal.row_values-loop-expr-init
row_values-loop-expr-init t c =
    each_by_run (formula_of c.args.scope.now) c.args.exprs.now ∙ ap (run (push_made (formula_of c.args.scope.now)) c.args.exprs.now) (sym c.new-formulas.ensures)

pub row_values-loop-expr-preserved : goal.row_values-loop-expr-preserved
row_values-loop-expr-preserved t c =
    let f = formula_of c.args.scope.now in
    c.loop-expr.invariant
    ∙ run_on (push_made f) c.args.exprs.now c.loop-expr.expr-index c.expr-item.result c.loop-expr.formulas c.push.new.self c.loop-expr-test.true c.expr-item.is
    (ap (λ r. (r >>= λ v. Ok v.formula) >>= λ y. Ok (c.loop-expr.formulas ++ y ∷ [])) c.in_ok-value.ensures ∙ ap Ok (sym c.in_ok-push.ensures.ok))
