use Rattle.std.proofs.Common.{◌≡◌, sym, ◌∙◌, ap, ◌∷◌, ◌++◌, [], Ok, Err}
use Rattle.std.proofs.lemmas.Result.{err_from_is_err_and}
use Rattle.qc_sql.specs.Rows.{◌>>=◌, each}
use Rattle.qc_resolve.specs.declared.test.Test.TheVariants as made
use Rattle.qc_resolve.specs.Validated.{test_validated}
use Rattle.qc_resolve.specs.Steps.{run, push_made}
use Rattle.qc_resolve.proofs.Conds.{any_validated, all_validated}
use Rattle.qc_resolve.proofs.Exits.{refused_too}
use Rattle.qc_resolve.proofs.Steps.{run_on, run_refused, each_by_run}
use Rattle.qc_resolve.proofs.conditions.+tests.Goals as goal

pub test-returns-in_err-tests-in-Or : goal.test-returns-in_err-tests-in-Or
test-returns-in_err-tests-in-Or t c =
    let p = err_from_is_err_and c.from_residual.result c.from_residual.ensures.1 in
    let scope = c.args.scope.now in
    rw (p.1, p.2)
    (refused_too (λ ts. ts) (λ x. x) c.in_err-tests-in-Or.field-0.0 (each (test_validated scope) c.items.result.now) (test_validated scope c.args.cond.now)
    (λ e h. any_validated scope c.args.cond.now c.in-Or.all c.items.result.now c.in-Or.is c.items.ensures ∙ ap (λ r. r >>= λ ts. Ok (made.Any ts)) h)
    c.in_err-tests-in-Or.ensures)

pub test-returns-in_err-tests-in-And : goal.test-returns-in_err-tests-in-And
test-returns-in_err-tests-in-And t c =
    let p = err_from_is_err_and c.from_residual-in_err-tests-in-And.result c.from_residual-in_err-tests-in-And.ensures.1 in
    let scope = c.args.scope.now in
    rw (p.1, p.2)
    (refused_too (λ ts. ts) (λ x. x) c.in_err-tests-in-And.field-0.0 (each (test_validated scope) c.items-in-And.result.now) (test_validated scope c.args.cond.now)
    (λ e h. all_validated scope c.args.cond.now c.in-And.all c.items-in-And.result.now c.in-And.is c.items-in-And.ensures ∙ ap (λ r. r >>= λ ts. Ok (made.All ts)) h)
    c.in_err-tests-in-And.ensures)

pub test-returns-in_ok-tests-in-Or : goal.test-returns-in_ok-tests-in-Or
test-returns-in_ok-tests-in-Or t c =
    any_validated c.args.scope.now c.args.cond.now c.in-Or.all c.items.result.now c.in-Or.is c.items.ensures ∙ ap (λ r. r >>= λ ts. Ok (made.Any ts)) c.in_ok-tests-in-Or.ensures

pub test-returns-in_ok-tests-in-And : goal.test-returns-in_ok-tests-in-And
test-returns-in_ok-tests-in-And t c =
    all_validated c.args.scope.now c.args.cond.now c.in-And.all c.items-in-And.result.now c.in-And.is c.items-in-And.ensures ∙ ap (λ r. r >>= λ ts. Ok (made.All ts)) c.in_ok-tests-in-And.ensures

pub tests-loop-cond-init : goal.tests-loop-cond-init
tests-loop-cond-init t c =
    let f = test_validated c.args.scope.now in
    each_by_run f c.args.conds.now ∙ ap (run (push_made f) c.args.conds.now) (sym c.new-tests.ensures)

pub tests-returns-in_err-test : goal.tests-returns-in_err-test
tests-returns-in_err-test t c =
    let p = err_from_is_err_and c.from_residual.result c.from_residual.ensures.1 in
    let f = test_validated c.args.scope.now in
    let x = c.cond-item.result in
    rw (p.1, p.2)
    (refused_too (λ b. b) (λ bs. bs) c.in_err-test.field-0.0 (f x) (each f c.args.conds.now)
    (λ e h. c.loop-cond.invariant
    ∙ run_refused (push_made f) c.args.conds.now c.loop-cond.cond-index x c.loop-cond.tests e c.loop-cond-test.true c.cond-item.is
    (ap (λ r. r >>= λ y. Ok (c.loop-cond.tests ++ y ∷ [])) h))
    c.in_err-test.ensures)

pub tests-loop-cond-preserved : goal.tests-loop-cond-preserved
tests-loop-cond-preserved t c =
    let f = test_validated c.args.scope.now in
    let x = c.cond-item.result in
    c.loop-cond.invariant
    ∙ run_on (push_made f) c.args.conds.now c.loop-cond.cond-index x c.loop-cond.tests c.push.new.self c.loop-cond-test.true c.cond-item.is
    (ap (λ r. r >>= λ y. Ok (c.loop-cond.tests ++ y ∷ [])) c.in_ok-test.ensures ∙ ap Ok (sym c.in_ok-push.ensures.ok))
