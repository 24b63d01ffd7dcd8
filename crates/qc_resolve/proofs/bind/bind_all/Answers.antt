use Rattle.std.proofs.Common.{◌≡◌, sym, ◌∙◌, ap, ◌∷◌, ◌++◌, [], Ok, Err, subst}
use Rattle.std.specs.List.{AllByRecursion}
use Rattle.std.proofs.lemmas.Result.{err_from_is_err_and}
use Rattle.qc_sql.specs.Rows.{◌>>=◌, each, bind}
use Rattle.qc_resolve.specs.Fit.{IsSoundBound}
use Rattle.qc_resolve.specs.Steps.{run, push_made}
use Rattle.qc_resolve.proofs.Exits.{refused_too}
use Rattle.qc_resolve.proofs.Lists.{all_and}
use Rattle.qc_resolve.proofs.Steps.{run_on, run_refused, each_by_run}
use Rattle.qc_resolve.proofs.bind.bind_all.Goals as goal

pub loop-source-init : goal.loop-source-init
loop-source-init c =
    let f = bind c.args.database.now c.args.db.now in
    record {
      gives = each_by_run f c.args.sources.now ∙ ap (run (push_made f) c.args.sources.now) (sym c.new-bounds.ensures);
      sound = subst (AllByRecursion IsSoundBound) (sym c.new-bounds.ensures) tt;
    }

pub returns-in_err-bind-clause-gives : goal.returns-in_err-bind-clause-gives
returns-in_err-bind-clause-gives c =
    let p = err_from_is_err_and c.from_residual.result c.from_residual.ensures.1 in
    let f = bind c.args.database.now c.args.db.now in
    let s = c.source-item.result in
    rw (p.1, p.2)
    (refused_too (λ b. b) (λ bs. bs) c.in_err-bind.field-0.0 (f s) (each f c.args.sources.now)
    (λ e h. c.loop-source.invariant.gives
    ∙ run_refused (push_made f) c.args.sources.now c.loop-source.source-index s c.loop-source.bounds e c.loop-source-test.true c.source-item.is
    (ap (λ r. r >>= λ y. Ok (c.loop-source.bounds ++ y ∷ [])) h))
    c.in_err-bind.ensures.gives)

pub loop-source-preserved : goal.loop-source-preserved
loop-source-preserved c =
    let f = bind c.args.database.now c.args.db.now in
    let s = c.source-item.result in
    record {
      gives = c.loop-source.invariant.gives
          ∙ run_on (push_made f) c.args.sources.now c.loop-source.source-index s c.loop-source.bounds c.push.new.self c.loop-source-test.true c.source-item.is
          (ap (λ r. r >>= λ y. Ok (c.loop-source.bounds ++ y ∷ [])) c.in_ok-bind.ensures.gives ∙ ap Ok (sym c.in_ok-push.ensures.ok));
      sound = subst (AllByRecursion IsSoundBound) (sym c.in_ok-push.ensures.ok) (all_and IsSoundBound c.loop-source.bounds c.in_ok-bind.field-0 c.loop-source.invariant.sound c.in_ok-bind.ensures.sound);
    }
