use Rattle.std.proofs.Common.{◌≡◌, sym, ◌∙◌, ap, ◌∷◌, ◌++◌, [], Ok, Err}
use Rattle.std.proofs.lemmas.Result.{err_from_is_err_and}
use Rattle.qc_sql.specs.Rows.{◌>>=◌, each}
use Rattle.qc_resolve.specs.Columns.{find_spot}
use Rattle.qc_resolve.specs.Validated.{key_validated}
use Rattle.qc_resolve.specs.Steps.{run, push_made}
use Rattle.qc_resolve.specs.Views.{spot_of}
use Rattle.qc_resolve.proofs.Exits.{refused_too}
use Rattle.qc_resolve.proofs.Steps.{run_on, run_refused, each_by_run}
use Rattle.qc_resolve.proofs.order.order_keys.Goals as goal

pub loop-order-init : goal.loop-order-init
loop-order-init c = each_by_run (key_validated c.args.scope.now) c.args.orders.now ∙ ap (run (push_made (key_validated c.args.scope.now)) c.args.orders.now) (sym c.new-keys.ensures)

pub returns-in_err-place : goal.returns-in_err-place
returns-in_err-place c =
    let p = err_from_is_err_and c.from_residual.result c.from_residual.ensures.1 in
    let f = key_validated c.args.scope.now in
    let o = c.order-item.result in
    rw (p.1, p.2)
    (refused_too spot_of (λ ks. ks) c.in_err-place.field-0.0 (find_spot c.args.scope.now.bounds o.column) (each f c.args.orders.now)
    (λ e h. c.loop-order.invariant
    ∙ run_refused (push_made f) c.args.orders.now c.loop-order.order-index o c.loop-order.keys e c.loop-order-test.true c.order-item.is
    (ap (λ r. (r >>= λ s. Ok (record { desc = o.desc; place = s.place })) >>= λ y. Ok (c.loop-order.keys ++ y ∷ [])) h))
    c.in_err-place.ensures)

pub loop-order-preserved : goal.loop-order-preserved
loop-order-preserved c =
    let f = key_validated c.args.scope.now in
    let o = c.order-item.result in
    c.loop-order.invariant
    ∙ run_on (push_made f) c.args.orders.now c.loop-order.order-index o c.loop-order.keys c.push.new.self c.loop-order-test.true c.order-item.is
    (ap (λ r. (r >>= λ s. Ok (record { desc = o.desc; place = s.place })) >>= λ y. Ok (c.loop-order.keys ++ y ∷ [])) c.in_ok-place.ensures ∙ ap Ok (sym c.in_ok-push.ensures.ok))
