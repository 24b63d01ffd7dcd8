use Rattle.std.proofs.Common.{sym, subst}
use Rattle.std.proofs.lemmas.Result.{err_from_is_err_and}
use Rattle.qc_types.specs.Answers.{Gives}
use Rattle.qc_sql.specs.Effects.{Effect, Validated, update_effect}
use Rattle.qc_write.specs.Targets.{bound_of, target_in}
use Rattle.qc_resolve.proofs.Exits.{refused_too}
use Rattle.qc_write.proofs.Puts.{update_found, update_lost}
use Rattle.qc_write.proofs.update.update.Goals as goal

pub returns-in_err-target : goal.returns-in_err-target
returns-in_err-target g c =
    let p = err_from_is_err_and c.from_residual.result c.from_residual.ensures.1 in
    let d = c.args.database.now in
    let db = c.args.db.now in
    rw (p.1, p.2)
    (refused_too bound_of (λ (e : Effect). e) c.in_err-target.field-0.0 (target_in d db c.args.update.now.table) (update_effect d db c.args.session c.args.update.now)
    (λ e h. update_lost d db c.args.session c.args.update.now e h)
    c.in_err-target.ensures.gives)

pub returns : goal.returns
returns g c =
    let t = c.in_ok-target.target in
    subst (λ (m : Validated). Gives (λ (e : Effect). e) (λ e. e) c.update_in.result m)
    (sym (update_found c.args.database.now c.args.db.now c.args.session c.args.update.now t.name t.version.now c.in_ok-target.ensures.sound c.in_ok-target.ensures.gives c.in_ok-target.ensures.name))
    c.update_in.ensures
