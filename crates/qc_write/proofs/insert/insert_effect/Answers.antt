use Rattle.std.proofs.Common.{◌≡◌, sym, subst, Err}
use Rattle.std.proofs.lemmas.Result.{err_from_is_err_and}
use Rattle.qc_types.specs.Answers.{Gives}
use Rattle.qc_types.specs.declared.sql_error.SqlError.{SqlError}
use Rattle.qc_sql.specs.Rows.{Bound}
use Rattle.qc_sql.specs.Effects.{Effect, Validated, insert_effect}
use Rattle.qc_write.specs.Targets.{bound_of, target_in}
use Rattle.qc_resolve.proofs.Exits.{refused_too}
use Rattle.qc_write.proofs.Whole.{insert_is, insert_refused}
use Rattle.qc_write.proofs.insert.insert_effect.Goals as goal

pub returns-in_err-target : goal.returns-in_err-target
returns-in_err-target g c =
    let p = err_from_is_err_and c.from_residual.result c.from_residual.ensures.1 in
    let d = c.args.database.now in
    let db = c.args.db.now in
    let insert = c.args.insert.now in
    rw (p.1, p.2)
    (refused_too bound_of (λ (e : Effect). e) c.in_err-target.field-0.0 (target_in d db insert.table) (insert_effect d db insert) (λ e h. insert_refused d db insert e h) c.in_err-target.ensures.gives)

pub returns : goal.returns
returns g c =
    subst (λ (m : Validated). Gives (λ (e : Effect). e) (λ (e : SqlError). e) c.insert_into.result m)
    (sym (insert_is c.args.database.now c.args.db.now c.args.insert.now (bound_of c.in_ok-target.target) c.in_ok-target.ensures.gives c.in_ok-target.ensures.name))
    c.insert_into.ensures
