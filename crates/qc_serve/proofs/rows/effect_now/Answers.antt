use Rattle.std.proofs.Common.{◌≡◌, ap, ◌∙◌, subst}
use Rattle.qc_types.specs.Answers.{Gives}
use Rattle.qc_types.specs.declared.sql_error.SqlError.{SqlError}
use Rattle.qc_sql.specs.Database.{Database}
use Rattle.qc_sql.specs.Effects.{Effect, effect}
use Rattle.qc_model.specs.Session.{base}
use Rattle.qc_trx.specs.SnapshotStates.{seen_on}
use Rattle.qc_core.specs.declared.server_state.ServerState.{ServerState}
use Rattle.qc_serve.proofs.Changing.{sees_base}
use Rattle.qc_serve.proofs.Seating.{ready_same}
use Rattle.qc_serve.proofs.rows.effect_now.Goals as goal

pub returns-clause-ready : goal.returns-clause-ready
returns-clause-ready g c = ready_same c.args.who c.args.held.now c.value.result.now c.requires.ready c.value.ensures.value

pub returns-clause-gives : goal.returns-clause-gives
returns-clause-gives g c =
    let h = c.args.held.now in
    let x = c.args.state.now in
    let there : c.database.result.now ≡ h.value.database = c.database.ensures ∙ ap (λ (p : ServerState). p.database) c.value.ensures.value in
    let seen : seen_on c.database.result.now x ≡ base x.state h.value.journal.events = ap (λ (d : Database). seen_on d x) there ∙ sees_base c.args.who h x c.requires.ready c.requires.fit in
    subst (λ (d : Database). Gives (λ (e : Effect). e) (λ (e : SqlError). e) c.effect_on_view.result (effect c.args.statement.now d x.state.db x.state.session)) seen c.effect_on_view.ensures
