use Rattle.std.proofs.Common.{◌≡◌, ℕ, sym, subst}
use Rattle.qc_core.specs.declared.server_state.ServerState.{ServerState}
use Rattle.qc_statements.specs.Sound.{IsFitState}
use Rattle.qc_sql.specs.Effects.{effect}
use Rattle.qc_model.specs.Session.{base}
use Rattle.std.proofs.Common.{Ok, Err}
use Rattle.qc_serve.specs.Ends.{RowsAs}
use Rattle.qc_serve.specs.declared.rows.RowsEnd.{RowsEnd}
use Rattle.qc_serve.specs.declared.rows.RowsEnd.TheVariants as rows
use Rattle.qc_model.specs.declared.events.Event.TheVariants as event
use Rattle.qc_model.specs.declared.events.How.TheVariants as how
use Rattle.qc_serve.proofs.Changing.{rows_refused}
use Rattle.qc_serve.proofs.Deciding.{answer_none_on, answer_one_on, made_one}
use Rattle.qc_serve.proofs.Endings.{none_pushed}
use Rattle.qc_serve.proofs.rows.commit_rows.Goals as goal

pub commit_effect-requires-clause-fit : goal.commit_effect-requires-clause-fit
commit_effect-requires-clause-fit g c = subst (λ (p : ServerState). IsFitState p.journal.events c.args.state.now) (sym c.effect_now.ensures.ready.2) c.requires.fit

pub commit_effect-requires-clause-effect : goal.commit_effect-requires-clause-effect
commit_effect-requires-clause-effect g c =
    let x = c.args.state.now.state in
    subst (λ (p : ServerState). effect c.args.statement.now (base x p.journal.events) x.db x.session ≡ Ok c.in-Ok.effect) (sym c.effect_now.ensures.ready.2) c.in-Ok.ensures.gives

pub returns-in-Ok-clause-pushes : goal.returns-in-Ok-clause-pushes
returns-in-Ok-clause-pushes g c =
    let n = c.commit_effect in
    let k = c.effect_now.ensures.ready in
    answer_one_on c.args.who c.args.held.now c.effect_now.new.held n.new.held (λ (r : ℕ × RowsEnd) journal e. RowsAs c.args.who c.args.state.now.state c.args.statement.now journal e r.1) n.result k.1 k.2 n.ensures.pushes

pub returns-in-Ok-clause-none : goal.returns-in-Ok-clause-none
returns-in-Ok-clause-none g c =
    let n = c.commit_effect in
    let k = c.effect_now.ensures.ready in
    answer_none_on c.args.held.now c.effect_now.new.held n.new.held n.result k.1 k.2 n.ensures.none

pub returns-in-Err-Other-clause-pushes : goal.returns-in-Err-Other-clause-pushes
returns-in-Err-Other-clause-pushes g c =
    let h = c.args.held.now in
    let x = c.args.state.now in
    let k = c.effect_now.ensures.ready in
    let is : effect c.args.statement.now (base x.state h.value.journal.events) x.state.db x.state.session ≡ Err c.in-Err-Other.error = rw c.in-Err-Other.field-0-is at c.in-Err-Other.ensures.gives in
    rw c.in-Err-Other.field-0-is (
    made_one c.args.who (event.Run c.args.who how.Other) h c.effect_now.new.held c.push_run.new.held (λ journal e. RowsAs c.args.who x.state c.args.statement.now journal e (rows.Refused c.in-Err-Other.error))
    (rows_refused c.args.who h c.args.statement.now x c.in-Err-Other.error c.requires.ready c.requires.fit c.requires.short is) k.1 k.2 c.push_run.ensures.pushes
    )

pub returns-in-Err-Memory-clause-none : goal.returns-in-Err-Memory-clause-none
returns-in-Err-Memory-clause-none g c = let k = c.effect_now.ensures.ready in none_pushed c.args.who c.args.held.now c.effect_now.new.held k.1 k.0 k.2
