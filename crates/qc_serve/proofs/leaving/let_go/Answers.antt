use Rattle.std.proofs.Common.{sym, subst}
use Rattle.qc_model.specs.declared.events.Event.{Event}
use Rattle.qc_turn.specs.declared.view.View.{View}
use Rattle.qc_turn.specs.Seats.{holder, words}
use Rattle.qc_core.specs.declared.server_state.ServerState.{ServerState}
use Rattle.qc_serve.specs.Leaving.{HasLetGo}
use Rattle.qc_serve.proofs.Parting.{has_let_go, rests_content}
use Rattle.qc_serve.proofs.leaving.let_go.Goals as goal

pub release-requires-clause-content : goal.release-requires-clause-content
release-requires-clause-content c = rests_content c.args.held c.requires

pub returns-clause-rested : goal.returns-clause-rested
returns-clause-rested c =
    let h = c.args.held in
    let r = c.requires in
    subst (λ (w : View ServerState Event). HasLetGo (holder h) w h.value) (sym c.release.ensures.view) (has_let_go (holder h) h.value (words h) r.seated r.rests)
