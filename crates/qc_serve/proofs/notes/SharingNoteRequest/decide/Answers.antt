use Rattle.std.proofs.Common.{◌≡◌, refl, subst, sym}
use Rattle.qc_model.specs.declared.events.Event.TheVariants as event
use Rattle.qc_model.specs.declared.events.How.TheVariants as how
use Rattle.qc_core.specs.declared.server_state.ServerState.{ServerState}
use Rattle.qc_serve.specs.Ends.{Makes}
use Rattle.qc_serve.proofs.Deciding.{made_one}
use Rattle.qc_serve.proofs.Pushing.{run_pushed}
use Rattle.qc_serve.proofs.Seating.{pushes_on}
use Rattle.qc_serve.proofs.Turning.{has_one, one_turns}
use Rattle.qc_serve.proofs.notes.SharingNoteRequest.decide.Goals as goal

pub returns-clause-turns : goal.returns-clause-turns
returns-clause-turns c =
    let who = c.args.who in
    let e = event.Run who how.Other in
    let h = c.args.held.now in
    let g = c.share_base.new.held in
    let d = c.in_ok-database.ensures.ready in
    let n = c.note-place in
    one_turns who e h n.new.held c.requires.prepared (pushes_on who e h g n.new.held d.1 d.2 (run_pushed who how.Other g n.new.held d.0 n.ensures.stands n.ensures.ranges n.ensures.pushed))

pub returns-clause-gives : goal.returns-clause-gives
returns-clause-gives c =
    let who = c.args.who in
    let e = event.Run who how.Other in
    let h = c.args.held.now in
    let g = c.share_base.new.held in
    let ok = c.in_ok-database in
    let d = ok.ensures.ready in
    let n = c.note-place in
    has_one who e (λ w journal x. (x ≡ event.Run w how.Other) × Makes journal ok.database) h n.new.held n.result c.requires.prepared
    (pushes_on who e h g n.new.held d.1 d.2 (run_pushed who how.Other g n.new.held d.0 n.ensures.stands n.ensures.ranges n.ensures.pushed)) n.ensures.number (refl, ok.ensures.makes)
