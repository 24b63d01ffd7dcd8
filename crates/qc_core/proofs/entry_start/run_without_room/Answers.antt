use Rattle.std.proofs.Common.{◌<◌, arith, sym, ap, subst, ◌∙◌}
use Rattle.qc_turn.specs.Tasks.{listed_for}
use Rattle.qc_turn.specs.Seats.{holder, MayRelease, SameHolder, with_value}
use Rattle.qc_core.specs.declared.server_state.ServerState.{ServerState}
use Rattle.qc_core.specs.Whole.{with_event, tasks_of}
use Rattle.qc_core.proofs.Starting.{plain_event, plain_stands}
use Rattle.qc_core.proofs.entry_start.run_without_room.Goals as goal

pub returns-clause-stands : goal.returns-clause-stands
returns-clause-stands c =
    let h = c.args.held.now in
    let e = plain_event c.args.who c.args.none h c.requires in
    let ps : 0 < (holder h).number = omega (arith, h.seat.now.numbered.0, h.seat.now.numbered.1) in
    subst (λ x. MayRelease (with_value h x) × SameHolder h (with_value h x)) (sym (c.push.ensures.pushed ∙ ap (with_event e) c.value.ensures.value)) (plain_stands c.args.who c.args.none h c.requires ps)

pub returns-clause-pushed : goal.returns-clause-pushed
returns-clause-pushed c = c.push.ensures.pushed ∙ ap (with_event (plain_event c.args.who c.args.none c.args.held.now c.requires)) c.value.ensures.value

pub returns-clause-listed : goal.returns-clause-listed
returns-clause-listed c =
    let h = c.args.held.now in
    ap (λ (x : ServerState). listed_for (holder h).number (tasks_of x)) (c.push.ensures.pushed ∙ ap (with_event (plain_event c.args.who c.args.none h c.requires)) c.value.ensures.value) ∙ c.requires.next.free
