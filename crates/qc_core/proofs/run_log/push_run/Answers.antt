use Rattle.std.proofs.Common.{◌<◌, arith, sym, ap, ◌∙◌, subst, refl}
use Rattle.qc_model.specs.declared.events.Event.TheVariants as event
use Rattle.qc_turn.specs.Views.{idle_of}
use Rattle.qc_turn.specs.Seats.{words, holder, MayRelease, SameHolder, with_value}
use Rattle.qc_core.specs.Whole.{with_event}
use Rattle.qc_core.proofs.Noting.{note_sound, event_follows}
use Rattle.qc_core.proofs.Standing.{value_stands}
use Rattle.qc_core.proofs.run_log.push_run.Goals as goal

pub returns-clause-stands : goal.returns-clause-stands
returns-clause-stands c =
    let h = c.args.held.now in
    let e = event.Run c.args.who c.args.how in
    let n = c.requires.next in
    let ps : 0 < (holder h).number = omega (arith, h.seat.now.numbered.0, h.seat.now.numbered.1) in
    let is = c.push.ensures.pushed ∙ ap (with_event e) c.value.ensures.value in
    subst (λ x. MayRelease (with_value h x) × SameHolder h (with_value h x)) (sym is)
    (value_stands h (with_event e h.value) c.requires.stands
    (note_sound (words h) h.value c.args.who c.args.how (holder h).number c.requires.stands.sound ps n.session n.number n.free c.requires.nothing c.requires.room)
    (event_follows h.value e c.args.who (holder h).number (idle_of (holder h).found) refl ps n.session))

pub returns-clause-pushed : goal.returns-clause-pushed
returns-clause-pushed c = c.push.ensures.pushed ∙ ap (with_event (event.Run c.args.who c.args.how)) c.value.ensures.value
