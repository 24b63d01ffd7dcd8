use Rattle.std.proofs.Common.{ℕ, refl, sym, subst}
use Rattle.qc_key.specs.Hash.{hash}
use Rattle.qc_model.specs.declared.events.Event.TheVariants as event
use Rattle.qc_turn.specs.Views.{idle_of}
use Rattle.qc_turn.specs.Seats.{words, holder}
use Rattle.qc_sound.specs.Moment.{at_rest}
use Rattle.qc_core.specs.declared.server_state.ServerState.{ServerState}
use Rattle.qc_core.specs.FillEnd.{MayGiveUpFill, EndsFill, IsGone}
use Rattle.qc_core.proofs.Standing.{value_stands}
use Rattle.qc_core.proofs.Filling.{fills_of, gone_licensed, ends_follows}
use Rattle.qc_core.proofs.fill_end.end_given_up.Goals as goal

pub give_up-requires : goal.give_up-requires
give_up-requires c =
    let h = c.args.held.now in
    let n = (holder h).number in
    let sound = c.requires.stands.sound in
    let f = fills_of h.value n c.args.serial c.requires.fills.0 c.requires.fills.1 in
    let u : MayGiveUpFill n c.args.serial c.args.why h.value = record { words = words h; names = sound.0; whole = sound.1; fills = f; licensed = gone_licensed (at_rest hash) sound.0 (words h) h.value n c.args.serial sound.1 f c.args.why c.requires.there c.requires.licensed } in
    subst (λ (p : ℕ × ServerState). MayGiveUpFill p.0 c.args.serial c.args.why p.1) (λ i. (sym c.number-seat.ensures i, sym c.value.ensures.value i)) u

pub returns-clause-stands : goal.returns-clause-stands
returns-clause-stands c =
    let h = c.args.held.now in
    let n = (holder h).number in
    let sound = c.requires.stands.sound in
    let f = fills_of h.value n c.args.serial c.requires.fills.0 c.requires.fills.1 in
    let u : MayGiveUpFill n c.args.serial c.args.why h.value = record { words = words h; names = sound.0; whole = sound.1; fills = f; licensed = gone_licensed (at_rest hash) sound.0 (words h) h.value n c.args.serial sound.1 f c.args.why c.requires.there c.requires.licensed } in
    let ev = event.Gone c.args.serial c.args.why in
    let ends = subst (λ (p : ℕ × ServerState). (u : MayGiveUpFill p.0 c.args.serial c.args.why p.1) → EndsFill ev p.0 u.words p.1 c.give_up.new.self) (λ i. (c.number-seat.ensures i, c.value.ensures.value i)) c.give_up.ensures.ends u in
    value_stands h c.give_up.new.self c.requires.stands (ends.names, ends.whole) (ends_follows ev n (words h) h.value c.give_up.new.self (idle_of (holder h).found) refl ends)

pub returns-clause-ends : goal.returns-clause-ends
returns-clause-ends c =
    let h = c.args.held.now in
    let n = (holder h).number in
    let sound = c.requires.stands.sound in
    let f = fills_of h.value n c.args.serial c.requires.fills.0 c.requires.fills.1 in
    let u : MayGiveUpFill n c.args.serial c.args.why h.value = record { words = words h; names = sound.0; whole = sound.1; fills = f; licensed = gone_licensed (at_rest hash) sound.0 (words h) h.value n c.args.serial sound.1 f c.args.why c.requires.there c.requires.licensed } in
    let ev = event.Gone c.args.serial c.args.why in
    let ends = subst (λ (p : ℕ × ServerState). (u : MayGiveUpFill p.0 c.args.serial c.args.why p.1) → EndsFill ev p.0 u.words p.1 c.give_up.new.self) (λ i. (c.number-seat.ensures i, c.value.ensures.value i)) c.give_up.ensures.ends u in
    record { events = ends.events; options = ends.options; database = ends.database; connected = ends.connected }

pub returns-clause-rests : goal.returns-clause-rests
returns-clause-rests c =
    let h = c.args.held.now in
    let n = (holder h).number in
    let sound = c.requires.stands.sound in
    let f = fills_of h.value n c.args.serial c.requires.fills.0 c.requires.fills.1 in
    let u : MayGiveUpFill n c.args.serial c.args.why h.value = record { words = words h; names = sound.0; whole = sound.1; fills = f; licensed = gone_licensed (at_rest hash) sound.0 (words h) h.value n c.args.serial sound.1 f c.args.why c.requires.there c.requires.licensed } in
    let ev = event.Gone c.args.serial c.args.why in
    let ends = subst (λ (p : ℕ × ServerState). (u : MayGiveUpFill p.0 c.args.serial c.args.why p.1) → EndsFill ev p.0 u.words p.1 c.give_up.new.self) (λ i. (c.number-seat.ensures i, c.value.ensures.value i)) c.give_up.ensures.ends u in
    ends.rests

pub returns-clause-gone : goal.returns-clause-gone
returns-clause-gone c = subst (λ (p : ℕ × ServerState). IsGone p.0 c.args.serial c.args.why p.1 c.give_up.new.self) (λ i. (c.number-seat.ensures i, c.value.ensures.value i)) c.give_up.ensures.gone
