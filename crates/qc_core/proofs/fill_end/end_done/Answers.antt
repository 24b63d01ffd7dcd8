use Rattle.std.proofs.Common.{ℕ, refl, sym, subst}
use Rattle.qc_model.specs.declared.events.Event.TheVariants as event
use Rattle.qc_turn.specs.Views.{idle_of}
use Rattle.qc_turn.specs.Seats.{words, holder}
use Rattle.qc_core.specs.declared.server_state.ServerState.{ServerState}
use Rattle.qc_core.specs.FillEnd.{MayComplete, EndsFill, IsDone}
use Rattle.qc_core.proofs.Standing.{value_stands}
use Rattle.qc_core.proofs.Filling.{fills_of, ends_follows}
use Rattle.qc_core.proofs.Completing.{stored_chain}
use Rattle.qc_core.proofs.fill_end.end_done.Goals as goal

pub complete-requires : goal.complete-requires
complete-requires c =
    let h = c.args.held.now in
    let n = (holder h).number in
    let sound = c.requires.stands.sound in
    let f = fills_of h.value n c.args.serial c.requires.fills.0 c.requires.fills.1 in
    let u : MayComplete n c.args.serial c.args.bytes h.value = record { words = words h; names = sound.0; whole = sound.1; fills = f; there = c.requires.there; stored = stored_chain sound.0 (words h) h.value n c.args.serial c.args.bytes sound.1 f c.requires.stored } in
    subst (λ (p : ℕ × ServerState). MayComplete p.0 c.args.serial c.args.bytes p.1) (λ i. (sym c.number-seat.ensures i, sym c.value.ensures.value i)) u

pub returns-clause-stands : goal.returns-clause-stands
returns-clause-stands c =
    let h = c.args.held.now in
    let n = (holder h).number in
    let sound = c.requires.stands.sound in
    let f = fills_of h.value n c.args.serial c.requires.fills.0 c.requires.fills.1 in
    let u : MayComplete n c.args.serial c.args.bytes h.value = record { words = words h; names = sound.0; whole = sound.1; fills = f; there = c.requires.there; stored = stored_chain sound.0 (words h) h.value n c.args.serial c.args.bytes sound.1 f c.requires.stored } in
    let ev = event.Done c.args.serial in
    let ends = subst (λ (p : ℕ × ServerState). (u : MayComplete p.0 c.args.serial c.args.bytes p.1) → EndsFill ev p.0 u.words p.1 c.complete.new.self) (λ i. (c.number-seat.ensures i, c.value.ensures.value i)) c.complete.ensures.ends u in
    value_stands h c.complete.new.self c.requires.stands (ends.names, ends.whole) (ends_follows ev n (words h) h.value c.complete.new.self (idle_of (holder h).found) refl ends)

pub returns-clause-ends : goal.returns-clause-ends
returns-clause-ends c =
    let h = c.args.held.now in
    let n = (holder h).number in
    let sound = c.requires.stands.sound in
    let f = fills_of h.value n c.args.serial c.requires.fills.0 c.requires.fills.1 in
    let u : MayComplete n c.args.serial c.args.bytes h.value = record { words = words h; names = sound.0; whole = sound.1; fills = f; there = c.requires.there; stored = stored_chain sound.0 (words h) h.value n c.args.serial c.args.bytes sound.1 f c.requires.stored } in
    let ev = event.Done c.args.serial in
    let ends = subst (λ (p : ℕ × ServerState). (u : MayComplete p.0 c.args.serial c.args.bytes p.1) → EndsFill ev p.0 u.words p.1 c.complete.new.self) (λ i. (c.number-seat.ensures i, c.value.ensures.value i)) c.complete.ensures.ends u in
    record { events = ends.events; options = ends.options; database = ends.database; connected = ends.connected }

pub returns-clause-rests : goal.returns-clause-rests
returns-clause-rests c =
    let h = c.args.held.now in
    let n = (holder h).number in
    let sound = c.requires.stands.sound in
    let f = fills_of h.value n c.args.serial c.requires.fills.0 c.requires.fills.1 in
    let u : MayComplete n c.args.serial c.args.bytes h.value = record { words = words h; names = sound.0; whole = sound.1; fills = f; there = c.requires.there; stored = stored_chain sound.0 (words h) h.value n c.args.serial c.args.bytes sound.1 f c.requires.stored } in
    let ev = event.Done c.args.serial in
    let ends = subst (λ (p : ℕ × ServerState). (u : MayComplete p.0 c.args.serial c.args.bytes p.1) → EndsFill ev p.0 u.words p.1 c.complete.new.self) (λ i. (c.number-seat.ensures i, c.value.ensures.value i)) c.complete.ensures.ends u in
    ends.rests

pub returns-clause-done : goal.returns-clause-done
returns-clause-done c = subst (λ (p : ℕ × ServerState). IsDone p.0 c.args.serial c.args.bytes p.1 c.complete.new.self) (λ i. (c.number-seat.ensures i, c.value.ensures.value i)) c.complete.ensures.done
