use Rattle.std.proofs.Common.{◌≡◌, ◌<◌, arith, sym, subst, ◌∙◌}
use Rattle.qc_key.specs.Hash.{hash}
use Rattle.qc_turn.specs.Views.{idle_of}
use Rattle.qc_turn.specs.Seats.{words, holder, MayRelease, SameHolder, with_value}
use Rattle.qc_sound.specs.Moment.{at_rest}
use Rattle.qc_core.specs.declared.server_state.ServerState.{ServerState}
use Rattle.qc_core.specs.Connection.{connects}
use Rattle.qc_core.proofs.Standing.{value_stands}
use Rattle.qc_core.proofs.Connecting.{seat_of, seat_room, connect_sound, connect_follows}
use Rattle.qc_core.proofs.connection.enter.Goals as goal

pub connect-requires : goal.connect-requires
connect-requires c =
    let h = c.args.held.now in
    let n = (holder h).number in
    let is = seat_of n (omega (arith, h.seat.now.numbered.0, h.seat.now.numbered.1)) (omega (arith, c.if-seat-gt-LAST_SEAT.false, c.number-seat.ensures)) in
    let sound = c.requires.stands.sound in
    subst (λ (s : ServerState). 0 < s.connected.room) (sym c.value.ensures.value) (seat_room (at_rest hash) sound.0 (words h) h.value n sound.1 is c.requires.free)

pub returns-clause-stands : goal.returns-clause-stands
returns-clause-stands c =
    let h = c.args.held.now in
    let n = (holder h).number in
    let is = seat_of n (omega (arith, h.seat.now.numbered.0, h.seat.now.numbered.1)) (omega (arith, c.if-seat-gt-LAST_SEAT.false, c.number-seat.ensures)) in
    let same : c.connect.new.self ≡ connects n h.value = c.connect.ensures ∙ (λ i. connects (c.number-seat.ensures i) (c.value.ensures.value i)) in
    subst (λ x. MayRelease (with_value h x) × SameHolder h (with_value h x)) (sym same)
    (value_stands h (connects n h.value) c.requires.stands (connect_sound (words h) h.value n c.requires.stands.sound is c.requires.free) (connect_follows h.value n (idle_of (holder h).found)))
