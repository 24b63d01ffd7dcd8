use Rattle.std.proofs.Common.{◌≡◌, ◌+◌, ℕ, arith, sym, subst, ◌∙◌}
use Rattle.std.specs.Prelude.{true}
use Rattle.qc_laws.specs.history.Runs.{are_distinct}
use Rattle.qc_turn.specs.Views.{idle_of}
use Rattle.qc_turn.specs.Seats.{words, holder, MayRelease, SameHolder, with_value}
use Rattle.qc_core.specs.declared.server_state.ServerState.{ServerState}
use Rattle.qc_core.specs.Connection.{is_connected, disconnects}
use Rattle.qc_core.proofs.Standing.{value_stands}
use Rattle.qc_core.proofs.Connecting.{connected_place, disconnect_sound, disconnect_follows}
use Rattle.qc_core.proofs.connection.end_connection.Goals as goal

pub disconnect-requires-clause-connected : goal.disconnect-requires-clause-connected
disconnect-requires-clause-connected c =
    let seat : c.from.result + 1 ≡ (holder c.args.held.now).number = omega (arith, c.from.ensures, c.requires.session) in
    subst (λ (p : ℕ × ServerState). is_connected p.0 p.1 ≡ true) (λ i. (sym seat i, sym c.value.ensures.value i)) c.requires.connected

pub disconnect-requires-clause-once : goal.disconnect-requires-clause-once
disconnect-requires-clause-once c = subst (λ (s : ServerState). are_distinct s.connected.items ≡ true) (sym c.value.ensures.value) c.requires.stands.sound.1.seats.once

pub returns-clause-stands : goal.returns-clause-stands
returns-clause-stands c =
    let h = c.args.held.now in
    let n = (holder h).number in
    let seat : c.from.result + 1 ≡ n = omega (arith, c.from.ensures, c.requires.session) in
    let same : c.disconnect.new.self ≡ disconnects n h.value = c.disconnect.ensures ∙ (λ i. disconnects (seat i) (c.value.ensures.value i)) in
    let place = connected_place n h.value.connected.items c.requires.connected in
    subst (λ x. MayRelease (with_value h x) × SameHolder h (with_value h x)) (sym same)
    (value_stands h (disconnects n h.value) c.requires.stands (disconnect_sound (words h) h.value n place.0 c.requires.stands.sound place.1) (disconnect_follows h.value n (idle_of (holder h).found)))

pub returns-clause-left : goal.returns-clause-left
returns-clause-left c =
    let seat : c.from.result + 1 ≡ (holder c.args.held.now).number = omega (arith, c.from.ensures, c.requires.session) in
    c.disconnect.ensures ∙ (λ i. disconnects (seat i) (c.value.ensures.value i))
