use Rattle.std.proofs.Common.{◌<◌, arith, sym, subst}
use Rattle.std.specs.Prelude.{◌≤◌}
use Rattle.qc_turn.specs.Views.{idle_of}
use Rattle.qc_turn.specs.Seats.{words, holder}
use Rattle.qc_core.specs.declared.server_state.ServerState.{ServerState}
use Rattle.qc_core.specs.EntriesCut.{HasSoundBlocks}
use Rattle.qc_core.specs.Clearing.{IsReset}
use Rattle.qc_core.proofs.Standing.{value_stands}
use Rattle.qc_core.proofs.Resetting.{sound_blocks, reset_left}
use Rattle.qc_core.proofs.clearing.reset.Goals as goal

pub reset-requires-clause-blocks : goal.reset-requires-clause-blocks
reset-requires-clause-blocks c = let h = c.args.held.now in subst HasSoundBlocks (sym c.value.ensures.value) (sound_blocks (words h) h.value c.requires.stands.sound)

pub reset-requires-clause-room : goal.reset-requires-clause-room
reset-requires-clause-room c = let room = c.requires.room in subst (λ (s : ServerState). 1 ≤ s.journal.spare) (sym c.value.ensures.value) (omega (arith, room))

pub returns-clause-stands : goal.returns-clause-stands
returns-clause-stands c =
    let h = c.args.held.now in
    let n = c.requires.next in
    let ps : 0 < (holder h).number = omega (arith, h.seat.now.numbered.0, h.seat.now.numbered.1) in
    let left = reset_left (words h) h.value c.reset.new.self c.args.who (holder h).number (idle_of (holder h).found) c.requires.stands.sound ps n.session n.number n.free c.requires.room
    (subst (λ (s : ServerState). IsReset c.args.who s c.reset.new.self) c.value.ensures.value c.reset.ensures.reset) in
    value_stands h c.reset.new.self c.requires.stands left.sound left.follows

pub returns-clause-reset : goal.returns-clause-reset
returns-clause-reset c = subst (λ (s : ServerState). IsReset c.args.who s c.reset.new.self) c.value.ensures.value c.reset.ensures.reset

pub returns-clause-listed : goal.returns-clause-listed
returns-clause-listed c =
    let h = c.args.held.now in
    let n = c.requires.next in
    let ps : 0 < (holder h).number = omega (arith, h.seat.now.numbered.0, h.seat.now.numbered.1) in
    let left = reset_left (words h) h.value c.reset.new.self c.args.who (holder h).number (idle_of (holder h).found) c.requires.stands.sound ps n.session n.number n.free c.requires.room
    (subst (λ (s : ServerState). IsReset c.args.who s c.reset.new.self) c.value.ensures.value c.reset.ensures.reset) in
    left.listed
