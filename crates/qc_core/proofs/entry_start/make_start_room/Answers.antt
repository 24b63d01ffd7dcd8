use Rattle.std.proofs.Common.{◌≤◌, arith, sym, subst, length}
use Rattle.std.proofs.lemmas.Result.{on_ok_weaker}
use Rattle.qc_key.specs.Hash.{hash}
use Rattle.qc_dir.specs.Directory.{incomplete}
use Rattle.qc_turn.specs.Views.{idle_of}
use Rattle.qc_turn.specs.Seats.{words, holder, MayRelease, SameHolder, with_value}
use Rattle.qc_sound.specs.Moment.{at_rest}
use Rattle.qc_core.specs.declared.server_state.ServerState.{ServerState}
use Rattle.qc_core.specs.Calls.{HasMoreRoom}
use Rattle.qc_core.proofs.Standing.{value_stands}
use Rattle.qc_core.proofs.Reserving.{few_entries, more_sound, more_is, more_follows}
use Rattle.qc_core.proofs.Starting.{start_room_so}
use Rattle.qc_core.proofs.entry_start.make_start_room.Goals as goal

pub reserve_start-requires : goal.reserve_start-requires
reserve_start-requires c =
    let h = c.args.held.now in
    let st = c.requires.stands in
    subst (λ (s : ServerState). (length s.dir.entries ≤ 65536) × (incomplete s.dir.entries ≤ 65536)) (sym c.value.ensures.value)
    (few_entries (at_rest hash) st.sound.0 (words h) h.value st.sound.1 (omega (arith, st.held.width, h.turn.now.small)))

pub returns-clause-stands : goal.returns-clause-stands
returns-clause-stands c =
    let h = c.args.held.now in
    let st = c.requires.stands in
    let more = subst (λ (s : ServerState). HasMoreRoom s c.reserve_start.new.self) c.value.ensures.value c.reserve_start.ensures.same in
    subst (λ x. MayRelease (with_value h x) × SameHolder h (with_value h x)) (sym (more_is h.value c.reserve_start.new.self more))
    (value_stands h _ st (more_sound (words h) h.value c.reserve_start.new.self.journal.spare st.sound more.spare) (more_follows h.value c.reserve_start.new.self.journal.spare (holder h).number (idle_of (holder h).found)))

pub returns-clause-room : goal.returns-clause-room
returns-clause-room c =
    let h = c.args.held.now in
    on_ok_weaker c.reserve_start.result (start_room_so (words h) h.value c.value.result.now c.reserve_start.new.self c.requires.stands.sound c.value.ensures.value c.reserve_start.ensures.same) c.reserve_start.ensures.room
