-- What a hit starts from, and what the use of its entry made of the server.
use Rattle.std.proofs.Common.{◌≡◌, ℕ, ◌*◌, ◌≤◌, ap, ◌∙◌}
use Rattle.qc_key.specs.Hash.{hash}
use Rattle.qc_model.specs.declared.events.Event.{Event}
use Rattle.qc_model.specs.declared.events.Who.{Who}
use Rattle.qc_model.specs.Licence.{IsComplete}
use Rattle.qc_chain.specs.Chains.{Ranged, IsFit}
use Rattle.qc_turn.specs.Seats.{Held, holder, words, MayRelease}
use Rattle.qc_sound.specs.Moment.{at_rest}
use Rattle.qc_sound.specs.parts.Tasks.{IsSeat}
use Rattle.qc_core.specs.contracts.server.ServerKept.TheImpl.{ghosts}
use Rattle.qc_core.specs.declared.server_state.ServerState.{ServerState}
use Rattle.qc_core.specs.Calls.{IsNext}
use Rattle.qc_core.specs.HitStream.{MayUse, used_by}
use Rattle.qc_core.proofs.TaskRoom.{connected_seat, task_room}
use Rattle.qc_core.proofs.Uses.{may_use, use_pulled, hand_pulled, fit_pulled}

-- the seat may use the entry, and this is what came of it
pub record Situation (h : Held ServerState Event ghosts) (n : ℕ) (new : ServerState) (after : Ranged) : Type 0 where
  pub may : MayUse n h.value h.ranges.room
  pub used : new ≡ used_by (holder h).number n may.entry may.held h.value
  pub ranges : after ≡ record { blocks = may.held.blocks; bytes = may.held.bytes; room = h.ranges.room }
  pub fit : IsFit may.held.blocks may.held.bytes

module _ (h : Held ServerState Event ghosts) (who : Who) (n : ℕ) (stands : MayRelease h) (next : IsNext h who) (complete : IsComplete h.value.journal.events n) (wide : h.value.options.size ≤ 512 * h.ranges.room) where
  pub seat_is : IsSeat (holder h).number
  seat_is = connected_seat (at_rest hash) stands.sound.0 (words h) h.value (holder h).number stands.sound.1 next.connected

  pub entry_usable : MayUse n h.value h.ranges.room
  entry_usable = may_use (at_rest hash) stands.sound.0 (words h) h.value n h.ranges.room stands.sound.1 complete wide (task_room (at_rest hash) stands.sound.0 (words h) h.value (holder h).number stands.sound.1 seat_is next.free)

  pub situation : (v new : ServerState) (taken after : Ranged) (seat : ℕ) → v ≡ h.value → taken ≡ h.ranges → seat ≡ (holder h).number → ((u : MayUse n v taken.room) → new ≡ used_by seat n u.entry u.held v)
      → ((u : MayUse n v taken.room) → after ≡ record { blocks = u.held.blocks; bytes = u.held.bytes; room = taken.room }) → ((u : MayUse n v taken.room) → IsFit u.held.blocks u.held.bytes) → Situation h n new after
  situation v new taken after seat same hand is server ranges fit =
      let u = entry_usable in
      record {
        may = u;
        used = use_pulled h.value v new h.ranges taken n seat same hand server u ∙ ap (λ k. used_by k n u.entry u.held h.value) is;
        ranges = hand_pulled h.value v h.ranges taken after n same hand ranges u;
        fit = fit_pulled h.value v h.ranges taken n same hand fit u;
      }
