-- A server with more room in its journal.
use Rattle.std.proofs.Common.{◌≡◌, ℕ, ◌+◌, ◌-◌, true, false, cond, List, [], ◌∷◌, map, refl, sym, ap, subst, ◌∙◌, arith}
use Rattle.std.specs.Prelude.{Some, None, ◌==◌, find}
use Rattle.qc_chain.specs.Chains.{Chained}
use Rattle.qc_model.specs.declared.events.Who.{Who}
use Rattle.qc_model.specs.Journal.{event_count}
use Rattle.qc_model.specs.declared.events.Event.{Event}
use Rattle.qc_turn.specs.declared.kept.Kept.{Ghosts}
use Rattle.qc_turn.specs.Seats.{Held, SameHolder}
use Rattle.qc_turn.specs.Tasks.{listed_for}
use Rattle.qc_turn.proofs.Holders.{number_is}
use Rattle.qc_core.specs.declared.server_state.RunningTask.{RunningTask}
use Rattle.qc_core.specs.declared.server_state.ServerState.{ServerState}
use Rattle.qc_core.specs.Whole.{listed_in, tasks_of}
use Rattle.qc_core.specs.Calls.{HasMoreRoom, IsNext}
use Rattle.qc_core.specs.Connection.{is_connected}
use Rattle.qc_core.specs.TaskEnd.{is_of, rested, rested_by}

pub more_refl : (s : ServerState) → HasMoreRoom s s
more_refl s = record { same = refl; events = refl; spare = omega arith }

pub more_trans : (a b c : ServerState) → HasMoreRoom a b → HasMoreRoom b c → HasMoreRoom a c
more_trans a b c h k = record {
  same = k.same ∙ ap (λ (s : ServerState). record s { journal = c.journal }) h.same;
  events = k.events ∙ h.events;
  spare = omega (arith, h.spare, k.spare);
}

none_of : (cs : Chained) (n : ℕ) (ws : List RunningTask) → listed_for n (map (listed_in cs) ws) ≡ [] → find (is_of n) ws ≡ None
none_of cs n [] h = refl
none_of cs n (w ∷ ws) h = elim (w.seat == n) as (λ b. cond b (listed_in cs w ∷ listed_for n (map (listed_in cs) ws)) (listed_for n (map (listed_in cs) ws)) ≡ [] → cond b (Some w) (find (is_of n) ws) ≡ None) [
  | true ↦ λ e. absurd cc
  | false ↦ λ e. none_of cs n ws e
] h

-- where nothing is listed for a seat, nothing is struck off
pub rested_none : (seat : ℕ) (s : ServerState) → listed_for seat (tasks_of s) ≡ [] → rested seat s ≡ s
rested_none seat s h = ap (λ o. rested_by seat o s) (none_of s.chains seat s.tasks.items h)

pub more_at_rest : (seat : ℕ) (s : ServerState) → listed_for seat (tasks_of s) ≡ [] → HasMoreRoom (rested seat s) s
more_at_rest seat s h = subst (λ t. HasMoreRoom t s) (sym (rested_none seat s h)) (more_refl s)

pub more_rested : (seat : ℕ) (old new : ServerState) → listed_for seat (tasks_of old) ≡ [] → HasMoreRoom (rested seat old) new → HasMoreRoom old new
more_rested seat old new h m = subst (λ s. HasMoreRoom s new) (rested_none seat old h) m

module _ {K : Ghosts ServerState Event} where
  pub next_more : (h k : Held ServerState Event K) (who : Who) → SameHolder h k → HasMoreRoom h.value k.value → IsNext h who → IsNext k who
  next_more h k who same more next = record {
    session = next.session ∙ ap (λ i. i - 1) (sym (number_is h k same));
    number = next.number ∙ ap (λ j. event_count j who.session + 1) (sym more.events);
    connected = (λ i. is_connected (number_is h k same i) (more.same i)) ∙ next.connected;
    free = (λ i. listed_for (number_is h k same i) (tasks_of (more.same i))) ∙ next.free;
  }
