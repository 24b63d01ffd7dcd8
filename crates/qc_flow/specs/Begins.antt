-- How the fill of an entry begins that was just started, how it goes on from packet to packet, and what its entry then answers.
use Rattle.std.specs.Prelude.{◌≡◌, ℕ, ◌*◌, ◌≤◌, false, List, [], ◌∷◌, ◌++◌, Some}
use Rattle.qc_model.specs.declared.events.Event.{Event}
use Rattle.qc_model.specs.Cache.{Entry, cache, entry_of}
use Rattle.qc_model.specs.Journal.{present}
use Rattle.qc_model.specs.Session.{answer}
use Rattle.qc_turn.specs.Seats.{Held, holder, words, view}
use Rattle.qc_turn.specs.Tasks.{listed_for, own}
use Rattle.qc_turn.specs.Views.{with_word_set, after_release}
use Rattle.qc_turn.specs.Words.{StartsWith}
use Rattle.qc_turn.specs.declared.seat.Seat.{Seat}
use Rattle.qc_turn.specs.declared.task.Task.TheVariants as task
use Rattle.qc_turn.specs.declared.view.View.{View}
use Rattle.qc_core.specs.Whole.{IsSomewhereSound, tasks_of}
use Rattle.qc_core.specs.contracts.server.ServerKept.TheImpl.{ghosts}
use Rattle.qc_core.specs.declared.server_state.ServerState.{ServerState}
use Rattle.qc_flow.specs.Fills.{IsFillOf, IsNextPacket, IsWholeAnswer}
use Rattle.qc_flow.specs.Seats.{GoesOn}
use Rattle.qc_flow.specs.declared.fills.Fill.{Fill}

-- The seat rested when it took the turn. The fill is listed for it, with the blocks in hand, and knows the server's limit. Then the turn was given back.
pub record BeginsFill (h : Held ServerState Event ghosts) (f : Fill) (s : Seat ServerState Event ghosts) : Type 0 where
  pub rested : (holder h).task ≡ task.Rest
  pub fixed : (holder h).fixed ≡ ghosts.fixed h.value
  pub listed : listed_for (holder h).number (tasks_of h.value) ≡ own (holder h).number (task.Fill f.serial) h.ranges.blocks
  pub room : h.value.options.size ≤ 512 * h.ranges.room
  pub limit : f.limit ≡ h.value.options.limit
  pub empty : f.bytes ≡ 0
  pub view : view s ≡ after_release ghosts (with_word_set (holder h) false) h.value (words h)
  pub ranges : s.ranges ≡ h.ranges

-- after the release the seat fills the entry, of which nothing is stored
abbrev pub FillsBegin : Type 0
FillsBegin = (h : Held ServerState Event ghosts) (f : Fill) (s : Seat ServerState Event ghosts) → BeginsFill h f s → IsFillOf f s × ((view s).content ≡ [])

-- once the last packet is stored, that is the whole answer; once another is, the one behind it comes next
pub record Follows (serial : ℕ) (packet : List ℕ) (old new : View ServerState Event) (now : IsNextPacket serial packet old) : Type 0 where
  pub last : now.later ≡ [] → IsWholeAnswer serial new
  pub more : (p : List ℕ) (ps : List (List ℕ)) → now.later ≡ p ∷ ps → (next : IsNextPacket serial p new) × (next.later ≡ ps)

abbrev pub PacketsFollow : Type 0
PacketsFollow = (serial : ℕ) (packet : List ℕ) (old new : View ServerState Event) (now : IsNextPacket serial packet old) → GoesOn old new → new.content ≡ old.content ++ packet → Follows serial packet old new now

-- what a fill stored whole is what the key of its entry answers, on each sound server with a journal that goes on from there, while the entry is in the cache
abbrev pub FillsAnswer : Type 0
FillsAnswer = (serial : ℕ) (v : View ServerState Event) (s : ServerState) (e : Entry) → IsWholeAnswer serial v → IsSomewhereSound s → StartsWith s.journal.events v.seen → entry_of serial (cache s.journal.events) ≡ Some e → answer e.key (present s.journal.events) ≡ Some v.content
