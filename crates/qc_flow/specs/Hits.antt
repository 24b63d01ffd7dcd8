-- What a hit has in hand: its stream, whose words spell what its key answers.
use Rattle.std.specs.Prelude.{◌≡◌, ℕ, ◌*◌, ◌≤◌, true, List, Some, option_map, take}
use Rattle.qc_model.specs.declared.events.Event.{Event}
use Rattle.qc_model.specs.declared.events.Who.{Who}
use Rattle.qc_model.specs.Choice.{answering}
use Rattle.qc_model.specs.Journal.{present}
use Rattle.qc_model.specs.Session.{State, answer}
use Rattle.qc_chain.specs.Words.{words_of}
use Rattle.qc_turn.specs.Blocks.{spelled}
use Rattle.qc_turn.specs.Bytes.{bytes_of}
use Rattle.qc_turn.specs.Seats.{Held, holder, words, MayRelease}
use Rattle.qc_turn.specs.Tasks.{listed_for, own}
use Rattle.qc_turn.specs.Views.{with_word_set, after_release}
use Rattle.qc_turn.specs.declared.task.Task.TheVariants as task
use Rattle.qc_core.specs.HitStream.{IsChainOf, hit_server}
use Rattle.qc_core.specs.Whole.{tasks_of}
use Rattle.qc_core.specs.contracts.server.ServerKept.TheImpl.{ghosts}
use Rattle.qc_core.specs.declared.server_state.ServerState.{ServerState}
use Rattle.qc_flow.specs.Streams.{IsStreamOf}
use Rattle.qc_flow.specs.declared.streams.Stream.{Stream}

-- The stream is the only task that is listed for the seat, with the blocks in hand, which hold the hit's bytes, and these are what the key answers.
pub record HasHit (h : Held ServerState Event ghosts) (serial : ℕ) (key : List ℕ) : Type 0 where
  pub listed : listed_for (holder h).number (tasks_of h.value) ≡ own (holder h).number (task.Stream serial) h.ranges.blocks
  pub within : h.ranges.bytes ≤ 8 * words_of h.ranges.blocks
  pub answered : answer key (present h.value.journal.events) ≡ Some (take h.ranges.bytes (bytes_of (spelled (words h) h.ranges.blocks)))

-- what a look found: g is the holding before, h the one after
pub record Looked (g h : Held ServerState Event ghosts) (who : Who) (serial : ℕ) (key : List ℕ) (state : State) : Type 0 where
  pub stood : MayRelease g
  pub stands : MayRelease h
  pub number : (holder h).number ≡ (holder g).number
  pub found : option_map (λ y. y.serial) (answering state g.value.journal.events key) ≡ Some serial
  pub server : h.value ≡ hit_server who serial (holder g).number g.value
  pub chain : IsChainOf serial h.value h.ranges
  pub listed : listed_for (holder g).number (tasks_of h.value) ≡ own (holder g).number (task.Stream serial) h.ranges.blocks
  pub within : h.ranges.bytes ≤ 8 * words_of h.ranges.blocks

abbrev pub HitsAnswer : Type 0
HitsAnswer = (g h : Held ServerState Event ghosts) (who : Who) (serial : ℕ) (key : List ℕ) (state : State) → Looked g h who serial key state → HasHit h serial key

-- After the release with the stream the seat streams the hit, and its bytes are what the key answers.
pub record StreamsHit (h : Held ServerState Event ghosts) (s : Stream) (key : List ℕ) : Type 0 where
  pub streams : IsStreamOf s (after_release ghosts (with_word_set (holder h) true) h.value (words h))
  pub answered : answer key (present h.value.journal.events) ≡ Some (take s.bytes (bytes_of (after_release ghosts (with_word_set (holder h) true) h.value (words h)).content))

abbrev pub StreamsBegin : Type 0
StreamsBegin = (h : Held ServerState Event ghosts) (s : Stream) (key : List ℕ) → HasHit h s.serial key → s.bytes ≡ h.ranges.bytes → StreamsHit h s key
