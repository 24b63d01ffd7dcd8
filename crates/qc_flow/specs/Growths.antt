-- A fill gets blocks: what is asked, and what becomes of the holding and of the seat.
use Rattle.std.specs.Prelude.{◌≡◌, ℕ, zero, suc, Result, Ok, Err, ◌*◌, ◌<◌, ◌≤◌, ◌⊎◌, Some, None, List, [], ◌∷◌, ◌++◌, length}
use Rattle.qc_model.specs.declared.events.Event.{Event}
use Rattle.qc_model.specs.declared.events.Event.TheVariants as event
use Rattle.qc_model.specs.declared.events.GoneWhy.TheVariants as gone
use Rattle.qc_model.specs.Cache.{cache, entry_of}
use Rattle.qc_model.specs.Journal.{Journal, present}
use Rattle.qc_model.specs.Licence.{IsFilling, unit_words}
use Rattle.qc_model.specs.Session.{answer}
use Rattle.qc_laws.specs.history.Runs.{IsStarted}
use Rattle.qc_tiles.specs.declared.blocks.Block.{Block}
use Rattle.qc_chain.specs.Chains.{Ranged}
use Rattle.qc_chain.specs.Words.{words_of}
use Rattle.qc_turn.specs.declared.task.Task.TheVariants as task
use Rattle.qc_turn.specs.declared.view.FoundWord.{FoundWord}
use Rattle.qc_turn.specs.declared.view.Holding.TheVariants.{Free}
use Rattle.qc_turn.specs.declared.view.View.{View}
use Rattle.qc_turn.specs.Seats.{Held, holder}
use Rattle.qc_turn.specs.Tasks.{listed_for, own}
use Rattle.qc_turn.specs.Views.{of_seat}
use Rattle.qc_turn.specs.Words.{StartsWith}
use Rattle.qc_core.specs.Eviction.{LacksTile}
use Rattle.qc_core.specs.Calls.{LacksRoom}
use Rattle.qc_core.specs.FillGrowth.{TellsGrowth}
use Rattle.qc_core.specs.OvertakenFill.{IsOvertaken}
use Rattle.qc_core.specs.EndedStreams.{ReadsStreams, swept}
use Rattle.qc_core.specs.Whole.{IsSomewhereSound, tasks_of}
use Rattle.qc_core.specs.contracts.server.ServerKept.TheImpl.{ghosts}
use Rattle.qc_core.specs.declared.fill_growth.Short.{Short}
use Rattle.qc_core.specs.declared.fill_growth.Short.TheVariants as short
use Rattle.qc_core.specs.declared.server_state.ServerState.{ServerState}
use Rattle.qc_flow.specs.Seats.{HasEnded, TookOnce}
use Rattle.qc_flow.specs.declared.fills.FillStep.{FillStep}
use Rattle.qc_flow.specs.declared.fills.FillStep.TheVariants as step

-- what is stored begins the answer of the entry at its start, which has so many bytes at least
pub record Wants (serial total : ℕ) (v : View ServerState Event) : Type 0 where
  pub start : IsStarted v.seen serial
  pub all : List ℕ
  pub answered : answer start.key (present start.earlier) ≡ Some all
  pub begun : StartsWith all v.content
  pub long : total ≤ length all

-- the blocks hold fewer bytes
abbrev pub HoldFewer : List Block → ℕ → Type 0
HoldFewer blocks total = 8 * words_of blocks < total

-- the blocks are as they were, or there are more, and without the last one they hold fewer bytes
abbrev pub GrowFor : ℕ → List Block → List Block → Type 0
GrowFor total old new = (new ≡ old) ⊎ ((front : List Block) × (last : Block) × (new ≡ front ++ last ∷ []) × StartsWith front old × HoldFewer front total)

-- ---- the chain grows in one holding, by the calls of the server

-- the server after its streams that had ended were struck off, and then one more block was looked for
abbrev pub AsksBlock : (seat serial : ℕ) → ServerState → Ranged → ServerState → Ranged → Result Block Short → Type 0
AsksBlock seat serial s r t q told = (found : List FoundWord) × ReadsStreams seat s found × TellsGrowth serial (swept found s) r t q told

-- so many blocks were found, one after another
abbrev pub GrowsBy : (seat serial count : ℕ) → ServerState → Ranged → ServerState → Ranged → Type 0
GrowsBy seat serial zero s r t q = (t ≡ s) × (q ≡ r)
GrowsBy seat serial (suc count) s r t q = (m : ServerState) × (p : Ranged) × GrowsBy seat serial count s r m p × ((b : Block) × AsksBlock seat serial m p t q (Ok b))

-- so many blocks were found, and then none
pub record GrowsShort (seat serial : ℕ) (s : ServerState) (r : Ranged) (t : ServerState) (q : Ranged) (e : Short) : Type 0 where
  pub count : ℕ
  pub server : ServerState
  pub ranges : Ranged
  pub grown : GrowsBy seat serial count s r server ranges
  pub last : AsksBlock seat serial server ranges t q (Err e)

-- The last event says that the fill found no room. The seat took the turn once; the server that it took grew the chain until no block was found. That server
-- was sound and listed the fill, whose blocks, with those that it got meanwhile, held fewer bytes; no free block had a unit, and no idle entry was left to prune.
pub record LackedRoom (serial total need largest : ℕ) (old new : View ServerState Event) : Type 0 where
  pub taken : ServerState
  pub once : TookOnce taken old new
  pub before : Ranged
  pub after : Ranged
  pub server : ServerState
  pub grown : GrowsShort old.number serial taken before server after (short.NoRoom need largest)
  pub sound : IsSomewhereSound server
  pub events : new.seen ≡ server.journal.events ++ event.Gone serial (gone.NoRoom need largest) ∷ []
  pub blocks : List Block
  pub listed : listed_for old.number (tasks_of server) ≡ own old.number (task.Fill serial) blocks
  pub longer : StartsWith blocks old.blocks
  pub ranged : (before.blocks ≡ old.blocks) × (after.blocks ≡ blocks)
  pub fewer : HoldFewer blocks total
  pub lacks : LacksTile (unit_words server.options) server (record { need = need; largest = largest })

-- the blocks hold so many bytes, or they held fewer, and the fill has ended
abbrev pub Widens : (serial total : ℕ) → View ServerState Event → View ServerState Event → FillStep → Type 0
Widens serial total old new step.More = (new.task ≡ task.Fill serial) × (new.content ≡ old.content) × GrowFor total old.blocks new.blocks × (total ≤ 8 * words_of new.blocks)
Widens serial total old new (step.Overtaken by) = HoldFewer old.blocks total × HasEnded serial new × IsOvertaken new.seen serial by
Widens serial total old new (step.TooLarge length) = ⊥
Widens serial total old new (step.NoRoom need largest) = HasEnded serial new × LackedRoom serial total need largest old new

-- ---- under the turn

-- the journal goes on by events of no session, and the rest of what the lock sees stays
pub record Onward (old new : ServerState) : Type 0 where
  pub later : Journal
  pub events : new.journal.events ≡ old.journal.events ++ later
  pub quiet : (n : ℕ) → of_seat ghosts n later ≡ []
  pub options : new.options ≡ old.options
  pub connected : new.connected ≡ old.connected

-- what the holder knew before it took the turn, but for the servers that it took
abbrev pub settled : View ServerState Event → View ServerState Event
settled v = record v { holding = Free; found = []; turns = [] }

-- the same seat holds the same turn
pub record Continues (h k : Held ServerState Event ghosts) : Type 0 where
  pub seat : k.seat.ghost_name ≡ h.seat.ghost_name
  pub turn : k.turn.now ≡ h.turn.now
  pub view : settled (holder k) ≡ settled (holder h)
  pub turns : (holder k).turns ≡ (holder h).turns
  pub value : Onward h.value k.value
  pub room : k.ranges.room ≡ h.ranges.room

-- the seat fills the entry, whose answer at its start has so many bytes at least, and has its chain in hand
pub record FillsFor (serial total : ℕ) (h : Held ServerState Event ghosts) : Type 0 where
  pub listed : listed_for (holder h).number (tasks_of h.value) ≡ own (holder h).number (task.Fill serial) h.ranges.blocks
  pub start : IsStarted h.value.journal.events serial
  pub all : List ℕ
  pub answered : answer start.key (present start.earlier) ≡ Some all
  pub long : total ≤ length all
  pub room : h.value.options.size ≤ 512 * h.ranges.room

-- the entry has left, by this event; or it is still filled, no free block has a unit, and no idle entry is left
abbrev pub WasShort : ℕ → ServerState → Short → Type 0
WasShort serial s (short.Overtaken by) = (entry_of serial (cache s.journal.events) ≡ None) × IsOvertaken s.journal.events serial by
WasShort serial s (short.NoRoom need largest) = IsFilling s.journal.events serial × LacksTile (unit_words s.options) s (record { need = need; largest = largest })

-- where no block was found, there is no room for what the entry's answer has behind the blocks
abbrev pub IsFull : (seat serial : ℕ) → ServerState → Short → Type 0
IsFull seat serial s (short.Overtaken by) = Unit {0}
IsFull seat serial s (short.NoRoom need largest) = LacksRoom seat serial need largest s

-- what is answered then
abbrev pub step_of : Short → FillStep
step_of (short.Overtaken by) = step.Overtaken by
step_of (short.NoRoom need largest) = step.NoRoom need largest

-- the event says that there was no room; of an entry that had left there is none
abbrev pub EndsShort : ℕ → Journal → Journal → Short → Type 0
EndsShort serial old new (short.Overtaken by) = new ≡ old
EndsShort serial old new (short.NoRoom need largest) = new ≡ old ++ event.Gone serial (gone.NoRoom need largest) ∷ []
