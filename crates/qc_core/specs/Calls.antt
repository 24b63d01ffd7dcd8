-- What the calls ask.
use Rattle.std.specs.Prelude.{◌≡◌, ℕ, ◌+◌, ◌-◌, ◌*◌, ◌<◌, ◌≤◌, Bool, true, List, [], length, Some, is_some, not, ◌&&◌}
use Rattle.qc_model.specs.declared.events.Who.{Who}
use Rattle.qc_model.specs.declared.events.Event.{Event}
use Rattle.qc_model.specs.declared.events.How.{How}
use Rattle.qc_model.specs.declared.events.How.TheVariants as how
use Rattle.qc_model.specs.Journal.{event_count, present}
use Rattle.qc_model.specs.Cache.{cache, entry_of}
use Rattle.qc_model.specs.Cache.{Entry as Cached}
use Rattle.std.specs.List.{list_all}
use Rattle.qc_model.specs.Session.{State, answer}
use Rattle.qc_laws.specs.history.Runs.{IsStarted}
use Rattle.qc_model.specs.Choice.{is_stale, wrote}
use Rattle.qc_dir.specs.declared.entries.Entry.{Entry}
use Rattle.qc_dir.specs.Directory.{entry_at}
use Rattle.qc_model.specs.Licence.{IsCommitOn, MayGiveUp, unit_words}
use Rattle.qc_chain.specs.Words.{words_of}
use Rattle.qc_turn.specs.Seats.{Held, holder, words}
use Rattle.qc_turn.specs.Tasks.{listed_for, own, IsListed}
use Rattle.qc_tiles.specs.declared.blocks.Block.{Block}
use Rattle.qc_model.specs.declared.events.GoneWhy.{GoneWhy}
use Rattle.qc_model.specs.declared.events.GoneWhy.TheVariants as gone
use Rattle.qc_turn.specs.declared.task.Task.TheVariants as task
use Rattle.qc_turn.specs.declared.kept.Kept.{Ghosts}
use Rattle.qc_sound.specs.parts.Journal.{reserved}
use Rattle.qc_core.specs.declared.server_state.ServerState.{ServerState}
use Rattle.qc_core.specs.Whole.{tasks_of}
use Rattle.qc_core.specs.Eviction.{LacksTile}
use Rattle.qc_core.specs.Connection.{is_connected}
use Rattle.qc_core.specs.FillEnd.{HasWhole}

-- it is the session of the seat, which is connected, with its next number, and nothing is listed for the seat
pub record IsNext {K : Ghosts ServerState Event} (h : Held ServerState Event K) (who : Who) : Type 0 where
  pub session : who.session ≡ (holder h).number - 1
  pub number : who.number ≡ event_count h.value.journal.events who.session + 1
  pub connected : is_connected (holder h).number h.value ≡ true
  pub free : listed_for (holder h).number (tasks_of h.value) ≡ []

-- the seat rests: nothing is listed for it, or a stream that it has ended
abbrev pub Rests : {K : Ghosts ServerState Event} → Held ServerState Event K → Type 0
Rests h = IsListed (holder h).number task.Rest [] (listed_for (holder h).number (tasks_of h.value))

-- the seat's fill of an entry is listed, and nothing else of the seat
abbrev pub ListsFill : {K : Ghosts ServerState Event} → ℕ → Held ServerState Event K → Type 0
ListsFill n h = (bs : List Block) × (listed_for (holder h).number (tasks_of h.value) ≡ own (holder h).number (task.Fill n) bs)

-- the first bytes of the fill's blocks are the whole answer
abbrev pub StoresWhole : {K : Ghosts ServerState Event} → ℕ → ℕ → Held ServerState Event K → Type 0
StoresWhole n bytes h = (bs : List Block) → listed_for (holder h).number (tasks_of h.value) ≡ own (holder h).number (task.Fill n) bs → HasWhole (words h) n bytes bs h.value

-- The entry's answer at its start has more bytes than the blocks of the seat's fill hold, no free block has a unit, of which the largest is told, and no
-- complete entry is without users.
pub record LacksRoom (seat n need largest : ℕ) (s : ServerState) : Type 0 where
  pub tile : LacksTile (unit_words s.options) s (record { need = need; largest = largest })
  pub blocks : List Block
  pub listed : listed_for seat (tasks_of s) ≡ own seat (task.Fill n) blocks
  pub start : IsStarted s.journal.events n
  pub all : List ℕ
  pub answered : answer start.key (present start.earlier) ≡ Some all
  pub longer : 8 * words_of blocks < length all

-- where the entry is there still, want of room is told only of one that lacks it
abbrev pub IsInWant : (seat n : ℕ) → GoneWhy → ServerState → Type 0
IsInWant seat n (gone.NoRoom need largest) s = is_some (entry_of n (cache s.journal.events)) ≡ true → LacksRoom seat n need largest s
IsInWant seat n (gone.TooLarge total limit) s = Unit {0}
IsInWant seat n gone.Ended s = Unit {0}

-- where the entry is there still, it may be given up
abbrev pub MayBeGone : ℕ → GoneWhy → ServerState → Type 0
MayBeGone n why s = is_some (entry_of n (cache s.journal.events)) ≡ true → MayGiveUp s.options s.journal.events n why

-- a command that changed no data, or a conflict
abbrev pub IsNoted : ServerState → How → Type 0
IsNoted s how.Other = Unit {0}
IsNoted s (how.Conflict t key by) = IsCommitOn s.journal.events by t
IsNoted s _ = ⊥

-- runs that change nothing of the cache
abbrev pub ChangesNothing : ServerState → How → Type 0
ChangesNothing s (how.Status totals) = Unit {0}
ChangesNothing s h = IsNoted s h

-- there is room for one event beside those that the entries may still have
abbrev pub HasSpare : ServerState → Type 0
HasSpare s = reserved (cache s.journal.events) < s.journal.spare

-- the entry with a serial has a key
abbrev pub HasKey : ℕ → List ℕ → ServerState → Type 0
HasKey n key s = (y : Cached) × (entry_of n (cache s.journal.events) ≡ Some y) × (y.key ≡ key)

abbrev pub LacksKey : ℕ → List ℕ → ServerState → Type 0
LacksKey n key s = (y : Cached) → entry_of n (cache s.journal.events) ≡ Some y → y.key ≡ key → ⊥

-- whether an entry is complete, and the session sees its tables as they are now
abbrev pub MaySend : State → ℕ → ServerState → Bool → Type 0
MaySend state n s b = (e : Entry) → entry_at n s.dir.entries ≡ Some e → b ≡ (e.complete && list_all (λ t. not (wrote state t) && not (is_stale state s.journal.events t)) e.tables)

-- The same server, with as much room in the journal or more.
pub record HasMoreRoom (old new : ServerState) : Type 0 where
  pub same : new ≡ record old { journal = new.journal }
  pub events : new.journal.events ≡ old.journal.events
  pub spare : old.journal.spare ≤ new.journal.spare
