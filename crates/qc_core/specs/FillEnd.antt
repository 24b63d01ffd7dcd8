-- A fill ends: what is asked, and what becomes of the server.
use Rattle.std.specs.Prelude.{◌≡◌, ◌≢◌, ℕ, ◌*◌, ◌≤◌, true, Option, None, is_some, length, List, [], ◌∷◌, ◌++◌, Some}
use Rattle.std.specs.List.{find}
use Rattle.qc_key.specs.Hash.{hash}
use Rattle.qc_model.specs.declared.events.Event.{Event}
use Rattle.qc_model.specs.declared.events.Event.TheVariants as event
use Rattle.qc_model.specs.declared.events.GoneWhy.{GoneWhy}
use Rattle.qc_model.specs.Licence.{IsLicensed}
use Rattle.qc_laws.specs.history.Runs.{IsStarted}
use Rattle.qc_model.specs.Journal.{present}
use Rattle.qc_model.specs.Session.{answer}
use Rattle.qc_tiles.specs.declared.blocks.Block.{Block}
use Rattle.qc_chain.specs.Words.{words_of}
use Rattle.qc_chain.specs.Chains.{Chain, chain_at, with_chain, cut_chain, after_cut, used_words, EndsInLast}
use Rattle.qc_dir.specs.declared.tables.TableBlock.{TableBlock}
use Rattle.qc_dir.specs.Directory.{entry_at, after_complete, with_entries}
use Rattle.qc_sound.specs.parts.Contents.{text_of}
use Rattle.qc_core.specs.ChainPins.{after_unpins}
use Rattle.qc_turn.specs.declared.task.Task.TheVariants as task
use Rattle.qc_turn.specs.Tasks.{listed_for}
use Rattle.qc_sound.specs.Moment.{at_rest}
use Rattle.qc_core.specs.declared.server_state.RunningTask.{RunningTask}
use Rattle.qc_core.specs.declared.server_state.ServerState.{ServerState}
use Rattle.qc_core.specs.Whole.{Named, IsWhole, tasks_of, with_event}
use Rattle.qc_core.specs.EntryRemoval.{MayLeave, Leaves}
use Rattle.qc_core.specs.TaskEnd.{is_of, without_task_of, blocks_of_chain, MayLetGo, rested}

-- the event was added, and what it says nothing of stays
pub record EndsBy (e : Event) (old new : ServerState) : Type 0 where
  pub events : new.journal.events ≡ old.journal.events ++ e ∷ []
  pub options : new.options ≡ old.options
  pub database : new.database ≡ old.database
  pub connected : new.connected ≡ old.connected

-- the seat fills the entry with a serial
pub record Fills (seat serial : ℕ) (s : ServerState) : Type 0 where
  pub work : RunningTask
  pub at : find (is_of seat) s.tasks.items ≡ Some work
  pub fill : work.task ≡ task.Fill serial

-- the server is sound, the seat fills the entry, and the event that it is gone is licensed
pub record MayGiveUpFill (seat serial : ℕ) (why : GoneWhy) (s : ServerState) : Type 0 where
  pub words : List ℕ
  pub names : List Named
  pub whole : IsWhole (at_rest hash) names words s
  pub fills : Fills seat serial s
  pub licensed : IsLicensed s.options s.journal.events (event.Gone serial why)

-- The event was added, and the server is sound. The seat has no task; what is listed for the others stays, and so does all that the event says nothing of.
pub record EndsFill (e : Event) (seat : ℕ) (words : List ℕ) (old new : ServerState) : Type 0 where
  pub names : List Named
  pub whole : IsWhole (at_rest hash) names words new
  pub events : new.journal.events ≡ old.journal.events ++ e ∷ []
  pub rests : listed_for seat (tasks_of new) ≡ []
  pub listed : (k : ℕ) → k ≢ seat → listed_for k (tasks_of new) ≡ listed_for k (tasks_of old)
  pub options : new.options ≡ old.options
  pub database : new.database ≡ old.database
  pub connected : new.connected ≡ old.connected

-- the first bytes of the blocks' words are the whole answer of the entry at its start, which is within the limit
pub record HasWhole (words : List ℕ) (n bytes : ℕ) (blocks : List Block) (s : ServerState) : Type 0 where
  pub start : IsStarted s.journal.events n
  pub answered : answer start.key (present start.earlier) ≡ Some (text_of words blocks bytes)
  pub long : length (text_of words blocks bytes) ≡ bytes
  pub within : bytes ≤ 8 * words_of blocks
  pub limit : bytes ≤ s.options.limit

-- the chain may be cut to so many bytes, which end in its last block
pub record MayCut (number bytes : ℕ) (s : ServerState) : Type 0 where
  pub chain : MayLetGo number s
  pub ends : EndsInLast chain.held.blocks bytes

-- the chain is unpinned, and cut to the words that so many bytes use
abbrev pub cut_as : ℕ → ℕ → Option Chain → ServerState → ServerState
cut_as number bytes None s = s
cut_as number bytes (Some held) s = record s {
  chains = with_chain number (Some (cut_chain bytes held)) s.chains;
  tiles = after_cut (used_words held.blocks bytes) held.blocks (after_unpins held.blocks s.tiles);
}

abbrev pub cut_to : ℕ → ℕ → ServerState → ServerState
cut_to number bytes s = cut_as number bytes (chain_at number s.chains) s

-- the entry is complete, and the most recently used one
abbrev pub with_complete : ℕ → ServerState → ServerState
with_complete n s = record s { dir = with_entries (after_complete n s.dir.entries) s.dir }

-- The seat's fill is out, its chain is unpinned and cut to the words that so many bytes use, the entry is complete and the most recently used one, and the
-- event was added. Nothing else changed.
pub record IsDone (seat serial bytes : ℕ) (old new : ServerState) : Type 0 where
  pub work : RunningTask
  pub at : find (is_of seat) old.tasks.items ≡ Some work
  pub server : new ≡ with_event (event.Done serial) (with_complete serial (cut_to work.chain.number bytes (without_task_of seat old)))

-- The entry left with its blocks, the seat's fill is out, its chain went where no other task is on it, and the event was added. Nothing else changed.
pub record IsGone (seat serial : ℕ) (why : GoneWhy) (old new : ServerState) : Type 0 where
  pub may : MayLeave serial old
  pub freed : List TableBlock
  pub mid : ServerState
  pub left : Leaves serial may.entry may.held freed old mid
  pub server : new ≡ with_event (event.Gone serial why) (rested seat mid)

-- the server is sound, the seat fills the entry, which is there, and has stored its whole answer
pub record MayComplete (seat serial bytes : ℕ) (s : ServerState) : Type 0 where
  pub words : List ℕ
  pub names : List Named
  pub whole : IsWhole (at_rest hash) names words s
  pub fills : Fills seat serial s
  pub there : is_some (entry_at serial s.dir.entries) ≡ true
  pub stored : HasWhole words serial bytes (blocks_of_chain fills.work.chain.number s.chains) s
