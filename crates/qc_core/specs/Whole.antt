-- A server as the laws of plain servers see it, and when it is sound.
use Rattle.std.specs.Prelude.{◌≡◌, ℕ, ◌+◌, ◌/◌, Bool, true, List, [], length, map, find, Option, Some, None, IfSome, is_some, is_none, ◌==◌, filter}
use Rattle.std.specs.List.{AllByRecursion, flat_map}
use Rattle.qc_types.specs.declared.names.TableName.{TableName}
use Rattle.qc_model.specs.declared.events.Event.{Event}
use Rattle.qc_tiles.specs.declared.blocks.Block.{Block}
use Rattle.qc_chain.specs.Chains.{Chained, chain_at}
use Rattle.qc_chain.specs.Chains.{Chain as Kept}
use Rattle.qc_dir.specs.declared.entries.Entry.{Entry}
use Rattle.qc_dir.specs.declared.tables.TableBlock.{TableBlock}
use Rattle.qc_dir.specs.Directory.{IsDirectory}
use Rattle.qc_journal.specs.Room.{recorded}
use Rattle.qc_key.specs.Hash.{hash}
use Rattle.qc_laws.specs.history.Runs.{are_distinct}
use Rattle.qc_model.specs.Licence.{region_words}
use Rattle.qc_turn.specs.Words.{word_seats}
use Rattle.qc_turn.specs.declared.task.ListedTask.{ListedTask}
use Rattle.qc_turn.specs.declared.task.Task.{Task}
use Rattle.qc_turn.specs.declared.task.Task.TheVariants as task
use Rattle.qc_sound.specs.PlainServer.{StoredEntry, EntryChain, SeatTask}
use Rattle.qc_sound.specs.PlainServer.{PlainServer}
use Rattle.qc_sound.specs.Moment.{Moment, at_rest}
use Rattle.qc_sound.specs.Sound.{IsSound}
use Rattle.qc_sound.specs.PlainServer.{serial_of}
use Rattle.qc_sound.specs.Laws.{free_blocks, taken_blocks}
use Rattle.qc_core.specs.declared.server_state.RunningTask.{RunningTask}
use Rattle.qc_core.specs.declared.server_state.ServerState.{ServerState}

-- ---- chains by their names

abbrev pub chain_blocks : Option Kept → List Block
chain_blocks None = []
chain_blocks (Some c) = c.blocks

abbrev pub chain_bytes : Option Kept → ℕ
chain_bytes None = 0
chain_bytes (Some c) = c.bytes

-- the chain of a serial: an entry's, or that of one that has left
pub record Named : Type 0 where
  pub serial : ℕ
  pub number : ℕ

abbrev pub is_named : ℕ → Named → Bool
is_named n x = x.serial == n

abbrev pub IsNamedAs : List Named → ℕ → ℕ → Type 0
IsNamedAs names serial number = find (is_named serial) names ≡ Some (record { serial = serial; number = number })

-- ---- the plain server

abbrev pub stored : Chained → Entry → StoredEntry
stored cs e = record { serial = e.serial; hash = e.hash; text = e.text; text_bytes = e.text_bytes; tables = e.tables; bytes = chain_bytes (chain_at e.chain.number cs); complete = e.complete; users = e.users }

abbrev pub chain_in : Chained → Named → EntryChain
chain_in cs x = record { serial = x.serial; blocks = chain_blocks (chain_at x.number cs) }

abbrev pub table_pair : TableBlock → TableName × Block
table_pair b = (b.table, b.block)

abbrev pub work_in : RunningTask → SeatTask
work_in w = record { seat = w.seat; task = w.task }

abbrev pub plain : List Named → ServerState → PlainServer
plain names s = record {
  options = s.options;
  journal = s.journal.events;
  spare = s.journal.spare;
  database = s.database;
  entries = map (stored s.chains) s.dir.entries;
  chains = map (chain_in s.chains) names;
  table_blocks = map table_pair s.dir.tables;
  tiles = s.tiles;
  connected = s.connected.items;
  tasks = map work_in s.tasks.items;
}

-- ---- the tasks

abbrev pub task_blocks : Task → List Block → List Block
task_blocks task.Rest bs = []
task_blocks (task.Stream n) bs = bs
task_blocks (task.Fill n) bs = bs

abbrev pub listed_in : Chained → RunningTask → ListedTask
listed_in cs w = record { number = w.seat; task = w.task; blocks = task_blocks w.task (chain_blocks (chain_at w.chain.number cs)) }

abbrev pub tasks_of : ServerState → List ListedTask
tasks_of s = map (listed_in s.chains) s.tasks.items

-- the blocks that are free, and those that are handed out and in no task
abbrev pub free_of : ServerState → List Block
free_of s = free_blocks s.tiles

abbrev pub taken_of : ServerState → List Block
taken_of s = taken_blocks s.tiles (tasks_of s)

-- ---- sound

-- the names are those of the chains
pub record IsNamed (names : List Named) (s : ServerState) : Type 0 where
  pub begun : AllByRecursion (λ x. is_some (chain_at x.number s.chains) ≡ true) names
  pub numbers : are_distinct (map (λ x. x.number) names) ≡ true
  pub entries : AllByRecursion (λ e. IsNamedAs names e.serial e.chain.number) s.dir.entries
  pub tasks : AllByRecursion (λ w. IfSome (serial_of w.task) (λ n. IsNamedAs names n w.chain.number)) s.tasks.items

-- each seat is connected at most once, and there is room for 65 of them, and for as many tasks
pub record SeatsAreSound (s : ServerState) : Type 0 where
  pub once : are_distinct s.connected.items ≡ true
  pub room : length s.connected.items + s.connected.room ≡ word_seats
  pub task_room : length s.tasks.items + s.tasks.room ≡ word_seats

-- how many names of chains are free
abbrev pub free_names : Chained → ℕ
free_names cs = length (filter (λ c. is_none c) cs.chains)

-- the named chains and the room for more are a block and a name for each 64 words
pub record ChainsHaveRoom (names : List Named) (cs : Chained) (words : ℕ) : Type 0 where
  pub blocks : length (flat_map (λ c. c.blocks) (map (chain_in cs) names)) + cs.room ≡ words / 64
  pub free : length names + free_names cs ≡ words / 64

-- there is room for an entry for each 128 words of the region, and for a table, for a chain and a block of one, and for a block of the chain that is
-- unpinned, for each 64
pub record RoomIsSound (names : List Named) (s : ServerState) : Type 0 where
  pub entries : length s.dir.entries + s.dir.room ≡ region_words s.options / 128
  pub tables : length s.dir.tables + s.dir.table_room ≡ region_words s.options / 64
  pub chains : ChainsHaveRoom names s.chains (region_words s.options)
  pub unpinner : s.unpinner ≡ region_words s.options / 64

pub record IsWhole (m : Moment) (names : List Named) (words : List ℕ) (s : ServerState) : Type 0 where
  pub named : IsNamed names s
  pub sound : IsSound m words (plain names s)
  pub directory : IsDirectory s.dir
  pub seats : SeatsAreSound s
  pub room : RoomIsSound names s

-- the server may stand free over these words
abbrev pub Sound : List ℕ → ServerState → Type 0
Sound words s = (names : List Named) × IsWhole (at_rest hash) names words s

-- it may stand free over some words
abbrev pub IsSomewhereSound : ServerState → Type 0
IsSomewhereSound s = (words : List ℕ) × Sound words s

-- ---- one more event

abbrev pub with_event : Event → ServerState → ServerState
with_event e s = record s { journal = recorded e s.journal }
