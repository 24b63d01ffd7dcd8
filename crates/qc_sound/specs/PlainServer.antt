-- The server behind the lock as plain data, and what each task of a seat is on.
use Rattle.std.specs.Prelude.{ℕ, ◌-◌, Bool, false, ◌||◌, List, [], ◌∷◌, map, Option, Some, None, option_map, unwrap_or, ◌==◌, if◌then◌else◌}
use Rattle.std.specs.List.{list_any}
use Rattle.qc_types.specs.declared.names.TableName.{TableName}
use Rattle.qc_types.specs.declared.options.Options.{Options}
use Rattle.qc_sql.specs.Database.{Database}
use Rattle.qc_model.specs.Journal.{Journal}
use Rattle.qc_tiles.specs.declared.blocks.Tile.{Tile}
use Rattle.qc_tiles.specs.declared.blocks.Block.{Block}
use Rattle.qc_turn.specs.declared.task.ListedTask.{ListedTask}
use Rattle.qc_turn.specs.declared.task.Task.{Task}
use Rattle.qc_turn.specs.declared.task.Task.TheVariants as task

-- an entry of the directory
pub record StoredEntry : Type 0 where
  pub serial : ℕ
  pub hash : ℕ
  pub text : Block
  pub text_bytes : ℕ
  pub tables : List TableName
  pub bytes : ℕ  -- of its answer, once it is complete
  pub complete : Bool
  pub users : ℕ

-- the chain of an entry
pub record EntryChain : Type 0 where
  pub serial : ℕ
  pub blocks : List Block

-- a task of a seat
pub record SeatTask : Type 0 where
  pub seat : ℕ
  pub task : Task

pub record PlainServer : Type 0 where
  pub options : Options
  pub journal : Journal
  pub spare : ℕ  -- room in the journal for further events
  pub database : Database
  pub entries : List StoredEntry  -- from the least to the most recently used
  pub chains : List EntryChain  -- of entries, and of entries that have left while a task is on them
  pub table_blocks : List (TableName × Block)
  pub tiles : List Tile
  pub connected : List ℕ  -- numbers of seats
  pub tasks : List SeatTask

-- ---- chains

abbrev pub has_serial : ℕ → EntryChain → Bool
has_serial n c = c.serial == n

abbrev pub has_chain : ℕ → List EntryChain → Bool
has_chain n chains = list_any (has_serial n) chains

abbrev pub blocks_at : ℕ → List EntryChain → List Block
blocks_at n [] = []
blocks_at n (c ∷ cs) = if c.serial == n then c.blocks else blocks_at n cs

-- ---- tasks

-- the session of a seat
abbrev pub session_of : ℕ → ℕ
session_of seat = seat - 1

-- the serial of what a task streams or fills
abbrev pub serial_of : Task → Option ℕ
serial_of task.Rest = None
serial_of (task.Stream n) = Some n
serial_of (task.Fill n) = Some n

abbrev pub is_task_on : ℕ → SeatTask → Bool
is_task_on n w = unwrap_or (option_map (λ m. m == n) (serial_of w.task)) false

abbrev pub is_stored : ℕ → StoredEntry → Bool
is_stored n e = e.serial == n

-- whether an entry or a task is on the chain with a serial
abbrev pub is_wanted : List StoredEntry → List SeatTask → ℕ → Bool
is_wanted entries tasks n = list_any (is_stored n) entries || list_any (is_task_on n) tasks

-- the blocks that a task streams or fills: the chain with its serial
abbrev pub blocks_of : List EntryChain → Task → List Block
blocks_of chains task.Rest = []
blocks_of chains (task.Stream n) = blocks_at n chains
blocks_of chains (task.Fill n) = blocks_at n chains

abbrev pub listed : List EntryChain → SeatTask → ListedTask
listed chains w = record { number = w.seat; task = w.task; blocks = blocks_of chains w.task }

-- the tasks as the lock sees them, each with its blocks
abbrev pub listed_tasks : PlainServer → List ListedTask
listed_tasks s = map (listed s.chains) s.tasks
