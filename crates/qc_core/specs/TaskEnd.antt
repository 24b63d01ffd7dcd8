-- A task that ends without an event is struck off: a stream that its seat has ended, or the fill of an entry that has left.
use Rattle.std.specs.Prelude.{◌≡◌, ℕ, ◌+◌, ◌<◌, ◌≤◌, ◌⊎◌, Bool, true, false, not, List, length, map, Option, Some, None, IfSome, is_some, ◌==◌, slice_set}
use Rattle.std.specs.List.{list_any, filter, find}
use Rattle.qc_tiles.specs.declared.blocks.Block.{Block}
use Rattle.qc_tiles.specs.Tiles.{IsTiling, region_words}
use Rattle.qc_chain.specs.Chains.{Chain, Chained, Begun, AreHandedOut, chain_at, after_release}
use Rattle.qc_dir.specs.Directory.{entry_at, after_leave, with_entries}
use Rattle.qc_laws.specs.history.Runs.{are_distinct}
use Rattle.qc_turn.specs.declared.task.Task.{Task}
use Rattle.qc_turn.specs.declared.task.Task.TheVariants as task
use Rattle.qc_sound.specs.PlainServer.{is_task_on, serial_of}
use Rattle.qc_core.specs.declared.server_state.RunningTask.{RunningTask}
use Rattle.qc_core.specs.declared.server_state.ServerState.{ServerState}
use Rattle.qc_core.specs.Whole.{work_in, chain_blocks}
use Rattle.qc_core.specs.ChainPins.{after_unpins}

-- ---- the tasks

abbrev pub is_of : ℕ → RunningTask → Bool
is_of seat w = w.seat == seat

abbrev pub others : ℕ → List RunningTask → List RunningTask
others seat tasks = filter (λ w. not (is_of seat w)) tasks

abbrev pub is_on : ℕ → RunningTask → Bool
is_on n w = is_task_on n (work_in w)

-- the task of the seat is out of the list
abbrev pub without_task_of : ℕ → ServerState → ServerState
without_task_of seat s = record s { tasks = record { items = others seat s.tasks.items; room = s.tasks.room + 1 } }

-- ---- the chain

abbrev pub blocks_of_chain : ℕ → Chained → List Block
blocks_of_chain number cs = chain_blocks (chain_at number cs)

-- the chain is begun and handed out, and there is room to unpin it
pub record MayLetGo (number : ℕ) (s : ServerState) : Type 0 where
  pub held : Chain
  pub begun : Begun number s.chains held
  pub room : length held.blocks ≤ s.unpinner
  pub tiling : IsTiling (region_words s.tiles) s.tiles
  pub out : AreHandedOut s.tiles held.blocks

abbrev pub with_unpinned : ℕ → ServerState → ServerState
with_unpinned number s = record s { tiles = after_unpins (blocks_of_chain number s.chains) s.tiles }

abbrev pub with_released : ℕ → ServerState → ServerState
with_released number s = record s {
  chains = record { chains = slice_set s.chains.chains number None; room = s.chains.room + length (blocks_of_chain number s.chains) };
  tiles = after_release (blocks_of_chain number s.chains) s.tiles;
}

-- The chain stays pinned where another task is on it. Else it is unpinned, and goes where its entry isn't there.
abbrev pub let_go : (on there : Bool) → ℕ → ServerState → ServerState
let_go true there number s = s
let_go false true number s = with_unpinned number s
let_go false false number s = with_released number (with_unpinned number s)

-- ---- a task is out

-- its entry, where it is there, has a user
pub record MayEnd (n number : ℕ) (s : ServerState) : Type 0 where
  pub used : IfSome (entry_at n s.dir.entries) (λ e. 0 < e.users)
  pub chain : MayLetGo number s

abbrev pub with_user_less : ℕ → ServerState → ServerState
with_user_less n s = record s { dir = with_entries (after_leave n s.dir.entries) s.dir }

abbrev pub after_end : ℕ → ℕ → ServerState → ServerState
after_end n number s = let_go (list_any (is_on n) s.tasks.items) (is_some (entry_at n s.dir.entries)) number (with_user_less n s)

-- ---- a seat rests

-- a stream, or a fill of an entry that has left
abbrev pub EndsAlone : Task → ℕ → ServerState → Type 0
EndsAlone t n s = (t ≡ task.Stream n) ⊎ ((t ≡ task.Fill n) × (entry_at n s.dir.entries ≡ None))

-- the seat's task may end without an event
pub record MayStrike (seat : ℕ) (s : ServerState) : Type 0 where
  pub work : RunningTask
  pub serial : ℕ
  pub at : find (is_of seat) s.tasks.items ≡ Some work
  pub ends : EndsAlone work.task serial s
  pub used : IfSome (entry_at serial s.dir.entries) (λ e. 0 < e.users)
  pub chain : MayLetGo work.chain.number s

pub record MayRest (seat : ℕ) (s : ServerState) : Type 0 where
  pub once : are_distinct (map (λ w. w.seat) s.tasks.items) ≡ true
  pub task : (find (is_of seat) s.tasks.items ≡ None) ⊎ MayStrike seat s

abbrev pub rested_from : ℕ → ℕ → Option ℕ → ServerState → ServerState
rested_from seat number None s = s
rested_from seat number (Some n) s = after_end n number (without_task_of seat s)

abbrev pub rested_by : ℕ → Option RunningTask → ServerState → ServerState
rested_by seat None s = s
rested_by seat (Some w) s = rested_from seat w.chain.number (serial_of w.task) s

-- the server when the task of a seat, if it has one, was struck off
abbrev pub rested : ℕ → ServerState → ServerState
rested seat s = rested_by seat (find (is_of seat) s.tasks.items) s
