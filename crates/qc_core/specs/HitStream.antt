-- What a hit asks and does.
use Rattle.std.specs.Prelude.{◌≡◌, ℕ, ◌-◌, ◌^◌, ◌<◌, ◌≤◌, [], ◌∷◌, ◌++◌, length, Option, Some, None, Contains}
use Rattle.std.specs.List.{AllByRecursion}
use Rattle.qc_model.specs.declared.events.Who.{Who}
use Rattle.qc_model.specs.declared.events.Event.TheVariants as event
use Rattle.qc_model.specs.declared.events.How.TheVariants as how
use Rattle.qc_tiles.specs.Tiles.{IsTiling, region_words, handed_out}
use Rattle.qc_chain.specs.Chains.{Chain, Chained, Ranged, Begun, chain_at}
use Rattle.qc_dir.specs.declared.entries.Entry.{Entry}
use Rattle.qc_dir.specs.Directory.{entry_at, after_enter, after_touch, with_entries}
use Rattle.qc_turn.specs.declared.task.Task.TheVariants as task
use Rattle.qc_sound.specs.Handed.{after_pins}
use Rattle.qc_core.specs.declared.server_state.RunningTask.{RunningTask}
use Rattle.qc_core.specs.declared.server_state.ServerState.{ServerState}
use Rattle.qc_core.specs.Whole.{with_event, chain_blocks}

-- the entry is there with its chain, whose blocks are handed out, and there is room
pub record MayUse (serial : ℕ) (s : ServerState) (room : ℕ) : Type 0 where
  pub entry : Entry
  pub held : Chain
  pub there : entry_at serial s.dir.entries ≡ Some entry
  pub begun : Begun entry.chain.number s.chains held
  pub users : entry.users < 2 ^ 32 - 1
  pub ranges : length held.blocks ≤ room
  pub tasks : 1 ≤ s.tasks.room
  pub tiling : IsTiling (region_words s.tiles) s.tiles
  pub out : AllByRecursion (Contains (handed_out s.tiles)) held.blocks

abbrev pub streams : ℕ → ℕ → Entry → RunningTask
streams seat serial e = record { seat = seat; task = task.Stream serial; chain = e.chain }

-- the entry is the most recently used one, has one user more, and the seat streams it
abbrev pub used_by : ℕ → ℕ → Entry → Chain → ServerState → ServerState
used_by seat serial e held s = record s {
  dir = with_entries (after_touch serial (after_enter serial s.dir.entries)) s.dir;
  tiles = after_pins held.blocks s.tiles;
  tasks = record { items = s.tasks.items ++ streams seat serial e ∷ []; room = s.tasks.room - 1 };
}

-- the chain of an entry
abbrev pub entry_chain : Chained → Option Entry → Option Chain
entry_chain cs None = None
entry_chain cs (Some e) = chain_at e.chain.number cs

abbrev pub chain_of : ℕ → ServerState → Option Chain
chain_of serial s = entry_chain s.chains (entry_at serial s.dir.entries)

-- the ranges are the chain of the entry
abbrev pub IsChainOf : ℕ → ServerState → Ranged → Type 0
IsChainOf serial s r = chain_of serial s ≡ Some (record { blocks = r.blocks; bytes = r.bytes })

abbrev pub hit_entry : Who → ℕ → ℕ → Option Entry → ServerState → ServerState
hit_entry who serial seat None s = s
hit_entry who serial seat (Some e) s = with_event (event.Run who (how.Hit serial)) (used_by seat serial e (record { blocks = chain_blocks (chain_at e.chain.number s.chains); bytes = 0 }) s)

-- what a hit makes of the server
abbrev pub hit_server : Who → ℕ → ℕ → ServerState → ServerState
hit_server who serial seat s = hit_entry who serial seat (entry_at serial s.dir.entries) s
