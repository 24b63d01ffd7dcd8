-- An entry leaves.
use Rattle.std.specs.List.{list_any, AllByRecursion}
use Rattle.std.specs.Prelude.{◌≡◌, ℕ, ◌+◌, Bool, true, false, List, [], ◌∷◌, ◌++◌, map, length, drop, Option, Some, None, slice_set, IsPermutation}
use Rattle.qc_types.specs.declared.names.TableName.{TableName}
use Rattle.qc_sql.specs.Database.{same_table}
use Rattle.qc_tiles.specs.declared.blocks.Tile.{Tile}
use Rattle.qc_tiles.specs.declared.blocks.Block.{Block}
use Rattle.qc_tiles.specs.Tiles.{IsTiling, region_words}
use Rattle.qc_chain.specs.Chains.{Chain, Chained, Begun, AreHandedOut, after_release}
use Rattle.qc_dir.specs.declared.entries.Entry.{Entry}
use Rattle.qc_dir.specs.declared.tables.TableBlock.{TableBlock}
use Rattle.qc_dir.specs.Directory.{Directory, entry_at, RemovesEntry}
use Rattle.qc_core.specs.declared.server_state.ServerState.{ServerState}
use Rattle.qc_core.specs.TaskEnd.{is_on}

-- the blocks of the tables in some places
abbrev pub blocks_in : List (Option TableBlock) → List Block
blocks_in [] = []
blocks_in (None ∷ ps) = blocks_in ps
blocks_in (Some t ∷ ps) = t.block ∷ blocks_in ps

abbrev pub table_blocks : List TableBlock → List Block
table_blocks ts = map (λ t. t.block) ts

-- whether a task is on the entry
abbrev pub has_task : ℕ → ServerState → Bool
has_task n s = list_any (is_on n) s.tasks.items

-- the chain's blocks, which go with the entry where no task is on it
abbrev pub free_chain : (on : Bool) → Chain → List Block
free_chain true held = []
free_chain false held = held.blocks

-- the blocks that an entry gives back: those of its chain that are free, its text, and of tables
abbrev pub own_blocks : List Block → Entry → List TableBlock → List Block
own_blocks free e freed = free ++ (e.text ∷ table_blocks freed)

-- the entry is there with its chain, and its blocks are handed out, whichever of the tables are freed
pub record MayLeave (serial : ℕ) (s : ServerState) : Type 0 where
  pub entry : Entry
  pub held : Chain
  pub there : entry_at serial s.dir.entries ≡ Some entry
  pub begun : Begun entry.chain.number s.chains held
  pub tiling : IsTiling (region_words s.tiles) s.tiles
  pub chain : AreHandedOut s.tiles held.blocks
  pub out : (freed rest : List TableBlock) → IsPermutation s.dir.tables (freed ++ rest) → AreHandedOut s.tiles (own_blocks (free_chain (has_task serial s) held) entry freed)

abbrev pub released : ℕ → Chain → Chained → Chained
released n held cs = record { chains = slice_set cs.chains n None; room = cs.room + length held.blocks }

abbrev pub released_unless : (on : Bool) → ℕ → Chain → Chained → Chained
released_unless true n held cs = cs
released_unless false n held cs = released n held cs

-- the chain is given back where no task is on it
abbrev pub chain_left : (on : Bool) → ℕ → Chain → ServerState → ServerState
chain_left on n held s = record s { chains = released_unless on n held s.chains; tiles = after_release (free_chain on held) s.tiles }

abbrev pub left_by : Directory → (on : Bool) → Entry → Chain → List TableBlock → ServerState → ServerState
left_by dir on e held freed s = record s { dir = dir; chains = released_unless on e.chain.number held s.chains; tiles = after_release (own_blocks (free_chain on held) e freed) s.tiles }

-- the entry is out, and its blocks were given back
pub record Leaves (serial : ℕ) (e : Entry) (held : Chain) (freed : List TableBlock) (old new : ServerState) : Type 0 where
  pub removed : RemovesEntry serial freed old.dir new.dir
  pub server : new ≡ left_by new.dir (has_task serial old) e held freed old

-- the first blocks are of some of the tables, and the others of none
pub record AreSorted (tables : List TableName) (kept others : List TableBlock) : Type 0 where
  pub own : AllByRecursion (λ b. list_any (same_table b.table) tables ≡ true) kept
  pub foreign : AllByRecursion (λ b. list_any (same_table b.table) tables ≡ false) others

-- The entry is out, and its blocks were given back, but for those of these tables that no other entry names.
pub record LeavesBut (tables : List TableName) (serial : ℕ) (e : Entry) (held : Chain) (old new : ServerState) : Type 0 where
  pub kept : List TableBlock
  pub others : List TableBlock
  pub freed : List TableBlock
  pub removed : RemovesEntry serial freed old.dir new.dir
  pub parts : IsPermutation freed (kept ++ others)
  pub sorts : AreSorted tables kept others
  pub server : new ≡ left_by new.dir (has_task serial old) e held others old

-- so many of the places have been gone through
pub record IsReturning (ps : List (Option TableBlock)) (k : ℕ) (old now : List Tile) : Type 0 where
  pub tiling : IsTiling (region_words old) now
  pub left : after_release (blocks_in (drop k ps)) now ≡ after_release (blocks_in ps) old
  pub out : AreHandedOut now (blocks_in (drop k ps))
