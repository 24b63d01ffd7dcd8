-- The third part of soundness: the blocks of the region.
use Rattle.std.specs.Prelude.{◌≡◌, ℕ, ◌+◌, ◌*◌, ◌<◌, ◌≤◌, ◌↔◌, Bool, true, false, not, ◌&&◌, List, [], ◌∷◌, ◌++◌, length, map, filter, Contains, IsPermutation, unwrap_or}
use Rattle.std.specs.List.{list_any, flat_map, AllByRecursion}
use Rattle.qc_types.specs.declared.names.TableName.{TableName}
use Rattle.qc_types.specs.declared.options.Options.{Options}
use Rattle.qc_types.specs.Blocks.{raised}
use Rattle.qc_sql.specs.Database.{same_table}
use Rattle.qc_model.specs.Journal.{Journal, present}
use Rattle.qc_model.specs.Session.{answer}
use Rattle.qc_model.specs.Licence.{words_of_bytes, region_words, unit_words}
use Rattle.qc_laws.specs.history.Runs.{IsStarted, are_distinct}
use Rattle.qc_tiles.specs.declared.blocks.Tile.{Tile}
use Rattle.qc_tiles.specs.declared.blocks.Block.{Block}
use Rattle.qc_tiles.specs.Tiles.{IsTiling, block_of, handed_out}
use Rattle.qc_chain.specs.Words.{words_of}
use Rattle.qc_chain.specs.Chains.{but_last}
use Rattle.qc_sound.specs.PlainServer.{PlainServer, StoredEntry, EntryChain, blocks_at, blocks_of, has_chain, is_wanted}
use Rattle.qc_sound.specs.Moment.{Moment}

-- ---- the tiles

abbrev pub pinned_blocks : List Tile → List Block
pinned_blocks tiles = map block_of (filter (λ t. t.pinned) tiles)

-- what the blocks that are handed out are for: a text for each entry, a block for each table, and chains
abbrev pub blocks_in_use : PlainServer → List Block
blocks_in_use s = map (λ e. e.text) s.entries ++ (map (λ b. b.1) s.table_blocks ++ flat_map (λ c. c.blocks) s.chains)

-- the blocks of all listed tasks
abbrev pub blocks_of_tasks : PlainServer → List Block
blocks_of_tasks s = flat_map (λ w. blocks_of s.chains w.task) s.tasks

pub record TilesAreSound (m : Moment) (s : PlainServer) : Type 0 where
  -- they cover the region, each word once, and no two free ones are neighbours
  pub tiling : IsTiling (region_words s.options) s.tiles
  -- handed out are the blocks in use, each once, and those that a start holds
  pub in_use : IsPermutation (handed_out s.tiles) (m.held ++ blocks_in_use s)
  -- pinned are the blocks of listed tasks
  pub pinned : (b : Block) → Contains (pinned_blocks s.tiles) b ↔ Contains (blocks_of_tasks s) b

-- ---- the blocks of tables

abbrev pub names_table : TableName → StoredEntry → Bool
names_table t e = list_any (same_table t) e.tables

abbrev pub is_on_table : TableName → TableName × Block → Bool
is_on_table t b = same_table t b.0

-- no table stands twice
abbrev pub are_once : List TableName → Bool
are_once [] = true
are_once (t ∷ ts) = not (list_any (same_table t) ts) && are_once ts

pub record TablesAreSound (s : PlainServer) : Type 0 where
  -- a table has a block where an entry names it, and nowhere else
  pub named : (t : TableName) → list_any (names_table t) s.entries ≡ list_any (is_on_table t) s.table_blocks
  -- no table has two
  pub once : are_once (map (λ b. b.0) s.table_blocks) ≡ true
  -- none is larger than the least block and what is too small to be left over
  pub words : AllByRecursion (λ b. b.1.words ≤ 127) s.table_blocks

-- ---- the chains

pub record ChainFits (options : Options) (journal : Journal) (c : EntryChain) : Type 0 where
  -- a chain has a block
  pub first : 0 < length c.blocks
  -- none is larger than a unit and what is too small to be left over
  pub small : AllByRecursion (λ b. b.words ≤ unit_words options + 63) c.blocks
  -- each but the last has the words of a unit
  pub full : AllByRecursion (λ b. unit_words options ≤ b.words) (but_last c.blocks)
  -- its entry was started
  pub start : IsStarted journal c.serial
  -- the blocks but the last don't hold what the entry answered at its start
  pub needed : 8 * words_of (but_last c.blocks) < length (unwrap_or (answer start.key (present start.earlier)) [])

-- before an entry is complete, the last block of its chain has the words of a unit too
abbrev pub IsUncut : Options → List EntryChain → StoredEntry → Type 0
IsUncut options chains e = e.complete ≡ false → AllByRecursion (λ b. unit_words options ≤ b.words) (blocks_at e.serial chains)

pub record ChainsAreSound (s : PlainServer) : Type 0 where
  -- no two are of one entry
  pub apart : are_distinct (map (λ c. c.serial) s.chains) ≡ true
  -- each entry has one
  pub entered : AllByRecursion (λ e. has_chain e.serial s.chains ≡ true) s.entries
  -- each is of an entry, or a task is on it
  pub wanted : AllByRecursion (λ c. is_wanted s.entries s.tasks c.serial ≡ true) s.chains
  pub fitting : AllByRecursion (ChainFits s.options s.journal) s.chains
  pub uncut : AllByRecursion (IsUncut s.options s.chains) s.entries

-- ---- the whole

-- the text of an entry has at most 63 words more than are asked for its key
abbrev pub TextFits : StoredEntry → Type 0
TextFits e = e.text.words ≤ raised (words_of_bytes e.text_bytes) + 63

pub record MemoryIsSound (m : Moment) (s : PlainServer) : Type 0 where
  pub tiles : TilesAreSound m s
  pub tables : TablesAreSound s
  pub chains : ChainsAreSound s
  pub texts : AllByRecursion TextFits s.entries
