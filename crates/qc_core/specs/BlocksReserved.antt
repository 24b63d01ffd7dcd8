-- What a start under way has in hand: blocks of its tables that no entry names.
use Rattle.std.specs.Prelude.{◌≡◌, ℕ, ◌+◌, ◌≤◌, true, false, List, [], ◌++◌, length, IsPermutation}
use Rattle.std.specs.List.{list_any}
use Rattle.qc_types.specs.declared.names.TableName.{TableName}
use Rattle.qc_sql.specs.Database.{same_table}
use Rattle.qc_tiles.specs.declared.blocks.Tile.{Tile}
use Rattle.qc_chain.specs.Chains.{after_release}
use Rattle.qc_dir.specs.declared.tables.TableBlock.{TableBlock}
use Rattle.qc_dir.specs.Directory.{is_block_of}
use Rattle.qc_dir.specs.Keys.{total, bit}
use Rattle.qc_core.specs.declared.reserved_blocks.ReservedBlocks.{ReservedBlocks}
use Rattle.qc_core.specs.EntryRemoval.{table_blocks, AreSorted}

-- nothing, for no tables
abbrev pub nothing : ReservedBlocks
nothing = record { tables = []; fresh = [] }

-- how many of the blocks are of one of the tables
abbrev pub own_in : List TableName → List TableBlock → ℕ
own_in tables bs = total (λ b. bit (list_any (same_table b.table) tables)) bs

-- Of some blocks those of the hand's tables came into the hand, and the others were given back.
pub record Sorts (freed : List TableBlock) (old new : ReservedBlocks) (ts us : List Tile) : Type 0 where
  pub kept : List TableBlock
  pub others : List TableBlock
  pub parts : IsPermutation freed (kept ++ others)
  pub sorts : AreSorted old.tables kept others
  pub hand : new ≡ record { tables = old.tables; fresh = old.fresh ++ kept }
  pub tiles : us ≡ after_release (table_blocks others) ts

-- how many of the blocks, and of the names, are of a table
abbrev pub blocks_of : TableName → List TableBlock → ℕ
blocks_of t bs = total (λ b. bit (is_block_of t b)) bs

abbrev pub names_of : TableName → List TableName → ℕ
names_of t ts = total (λ u. bit (same_table t u)) ts

-- Each of the hand's tables has one block, in the directory or in the hand, or it is missing; no other table is in the hand or missing.
pub record IsInHand (hand : ReservedBlocks) (missing : List TableName) (there : List TableBlock) : Type 0 where
  pub few : length hand.tables ≤ 8
  pub one : (t : TableName) → list_any (same_table t) hand.tables ≡ true → blocks_of t there + (blocks_of t hand.fresh + names_of t missing) ≡ 1
  pub none : (t : TableName) → list_any (same_table t) hand.tables ≡ false → blocks_of t hand.fresh + names_of t missing ≡ 0
