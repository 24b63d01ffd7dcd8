-- A list of blocks with one free block that isn't in the index, and what becomes of it.
use Rattle.std.specs.Prelude.{◌≡◌, ℕ, ◌+◌, ◌*◌, ◌<◌, ◌≤◌, false, List, ◌∷◌, ◌++◌, length, take, drop}
use Prim.Native.Nat.{zero, suc}
use Rattle.std.specs.List.{AllByRecursion}
use Rattle.qc_tiles.specs.declared.blocks.Block.{Block}
use Rattle.qc_tiles.specs.declared.blocks.Tile.{Tile}
use Rattle.qc_types.specs.Blocks.{least_block}
use Rattle.qc_tiles.specs.Tiles.{free_tile, CoversFrom, FreeApart, IsTiling, cut, cut_words, joined, joined_to}
use Rattle.qc_tiles.specs.Kept.{tile_at}
use Rattle.qc_tiles.specs.Sizes.{Indexed, by_size}

-- the block at an index is free, and not in the index of free blocks; all others that are free are apart, and in it
pub record IsHole (words : ℕ) (ts : List Tile) (free : Indexed) (block : Block) (k : ℕ) : Type 0 where
  pub within : k + 1 ≤ length ts
  pub is : tile_at ts k ≡ free_tile block.first block.words
  pub sizes : free.blocks ≡ by_size (take k ts ++ drop (k + 1) ts)
  pub room : words ≤ least_block * (length free.blocks + free.room)
  pub covers : CoversFrom 0 words ts
  pub large : AllByRecursion (λ t. least_block ≤ t.words) ts
  pub region : words ≤ 8388608
  pub low : FreeApart (take k ts)
  pub high : FreeApart (drop (k + 1) ts)

-- the block at an index joined with the next one
abbrev pub joined_at : ℕ → List Tile → List Tile
joined_at k ts = take k ts ++ joined_to (tile_at ts k) (drop (k + 1) ts)

pub record WithUpper (words k : ℕ) (old new : List Tile) (free : Indexed) (block : Block) : Type 0 where
  pub hole : IsHole words new free block k
  pub tiles : new ≡ joined_at k old

abbrev pub joined_below : ℕ → List Tile → List Tile
joined_below zero ts = ts
joined_below (suc k) ts = joined_at k ts

pub record WithLower (words k : ℕ) (old new : List Tile) (free : Indexed) (block : Block) : Type 0 where
  pub at : ℕ
  pub hole : IsHole words new free block at
  pub tiles : new ≡ joined_below k old
  pub same : drop (at + 1) new ≡ drop (k + 1) old
  pub rest : List Tile
  pub front : take k old ≡ take at new ++ rest

-- every free block is in the index
pub record IsIndexed (words : ℕ) (ts : List Tile) (free : Indexed) : Type 0 where
  pub sizes : free.blocks ≡ by_size ts
  pub room : words ≤ least_block * (length free.blocks + free.room)

pub record Settles (words k : ℕ) (old new : List Tile) (free : Indexed) (block : Block) : Type 0 where
  pub tiles : new ≡ joined old
  pub indexed : IsIndexed words new free
  pub low : List Tile
  pub rest : List Tile
  pub high : List Tile
  pub front : take k old ≡ low ++ rest
  pub made : new ≡ low ++ (free_tile block.first block.words ∷ high)

-- the block at an index is free and in the index, like all that are free, and holds so many words
pub record IsFree (words : ℕ) (ts : List Tile) (free : Indexed) (block : Block) (k wanted : ℕ) : Type 0 where
  pub tiling : IsTiling words ts
  pub region : words ≤ 8388608
  pub indexed : IsIndexed words ts free
  pub within : k < length ts
  pub is : tile_at ts k ≡ free_tile block.first block.words
  pub some : least_block ≤ wanted
  pub holds : wanted ≤ block.words

pub record HandsOut (words k wanted : ℕ) (old new : List Tile) (free : Indexed) (from result : Block) : Type 0 where
  pub tiles : new ≡ take k old ++ (cut wanted false (tile_at old k) ++ drop (k + 1) old)
  pub indexed : IsIndexed words new free
  pub block : result ≡ record { first = from.first; words = cut_words wanted from.words }
