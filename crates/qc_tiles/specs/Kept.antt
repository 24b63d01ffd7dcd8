-- What stays true of the blocks in memory between two calls, and what is known where one may move.
use Rattle.std.specs.Prelude.{◌≡◌, ℕ, ◌+◌, ◌*◌, ◌≤◌, ◌<◌, true, false, List, length, slice_index_or}
use Rattle.qc_tiles.specs.declared.blocks.Tile.{Tile}
use Rattle.qc_tiles.specs.declared.blocks.Block.{Block}
use Rattle.qc_tiles.specs.Tiles.{tile, may_move}

-- the block at an index
abbrev pub tile_at : List Tile → ℕ → Tile
tile_at tiles k = slice_index_or tiles k (tile 0 0 false false)

-- a block that is handed out, by its index among all
pub record InHand (ts : List Tile) (b : Block) (k : ℕ) : Type 0 where
  pub within : k < length ts
  pub first : (tile_at ts k).first ≡ b.first
  pub words : (tile_at ts k).words ≡ b.words
  pub used : (tile_at ts k).free ≡ false

-- the block behind the one at an index is the lowest that may move
pub record IsMovable (tiles : List Tile) (at : ℕ) : Type 0 where
  pub within : at + 1 < length tiles
  pub moves : may_move (tile_at tiles at) (tile_at tiles (at + 1)) ≡ true
  pub lowest : (k : ℕ) → k < at → may_move (tile_at tiles k) (tile_at tiles (k + 1)) ≡ false
