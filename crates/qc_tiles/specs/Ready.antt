-- What stays true of a region's blocks, their index and the place below which none may move.
use Rattle.std.specs.Prelude.{◌≡◌, ℕ, ◌+◌, ◌<◌, ◌≤◌, false, List, [], ◌∷◌, length}
use Rattle.qc_tiles.specs.declared.blocks.Tile.{Tile}
use Rattle.qc_tiles.specs.Tiles.{IsTiling, may_move}
use Rattle.qc_tiles.specs.Kept.{tile_at}
use Rattle.qc_tiles.specs.Sizes.{Indexed}
use Rattle.qc_tiles.specs.Settled.{IsIndexed}

-- no block may move down to a place below this one
abbrev pub NoneBelow : ℕ → List Tile → Type 0
NoneBelow place [] = Unit {0}
NoneBelow place (t ∷ []) = Unit {0}
NoneBelow place (t ∷ u ∷ ts) = (t.first < place → may_move t u ≡ false) × NoneBelow place (u ∷ ts)

pub record IsReady (words : ℕ) (tiles : List Tile) (free : Indexed) (lowest : ℕ) : Type 0 where
  pub tiling : IsTiling words tiles
  pub region : words ≤ 8388608
  pub indexed : IsIndexed words tiles free
  pub quiet : NoneBelow lowest tiles

-- the block at an index, where none below it may move
pub record IsPassed (ts : List Tile) (k : ℕ) (t : Tile) : Type 0 where
  pub within : k < length ts
  pub is : tile_at ts k ≡ t
  pub none : (j : ℕ) → j < k → may_move (tile_at ts j) (tile_at ts (j + 1)) ≡ false
