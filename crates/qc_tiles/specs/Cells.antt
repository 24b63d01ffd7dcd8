-- Blocks by the cell of 64 words in which they begin.
use Rattle.std.specs.Prelude.{◌≡◌, ℕ, ◌+◌, ◌*◌, ◌-◌, ◌/◌, ◌≤◌, ◌<◌, List, [], ◌∷◌, length, Option, Some, None, slice_index, ◌==◌, if◌then◌else◌}
use Prim.Native.Nat.{zero, suc}
use Rattle.std.specs.List.{AllByRecursion}
use Rattle.qc_tiles.specs.declared.blocks.Tile.{Tile}
use Rattle.qc_types.specs.Blocks.{least_block}
use Rattle.qc_tiles.specs.Tiles.{CoversFrom}
use Rattle.qc_tiles.specs.Kept.{tile_at}

-- the blocks that begin in the cells
abbrev pub begun : List (Option Tile) → List Tile
begun [] = []
begun (None ∷ cs) = begun cs
begun (Some t ∷ cs) = t ∷ begun cs

-- each begins in its cell, where the first cell begins with this word
abbrev pub PlacedFrom : ℕ → List (Option Tile) → Type 0
PlacedFrom n [] = Unit {0}
PlacedFrom n (None ∷ cs) = PlacedFrom (n + 64) cs
PlacedFrom n (Some t ∷ cs) = (n ≤ t.first) × (t.first < n + 64) × PlacedFrom (n + 64) cs

-- the cell of a block's last word tells where it begins
abbrev pub IsMarked : List ℕ → Tile → Type 0
IsMarked ends t = slice_index ends ((t.first + (t.words - 1)) / 64) ≡ t.first

pub record IsPlaced (starts : List (Option Tile)) (ends : List ℕ) (count : ℕ) : Type 0 where
  pub covers : CoversFrom 0 (64 * length starts) (begun starts)
  pub large : AllByRecursion (λ t. least_block ≤ t.words) (begun starts)
  pub placed : PlacedFrom 0 starts
  pub marks : length ends ≡ length starts
  pub marked : AllByRecursion (IsMarked ends) (begun starts)
  pub counted : count ≡ length (begun starts)
  pub few : length starts ≤ 131072

-- the block that begins at a word
abbrev pub block_at : ℕ → List Tile → Option Tile
block_at first [] = None
block_at first (t ∷ ts) = if t.first == first then Some t else block_at first ts

-- a block with that place and so many words, by its index
pub record IsAt (ts : List Tile) (k place size : ℕ) : Type 0 where
  pub within : k < length ts
  pub first : (tile_at ts k).first ≡ place
  pub words : (tile_at ts k).words ≡ size

-- the block in front of the one at an index
abbrev pub lower_of : ℕ → List Tile → Option Tile
lower_of zero ts = None
lower_of (suc k) ts = Some (tile_at ts k)
