-- Laws of blocks: when a need is refused, and that a region is then small against its blocks.
use Rattle.std.specs.Prelude.{◌≡◌, ℕ, ◌+◌, ◌*◌, ◌<◌, ◌≤◌, true, false, List, length, is_some, nat_le}
use Rattle.std.specs.List.{AllByRecursion}
use Rattle.qc_tiles.specs.declared.blocks.Tile.{Tile}
use Rattle.qc_types.specs.Blocks.{raised}
use Rattle.qc_tiles.specs.Tiles.{IsTiling, handed_out, taken, largest_free}

-- the words of a handed-out block are at most `most`, and those of a free one fewer
pub record IsBelow (most : ℕ) (t : Tile) : Type 0 where
  pub used : t.free ≡ false → t.words ≤ most
  pub free : t.free ≡ true → t.words < most

-- With at most so many blocks handed out, of at most `most` words each, and every free block smaller than that, the words of the region are fewer than
-- twice the blocks and one more, times `most`.
abbrev pub BoundsRegion : Type 0
BoundsRegion = (tiles : List Tile) (words blocks most : ℕ) → IsTiling words tiles → length (handed_out tiles) ≤ blocks → 0 < most → AllByRecursion (IsBelow most) tiles
    → words < (2 * blocks + 1) * most

-- A need gets a block exactly where the largest free block holds it, raised.
abbrev pub RefusesSmall : Type 0
RefusesSmall = (need : ℕ) (tiles : List Tile) → is_some (taken need tiles) ≡ nat_le (raised need) (largest_free tiles)
