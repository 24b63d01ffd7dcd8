-- Blocks are unpinned.
use Rattle.std.specs.Prelude.{◌≡◌, ℕ, false, ◌↔◌, List, [], ◌∷◌, drop, Contains}
use Rattle.std.specs.List.{AllByRecursion}
use Rattle.qc_tiles.specs.declared.blocks.Tile.{Tile}
use Rattle.qc_tiles.specs.declared.blocks.Block.{Block}
use Rattle.qc_tiles.specs.Tiles.{IsTiling, region_words, handed_out, after_pin}
use Rattle.qc_sound.specs.Handed.{after_pins}
use Rattle.qc_sound.specs.parts.Memory.{pinned_blocks}

-- the blocks unpinned, the first one first
abbrev pub after_unpins : List Block → List Tile → List Tile
after_unpins [] tiles = tiles
after_unpins (b ∷ bs) tiles = after_unpins bs (after_pin false b.first tiles)

-- No block is pinned any more that is among these, and no other pin goes.
pub record IsUnpinnedSo (words : ℕ) (ts us : List Tile) (bs : List Block) : Type 0 where
  pub tiling : IsTiling words us
  pub hands : handed_out us ≡ handed_out ts
  pub pins : (x : Block) → Contains (pinned_blocks us) x ↔ (Contains (pinned_blocks ts) x × (Contains bs x → ⊥))

-- so many of the blocks were pinned
pub record IsPinning (bs : List Block) (k : ℕ) (old now : List Tile) : Type 0 where
  pub tiling : IsTiling (region_words old) now
  pub hands : handed_out now ≡ handed_out old
  pub left : after_pins (drop k bs) now ≡ after_pins bs old
  pub out : AllByRecursion (Contains (handed_out now)) (drop k bs)

-- so many of the blocks were unpinned
pub record IsUnpinning (bs : List Block) (k : ℕ) (old now : List Tile) : Type 0 where
  pub tiling : IsTiling (region_words old) now
  pub hands : handed_out now ≡ handed_out old
  pub left : after_unpins (drop k bs) now ≡ after_unpins bs old
  pub out : AllByRecursion (Contains (handed_out now)) (drop k bs)
