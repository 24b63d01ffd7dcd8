-- What is handed out and pinned after blocks were pinned or given back.
use Rattle.std.specs.Prelude.{◌≡◌, ℕ, true, ◌⊎◌, ◌↔◌, List, [], ◌∷◌, ◌++◌, Contains, IsPermutation}
use Rattle.std.specs.List.{AllByRecursion}
use Rattle.qc_tiles.specs.declared.blocks.Tile.{Tile}
use Rattle.qc_tiles.specs.declared.blocks.Block.{Block}
use Rattle.qc_tiles.specs.Tiles.{IsTiling, handed_out, after_pin}
use Rattle.qc_chain.specs.Chains.{AreHandedOut, after_release}
use Rattle.qc_sound.specs.parts.Memory.{pinned_blocks}

-- the blocks pinned, the first one first
abbrev pub after_pins : List Block → List Tile → List Tile
after_pins [] tiles = tiles
after_pins (b ∷ bs) tiles = after_pins bs (after_pin true b.first tiles)

pub record IsPinnedSo (words : ℕ) (ts us : List Tile) (bs : List Block) : Type 0 where
  pub tiling : IsTiling words us
  pub hands : handed_out us ≡ handed_out ts
  pub pins : (x : Block) → Contains (pinned_blocks us) x ↔ (Contains (pinned_blocks ts) x ⊎ Contains bs x)

abbrev pub PinsAll : Type 0
PinsAll = (words : ℕ) (ts : List Tile) (bs : List Block) → IsTiling words ts → AllByRecursion (Contains (handed_out ts)) bs → IsPinnedSo words ts (after_pins bs ts) bs

pub record IsGivenBack (words : ℕ) (ts us : List Tile) (bs : List Block) : Type 0 where
  pub tiling : IsTiling words us
  pub hands : IsPermutation (handed_out ts) (handed_out us ++ bs)
  pub pins : pinned_blocks us ≡ pinned_blocks ts

abbrev pub GivesAll : Type 0
GivesAll = (words : ℕ) (ts : List Tile) (bs : List Block) → IsTiling words ts → AreHandedOut ts bs → AllByRecursion (λ b. Contains (pinned_blocks ts) b → ⊥) bs → IsGivenBack words ts (after_release bs ts) bs
