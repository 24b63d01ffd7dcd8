-- Chains: how much each has, the free names, and the blocks.
use Rattle.std.specs.Prelude.{◌≡◌, ℕ, ◌≤◌, Bool, true, false, List, map, length, Option, Some, None, option_map, option_and_then, slice_get}
use Rattle.qc_chain.specs.Counts.{bit, count}
use Rattle.qc_tiles.specs.declared.blocks.Block.{Block}
use Rattle.qc_chain.specs.declared.names.Extent.{Extent}
use Rattle.qc_chain.specs.Words.{words_of}
use Rattle.qc_chain.specs.Views.{blocks_of, AreFit}
use Rattle.qc_chain.specs.Listed.{Listed}

abbrev pub extent_at : ℕ → List (Option Extent) → Option Extent
extent_at n extents = option_and_then (λ x. x) (slice_get extents n)

abbrev pub lengths_of : List (Option Extent) → List (Option ℕ)
lengths_of extents = map (option_map (λ e. e.bytes)) extents

abbrev pub is_empty : Option (Option Extent) → Bool
is_empty None = false
is_empty (Some None) = true
is_empty (Some (Some e)) = false

-- a number is a free name
abbrev pub is_free : ℕ → List (Option Extent) → Bool
is_free n extents = is_empty (slice_get extents n)

-- what is known of a chain's extent
abbrev pub IsCounted : Option Extent → List Block → Type 0
IsCounted None blocks = Unit {0}
IsCounted (Some e) blocks = (e.blocks ≡ length blocks) × (e.words ≡ words_of blocks)

pub record IsStored (extents : List (Option Extent)) (free : List ℕ) (capacity : ℕ) (blocks : Listed) : Type 0 where
  pub sound : AreFit (lengths_of extents) blocks.lists
  pub counted : (n : ℕ) → IsCounted (extent_at n extents) (blocks_of n blocks.lists)
  pub names : (n : ℕ) → count n free ≡ bit (is_free n extents)
  pub lists : length blocks.lists ≡ length extents
  pub fits : length extents ≤ capacity
