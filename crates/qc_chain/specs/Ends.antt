-- For each of some blocks the words up to its end.
use Rattle.std.specs.Prelude.{◌≡◌, ℕ, ◌+◌, ◌<◌, ◌≤◌, ◌^◌, List, [], ◌∷◌, length, slice_index}
use Prim.Native.Nat.{zero, suc}
use Rattle.qc_tiles.specs.declared.blocks.Block.{Block}
use Rattle.qc_chain.specs.Words.{words_of}

-- no number is below one in front of it
abbrev pub AreRising : List ℕ → Type 0
AreRising ends = (i j : ℕ) → i ≤ j → j < length ends → slice_index ends i ≤ slice_index ends j

-- where each block ends, counted on from a number of words
abbrev pub ends_from : ℕ → List Block → List ℕ
ends_from n [] = []
ends_from n (b ∷ bs) = (n + b.words) ∷ ends_from (n + b.words) bs

-- where the block with an index starts
abbrev pub start_at : ℕ → List ℕ → ℕ → ℕ
start_at n ends zero = n
start_at n ends (suc k) = slice_index ends k

pub record IsEnded (blocks : List Block) (ends : List ℕ) (most blocks_fit ends_fit : ℕ) : Type 0 where
  pub each : ends ≡ ends_from 0 blocks
  pub words : words_of blocks < 2 ^ 32
  pub few : length blocks ≤ most
  pub small : most < 2 ^ 32
  pub block_room : most ≤ blocks_fit
  pub end_room : most ≤ ends_fit
