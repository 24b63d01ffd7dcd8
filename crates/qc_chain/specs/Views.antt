-- The blocks of all chains, a list for each, what contracts see of them and of the byte lengths, and what changes of one list are.
use Rattle.std.specs.Prelude.{◌≡◌, ℕ, ◌+◌, List, [], ◌∷◌, ◌++◌, Option, Some, None, option_map, option_and_then, slice_get, slice_index_or}
use Rattle.qc_tiles.specs.declared.blocks.Block.{Block}
use Rattle.qc_chain.specs.Chains.{Chain, Chained, IsFit}

-- the blocks of a chain, in order
abbrev pub blocks_of : ℕ → List (List Block) → List Block
blocks_of n lists = slice_index_or lists n []

abbrev pub chain_of : ℕ → List (List Block) → ℕ → Chain
chain_of n lists bytes = record { blocks = blocks_of n lists; bytes = bytes }

-- the chains from a number on, by their byte lengths
abbrev pub chains_from : ℕ → List (Option ℕ) → List (List Block) → List (Option Chain)
chains_from n [] lists = []
chains_from n (l ∷ ls) lists = option_map (chain_of n lists) l ∷ chains_from (n + 1) ls lists

abbrev pub chained : List (Option ℕ) → List (List Block) → ℕ → Chained
chained lengths lists room = record { chains = chains_from 0 lengths lists; room = room }

-- the byte length under a number, if a chain has it
abbrev pub bytes_at : ℕ → List (Option ℕ) → Option ℕ
bytes_at n lengths = option_and_then (λ x. x) (slice_get lengths n)

-- no blocks where there is no chain
abbrev pub IsFitAt : ℕ → Option ℕ → List (List Block) → Type 0
IsFitAt n None lists = blocks_of n lists ≡ []
IsFitAt n (Some bytes) lists = IsFit (blocks_of n lists) bytes

abbrev pub AreFit : List (Option ℕ) → List (List Block) → Type 0
AreFit lengths lists = (n : ℕ) → IsFitAt n (bytes_at n lengths) lists

-- ---- changes of one list

-- the other chains have the same blocks
abbrev pub KeepsOthers : ℕ → List (List Block) → List (List Block) → Type 0
KeepsOthers n old new = (m : ℕ) → (m ≡ n → ⊥) → blocks_of m new ≡ blocks_of m old

-- a chain has one block more, at its end
pub record Appends (n : ℕ) (block : Block) (old new : List (List Block)) : Type 0 where
  pub own : blocks_of n new ≡ blocks_of n old ++ block ∷ []
  pub other : KeepsOthers n old new

-- it has lost its first block
pub record TakesFirst (n : ℕ) (block : Block) (old new : List (List Block)) : Type 0 where
  pub own : blocks_of n old ≡ block ∷ blocks_of n new
  pub other : KeepsOthers n old new

-- it has lost all
pub record Removes (n : ℕ) (old new : List (List Block)) : Type 0 where
  pub own : blocks_of n new ≡ []
  pub other : KeepsOthers n old new

-- it has another last block
pub record Cuts (n : ℕ) (front : List Block) (last left : Block) (old new : List (List Block)) : Type 0 where
  pub before : blocks_of n old ≡ front ++ last ∷ []
  pub own : blocks_of n new ≡ front ++ left ∷ []
  pub other : KeepsOthers n old new
