-- The words of a list of blocks, by their places in the region.
use Rattle.std.specs.Prelude.{◌≡◌, ℕ, zero, suc, List, [], ◌∷◌, ◌++◌, map, slice_index}
use Rattle.qc_tiles.specs.declared.blocks.Block.{Block}

-- first, first + 1 and so on, this many numbers
abbrev pub counted : ℕ → ℕ → List ℕ
counted first zero = []
counted first (suc n) = first ∷ counted (suc first) n

-- the places of the blocks' words, in order
abbrev pub places : List Block → List ℕ
places [] = []
places (b ∷ bs) = counted b.first b.words ++ places bs

-- what the blocks spell over these words
abbrev pub spelled : List ℕ → List Block → List ℕ
spelled words blocks = map (λ i. slice_index words i) (places blocks)

-- k is none of these
abbrev pub Misses : ℕ → List ℕ → Type 0
Misses k [] = Unit {0}
Misses k (x ∷ xs) = (k ≡ x → ⊥) × Misses k xs

-- each number stands once
abbrev pub IsDistinct : List ℕ → Type 0
IsDistinct [] = Unit {0}
IsDistinct (x ∷ xs) = Misses x xs × IsDistinct xs
