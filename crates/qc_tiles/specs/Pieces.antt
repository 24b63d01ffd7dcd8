-- Blocks by size, in pieces one behind the other.
use Rattle.std.specs.Prelude.{◌≡◌, ℕ, ◌+◌, ◌*◌, ◌<◌, ◌≤◌, Bool, true, false, List, [], ◌∷◌, ◌++◌, length, Option, Some, None, vec_len, vec_capacity}
use Rattle.std.specs.List.{AllByRecursion}
use Rattle.std.specs.declared.vec.Vec.{Vec}
use Rattle.qc_tiles.specs.declared.blocks.Block.{Block}
use Rattle.qc_tiles.specs.Sizes.{is_smaller, last_of, IsBySize, block_words}

-- the blocks of all pieces
abbrev pub gathered : List (List Block) → List Block
gathered [] = []
gathered (p ∷ ps) = p ++ gathered ps

-- there is no block, or a smaller one
abbrev pub none_or_smaller : Block → Option Block → Bool
none_or_smaller b None = true
none_or_smaller b (Some c) = is_smaller b.first b.words c

-- the last block of a piece is smaller, or there is none
abbrev pub is_below : Block → List Block → Bool
is_below b p = none_or_smaller b (last_of p)

-- each piece has fewer than 256 blocks, and 128 or more, but the first so many or more
abbrev pub Filled : ℕ → List (List Block) → Type 0
Filled least [] = Unit {0}
Filled least (p ∷ ps) = (least ≤ length p) × (length p < 256) × Filled 128 ps

-- smaller blocks end, and others begin, in the piece at an index, or at its end where it is the last
pub record IsLocated (block : Block) (pieces : List (List Block)) (at : ℕ) : Type 0 where
  pub before : List (List Block)
  pub low : List Block
  pub high : List Block
  pub after : List (List Block)
  pub is : pieces ≡ before ++ (low ++ high) ∷ after
  pub index : length before ≡ at
  pub smaller : AllByRecursion (λ b. is_smaller block.first block.words b ≡ true) (gathered before ++ low)
  pub larger : AllByRecursion (λ b. is_smaller block.first block.words b ≡ false) (high ++ gathered after)
  pub last : high ≡ [] → after ≡ []

-- but for the piece at an index, which has other blocks now, each has as many as it should
pub record IsEdited (at : ℕ) (pieces : List (List Block)) : Type 0 where
  pub before : List (List Block)
  pub was : List Block
  pub now : List Block
  pub after : List (List Block)
  pub is : pieces ≡ before ++ now ∷ after
  pub index : length before ≡ at
  pub filled : Filled 0 (before ++ was ∷ after)

-- the blocks in pieces, others to spare, the room for more, the count of the blocks and their words
pub record IsIndex {A : Type 0} (pieces spare : Vec (List Block) A) (room count words : ℕ) : Type 0 where
  pub some : 0 < vec_len pieces
  pub filled : Filled 0 pieces.items
  pub sorted : IsBySize (gathered pieces.items)
  pub fits : length (gathered pieces.items) + room < 128 * (vec_len pieces + vec_len spare)
  pub places : vec_len pieces + vec_len spare ≤ vec_capacity pieces
  pub spare_places : vec_len pieces + vec_len spare ≤ vec_capacity spare
  pub counted : count ≡ length (gathered pieces.items)
  pub summed : words ≡ block_words (gathered pieces.items)
  pub few : length (gathered pieces.items) + room ≤ 131072
