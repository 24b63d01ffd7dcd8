-- The words and the bytes of blocks, one block behind the other.
use Rattle.std.specs.Prelude.{ℕ, ◌+◌, ◌-◌, ◌/◌, ◌%◌, nat_lt, List, [], ◌∷◌, if◌then◌else◌}
use Rattle.qc_tiles.specs.declared.blocks.Block.{Block}
use Rattle.qc_chain.specs.declared.names.Spot.{Spot}

-- the words of the blocks together
abbrev pub words_of : List Block → ℕ
words_of [] = 0
words_of (b ∷ bs) = b.words + words_of bs

-- the region's word at an index, counted through the blocks in order
abbrev pub word_at : ℕ → List Block → ℕ
word_at i [] = 0
word_at i (b ∷ bs) = if nat_lt i b.words then b.first + i else word_at (i - b.words) bs

-- where a byte of the blocks stands
abbrev pub spot_at : ℕ → List Block → Spot
spot_at byte bs = record { word = word_at (byte / 8) bs; byte = byte % 8 }
