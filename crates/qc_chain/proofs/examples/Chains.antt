-- Chains of blocks: their words and bytes, and what each call makes of them.
use Rattle.std.proofs.Common.{◌≡◌, ℕ, zero, suc, ap, List, [], ◌∷◌, refl, true, false, arith}
use Rattle.std.specs.Prelude.{Some, None, Contains}
use Rattle.qc_tiles.specs.declared.blocks.Block.{Block}
use Rattle.qc_tiles.specs.declared.blocks.Tile.{Tile}
use Rattle.qc_tiles.specs.Tiles.{tile, free_tile, moved}
use Rattle.qc_chain.specs.Words.{words_of, word_at, spot_at}
use Rattle.qc_chain.specs.Chains.{Chain, Chained, no_chains, chain_at, Begun, IsFit, with_chain, extent_of, empty_chain, whole_chain, after_append, moved_chain, after_shift, after_release, but_last, last_block, words_for, EndsInLast, used_words, cut_blocks, cut_chain, after_cut, AreOnce, AreHandedOut}

abbrev block : ℕ → ℕ → Block
block first words = record { first = first; words = words }

-- two blocks, of which the second stands lower in the region
abbrev two : List Block
two = block 300 70 ∷ block 64 100 ∷ []

abbrev chain : List Block → ℕ → Chain
chain blocks bytes = record { blocks = blocks; bytes = bytes }

-- ---- words and bytes

words_are : words_of two ≡ 170
words_are = refl

no_words : words_of [] ≡ 0
no_words = refl

last_of_first : word_at 69 two ≡ 369
last_of_first = refl

first_of_second : word_at 70 two ≡ 64
first_of_second = refl

last_word : word_at 169 two ≡ 163
last_word = refl

-- 565 is 70 * 8 + 5
spot_is : spot_at 565 two ≡ record { word = 64; byte = 5 }
spot_is = refl

last_byte_of_first : spot_at 559 two ≡ record { word = 369; byte = 7 }
last_byte_of_first = refl

first_byte : spot_at 0 two ≡ record { word = 300; byte = 0 }
first_byte = refl

-- ---- names

-- as many names as blocks, all free
three_names : no_chains 3 ≡ record { chains = None ∷ None ∷ None ∷ []; room = 3 }
three_names = refl

abbrev some : Chained
some = record { chains = Some (chain two 900) ∷ None ∷ Some empty_chain ∷ []; room = 1 }

first_chain : Begun 0 some (chain two 900)
first_chain = refl

free_name : chain_at 1 some ≡ None
free_name = refl

behind_the_names : chain_at 3 some ≡ None
behind_the_names = refl

-- an empty chain is begun as well
empty_is_begun : Begun 2 some (chain [] 0)
empty_is_begun = refl

extent_is : extent_of (chain two 900) ≡ record { blocks = 2; words = 170; bytes = 900 }
extent_is = refl

extent_of_empty : extent_of empty_chain ≡ record { blocks = 0; words = 0; bytes = 0 }
extent_of_empty = refl

begins : with_chain 1 (Some empty_chain) some ≡ record { chains = Some (chain two 900) ∷ Some empty_chain ∷ Some empty_chain ∷ []; room = 1 }
begins = refl

-- 8 * 170 bytes
all_bytes : whole_chain two ≡ chain two 1360
all_bytes = refl

fit : IsFit two 1360
fit = record { most = omega arith; within = omega arith }

too_many_bytes : IsFit two 1361 → ⊥
too_many_bytes h = absurd (omega (arith, h.within))

-- 8,388,608 words are the most
most_words : IsFit (block 0 8388608 ∷ []) 0
most_words = record { most = omega arith; within = omega arith }

too_many_words : IsFit (block 0 8388608 ∷ block 8388608 64 ∷ []) 0 → ⊥
too_many_words h = absurd (omega (arith, h.most))

-- ---- appending and moving

-- the bytes are those of all words then, whatever they were
appended : after_append 0 (block 500 64) (chain two 900) some ≡ record { chains = Some (chain (block 300 70 ∷ block 64 100 ∷ block 500 64 ∷ []) 1872) ∷ None ∷ Some empty_chain ∷ []; room = 0 }
appended = refl

appended_first : after_append 2 (block 500 64) empty_chain some ≡ record { chains = Some (chain two 900) ∷ None ∷ Some (chain (block 500 64 ∷ []) 512) ∷ []; room = 0 }
appended_first = refl

moved_there : moved (record { from = 300; to = 164; words = 70 }) (block 300 70) ≡ block 164 70
moved_there = refl

-- a block that begins elsewhere stays, though the move's words lie in it
stays : moved (record { from = 300; to = 164; words = 70 }) (block 290 80) ≡ block 290 80
stays = refl

moved_in_chain : moved_chain (record { from = 64; to = 0; words = 100 }) (chain two 900) ≡ chain (block 300 70 ∷ block 0 100 ∷ []) 900
moved_in_chain = refl

shifted : after_shift (record { from = 300; to = 164; words = 70 }) some ≡ record { chains = Some (chain (block 164 70 ∷ block 64 100 ∷ []) 900) ∷ None ∷ Some empty_chain ∷ []; room = 1 }
shifted = refl

-- ---- with the tiles

abbrev tiles : List Tile
tiles = free_tile 0 64 ∷ tile 64 100 false true ∷ free_tile 164 136 ∷ tile 300 70 false true ∷ []

released : after_release two tiles ≡ free_tile 0 370 ∷ []
released = refl

one_released : after_release (block 300 70 ∷ []) tiles ≡ free_tile 0 64 ∷ tile 64 100 false true ∷ free_tile 164 206 ∷ []
one_released = refl

none_released : after_release [] tiles ≡ tiles
none_released = refl

front : but_last two ≡ block 300 70 ∷ []
front = refl

no_front : but_last (block 64 100 ∷ []) ≡ []
no_front = refl

last_is : last_block two ≡ Some (block 64 100)
last_is = refl

no_last : last_block [] ≡ None
no_last = refl

one_word : words_for 8 ≡ 1
one_word = refl

next_word : words_for 9 ≡ 2
next_word = refl

no_word : words_for 0 ≡ 0
no_word = refl

-- 561 bytes reach into the second block by one byte
ends_in_last : EndsInLast two 561
ends_in_last = record { some = omega arith; more = omega arith; within = omega arith }

ends_in_first : EndsInLast two 560 → ⊥
ends_in_first h = absurd (omega (arith, h.more))

ends_behind : EndsInLast two 1361 → ⊥
ends_behind h = absurd (omega (arith, h.within))

without_blocks : EndsInLast [] 0 → ⊥
without_blocks h = absurd (omega (arith, h.some))

-- 561 bytes are 71 words, of which 70 stand in the first block
one_used : used_words two 561 ≡ 1
one_used = refl

all_used : used_words two 1360 ≡ 100
all_used = refl

-- the last block alone is cut: of 170 words 100 are used, and a rest of 70 words may go
cut_last : cut_blocks 100 (block 300 70 ∷ block 64 170 ∷ []) ≡ block 300 70 ∷ block 64 100 ∷ []
cut_last = refl

-- of 100 words 36 would be left, which is too small a block
not_cut : cut_chain 561 (chain two 1360) ≡ chain two 561
not_cut = refl

cut_to_least : cut_chain 5 (chain (block 0 128 ∷ []) 1024) ≡ chain (block 0 64 ∷ []) 5
cut_to_least = refl

none_cut : cut_blocks 64 [] ≡ []
none_cut = refl

tiles_after : after_cut 64 (block 192 64 ∷ block 0 128 ∷ []) (tile 0 128 false true ∷ free_tile 128 64 ∷ tile 192 64 false true ∷ [])
    ≡ tile 0 64 false true ∷ free_tile 64 128 ∷ tile 192 64 false true ∷ []
tiles_after = refl

tiles_stay : after_cut 65 (block 0 128 ∷ []) (tile 0 128 false true ∷ []) ≡ tile 0 128 false true ∷ []
tiles_stay = refl

-- ---- blocks that are handed out

both_handed_out : AreHandedOut tiles two
both_handed_out = record { each = ((1, omega arith, refl), ((0, omega arith, refl), tt)); once = (other, ((λ c. absurd (omega (arith, c.1))), tt)) }
  where
    other : Contains (block 64 100 ∷ []) (block 300 70) → ⊥
    other (zero, h, e) = absurd (omega (arith, ap (λ (b : Block). b.first) e))
    other (suc k, h, e) = absurd (omega (arith, h))

none_handed_out : AreHandedOut tiles []
none_handed_out = record { each = tt; once = tt }

-- a block that stands twice
twice : AreOnce (block 64 100 ∷ block 300 70 ∷ block 64 100 ∷ []) → ⊥
twice h = h.0 (1, omega arith, refl)

-- ---- further chains

no_blocks_no_names : no_chains 0 ≡ record { chains = []; room = 0 }
no_blocks_no_names = refl

released_name : with_chain 0 None some ≡ record { chains = None ∷ None ∷ Some empty_chain ∷ []; room = 1 }
released_name = refl

third_chain : chain_at 2 some ≡ Some empty_chain
third_chain = refl

one_block : words_of (block 300 70 ∷ []) ≡ 70
one_block = refl

no_bytes : whole_chain [] ≡ empty_chain
no_bytes = refl

none_moved : moved_chain (record { from = 7; to = 0; words = 64 }) (chain two 900) ≡ chain two 900
none_moved = refl

-- the whole of the last block is used, so none is cut off
cut_to_all : cut_chain 1360 (chain two 1360) ≡ chain two 1360
cut_to_all = refl

two_blocks_used : used_words (block 0 64 ∷ []) 9 ≡ 2
two_blocks_used = refl
