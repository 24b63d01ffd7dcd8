-- The region's tiling: which lists of blocks are one, and what a need gets.
use Rattle.qc_tiles.specs.Crowded.{IsBelow}
use Rattle.std.proofs.Common.{◌≡◌, List, [], ◌∷◌, refl, true, false, arith}
use Rattle.std.specs.Prelude.{Some, None}
use Rattle.qc_tiles.specs.declared.blocks.Tile.{Tile}
use Rattle.qc_types.specs.Blocks.{raised}
use Rattle.qc_tiles.specs.Tiles.{tile, free_tile, IsTiling, region_words, fresh, handed_out, cut_words, cut, taken, after_take, largest_free, trimmed, after_trim, after_give_back, after_pin, movable, after_move_down, totals_of}

abbrev three : List Tile
three = tile 0 64 false true ∷ free_tile 64 128 ∷ tile 192 70 false false ∷ []

-- ---- tilings

three_are_one : IsTiling 262 three
three_are_one = record { covers = (refl, (refl, (refl, refl))); large = (omega arith, (omega arith, (omega arith, tt))); apart = (λ h. absurd (cc h), (λ h. refl, tt)); unpinned = (λ h. absurd (cc h), (λ h. refl, (λ h. absurd (cc h), tt))) }

no_blocks : IsTiling 0 []
no_blocks = record { covers = refl; large = tt; apart = tt; unpinned = tt }

-- a word is left out between the two
gap : IsTiling 129 (tile 0 64 false false ∷ tile 65 64 false false ∷ []) → ⊥
gap h = absurd (omega (arith, h.covers.1.0))

-- the last blocks end too early
short : IsTiling 256 (tile 0 64 false false ∷ free_tile 64 64 ∷ []) → ⊥
short h = absurd (omega (arith, h.covers.1.1))

small : IsTiling 127 (tile 0 63 false false ∷ free_tile 63 64 ∷ []) → ⊥
small h = absurd (omega (arith, h.large.0))

two_free : IsTiling 128 (free_tile 0 64 ∷ free_tile 64 64 ∷ []) → ⊥
two_free h = absurd (cc (h.apart.0 refl))

-- a free block isn't pinned
free_and_pinned : IsTiling 64 (tile 0 64 true true ∷ []) → ⊥
free_and_pinned h = absurd (cc (h.unpinned.0 refl))

words_are : region_words three ≡ 262
words_are = refl

handed_out_are : handed_out three ≡ record { first = 0; words = 64 } ∷ record { first = 192; words = 70 } ∷ []
handed_out_are = refl

-- ---- needs

small_need : raised 1 ≡ 64
small_need = refl

least_need : raised 64 ≡ 64
least_need = refl

large_need : raised 65 ≡ 65
large_need = refl

-- 128 words hold 64 and 64; with 65 wanted the rest would have 63
rest_of_64 : cut_words 64 128 ≡ 64
rest_of_64 = refl

rest_of_63 : cut_words 65 128 ≡ 128
rest_of_63 = refl

no_rest : cut_words 128 128 ≡ 128
no_rest = refl

-- a pinned block stays pinned where it is cut
cut_in_two : cut 64 true (tile 64 128 false true) ≡ tile 64 64 false true ∷ free_tile 128 64 ∷ []
cut_in_two = refl

whole_block : cut 65 false (tile 64 128 false true) ≡ tile 64 128 false false ∷ []
whole_block = refl

-- the front of the one free block
front_taken : taken 3 three ≡ Some (record { first = 64; words = 64 })
front_taken = refl

after_front : after_take 3 three ≡ tile 0 64 false true ∷ tile 64 64 false false ∷ free_tile 128 64 ∷ tile 192 70 false false ∷ []
after_front = refl

-- the whole of it, since less than a block would be left
whole_taken : after_take 100 three ≡ tile 0 64 false true ∷ tile 64 128 false false ∷ tile 192 70 false false ∷ []
whole_taken = refl

too_much : taken 129 three ≡ None
too_much = refl

-- then nothing changes
after_too_much : after_take 129 three ≡ three
after_too_much = refl

-- the smallest that holds the need, though a larger one stands in front
smallest : taken 65 (free_tile 0 300 ∷ tile 300 64 false false ∷ free_tile 364 66 ∷ []) ≡ Some (record { first = 364; words = 66 })
smallest = refl

largest : largest_free three ≡ 128
largest = refl

largest_of_none : largest_free [] ≡ 0
largest_of_none = refl

-- ---- cutting, giving back and pinning

-- of no words that are used a smallest block stays
trimmed_to_least : trimmed 1 (record { first = 192; words = 128 }) ≡ record { first = 192; words = 64 }
trimmed_to_least = refl

not_trimmed : trimmed 65 (record { first = 192; words = 128 }) ≡ record { first = 192; words = 128 }
not_trimmed = refl

-- what is cut off is joined with the free block behind
joined_behind : after_trim 0 80 (tile 0 160 false true ∷ free_tile 160 64 ∷ []) ≡ tile 0 80 false true ∷ free_tile 80 144 ∷ []
joined_behind = refl

-- a block at the end is joined with the free one in front of it
joined_in_front : after_give_back 192 three ≡ tile 0 64 false true ∷ free_tile 64 198 ∷ []
joined_in_front = refl

-- what is given back isn't pinned any more
given_back_pinned : after_give_back 0 three ≡ free_tile 0 192 ∷ tile 192 70 false false ∷ []
given_back_pinned = refl

pinned : after_pin true 192 three ≡ tile 0 64 false true ∷ free_tile 64 128 ∷ tile 192 70 false true ∷ []
pinned = refl

unpinned : after_pin false 0 three ≡ tile 0 64 false false ∷ free_tile 64 128 ∷ tile 192 70 false false ∷ []
unpinned = refl

-- ---- moving down

next_move : movable three ≡ Some (record { from = 192; to = 64; words = 70 })
next_move = refl

-- it stands where the free block began, and that is behind it
moved_down : after_move_down three ≡ tile 0 64 false true ∷ tile 64 70 false false ∷ free_tile 134 128 ∷ []
moved_down = refl

-- the free words below and above it become one block
joined_above : after_move_down (free_tile 0 64 ∷ tile 64 64 false false ∷ free_tile 128 100 ∷ tile 228 64 false true ∷ []) ≡ tile 0 64 false false ∷ free_tile 64 164 ∷ tile 228 64 false true ∷ []
joined_above = refl

-- of two that may move the lower one
lower_first : movable (free_tile 0 64 ∷ tile 64 64 false false ∷ free_tile 128 64 ∷ tile 192 64 false false ∷ []) ≡ Some (record { from = 64; to = 0; words = 64 })
lower_first = refl

none_moves : movable (tile 0 64 false false ∷ tile 64 64 false false ∷ free_tile 128 64 ∷ []) ≡ None
none_moves = refl

totals_are : totals_of three ≡ record { blocks = 3; free_blocks = 1; free_words = 128 }
totals_are = refl

totals_of_none : totals_of (fresh 0) ≡ record { blocks = 0; free_blocks = 0; free_words = 0 }
totals_of_none = refl

-- ---- blocks that are small against a bound

used_at_the_bound : IsBelow 100 (tile 0 100 false false)
used_at_the_bound = record { used = λ h. omega arith; free = λ h. absurd (cc h) }

-- a free block is smaller
free_at_the_bound : IsBelow 100 (free_tile 0 100) → ⊥
free_at_the_bound h = absurd (omega (arith, h.free refl))

free_below_it : IsBelow 100 (free_tile 0 99)
free_below_it = record { used = λ h. absurd (cc h); free = λ h. omega arith }
