-- A worked sequence on a region of 384 words.
use Rattle.std.proofs.Common.{◌≡◌, [], ◌∷◌, refl, true, false}
use Rattle.std.specs.Prelude.{Some, None}
use Rattle.qc_tiles.specs.Tiles.{tile, free_tile, fresh, taken, after_take, after_trim, trimmed, after_give_back, after_pin, movable, after_move_down, totals_of, largest_free, handed_out}

first_taken : taken 10 (fresh 384) ≡ Some (record { first = 0; words = 64 })
first_taken = refl

after_first : after_take 10 (fresh 384) ≡ tile 0 64 false false ∷ free_tile 64 320 ∷ []
after_first = refl

-- a rest of 20 words is too small to stay
second_taken : taken 300 (tile 0 64 false false ∷ free_tile 64 320 ∷ []) ≡ Some (record { first = 64; words = 320 })
second_taken = refl

after_second : after_take 300 (tile 0 64 false false ∷ free_tile 64 320 ∷ []) ≡ tile 0 64 false false ∷ tile 64 320 false false ∷ []
after_second = refl

none_left : taken 64 (tile 0 64 false false ∷ tile 64 320 false false ∷ []) ≡ None
none_left = refl

none_free : largest_free (tile 0 64 false false ∷ tile 64 320 false false ∷ []) ≡ 0
none_free = refl

left_of_it : trimmed 100 (record { first = 64; words = 320 }) ≡ record { first = 64; words = 100 }
left_of_it = refl

after_cut : after_trim 64 100 (tile 0 64 false false ∷ tile 64 320 false false ∷ []) ≡ tile 0 64 false false ∷ tile 64 100 false false ∷ free_tile 164 220 ∷ []
after_cut = refl

given_back : after_give_back 0 (tile 0 64 false false ∷ tile 64 100 false false ∷ free_tile 164 220 ∷ []) ≡ free_tile 0 64 ∷ tile 64 100 false false ∷ free_tile 164 220 ∷ []
given_back = refl

counted : totals_of (free_tile 0 64 ∷ tile 64 100 false false ∷ free_tile 164 220 ∷ []) ≡ record { blocks = 3; free_blocks = 2; free_words = 284 }
counted = refl

move : movable (free_tile 0 64 ∷ tile 64 100 false false ∷ free_tile 164 220 ∷ []) ≡ Some (record { from = 64; to = 0; words = 100 })
move = refl

moved : after_move_down (free_tile 0 64 ∷ tile 64 100 false false ∷ free_tile 164 220 ∷ []) ≡ tile 0 100 false false ∷ free_tile 100 284 ∷ []
moved = refl

at_rest : movable (tile 0 100 false false ∷ free_tile 100 284 ∷ []) ≡ None
at_rest = refl

-- a block between two free ones makes one of the three
between : after_give_back 64 (free_tile 0 64 ∷ tile 64 100 false true ∷ free_tile 164 220 ∷ []) ≡ free_tile 0 384 ∷ []
between = refl

-- of equal free blocks the lowest, and of others the smallest
equal_ones : taken 64 (free_tile 0 200 ∷ tile 200 64 false false ∷ free_tile 264 100 ∷ tile 364 64 false false ∷ free_tile 428 100 ∷ []) ≡ Some (record { first = 264; words = 100 })
equal_ones = refl

-- a pinned block stays, with free blocks on both sides
pinned_stays : movable (after_pin true 64 (free_tile 0 64 ∷ tile 64 100 false false ∷ free_tile 164 220 ∷ [])) ≡ None
pinned_stays = refl

-- a rest of 63 words isn't cut off, one of 64 is
small_rest : after_trim 0 65 (tile 0 128 false false ∷ []) ≡ tile 0 128 false false ∷ []
small_rest = refl

large_rest : after_trim 0 1 (tile 0 128 false true ∷ []) ≡ tile 0 64 false true ∷ free_tile 64 64 ∷ []
large_rest = refl

nothing : fresh 0 ≡ []
nothing = refl

in_hand : handed_out (tile 0 64 false true ∷ free_tile 64 64 ∷ []) ≡ record { first = 0; words = 64 } ∷ []
in_hand = refl
