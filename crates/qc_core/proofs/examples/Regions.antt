-- What is taken, pruned and moved in regions of a few blocks.
use Rattle.std.proofs.Common.{◌≡◌, ℕ, List, [], ◌∷◌, refl, true, false, arith}
use Rattle.std.specs.Prelude.{codes, Some, None}
use Rattle.qc_types.specs.declared.names.TableName.{TableName}
use Rattle.qc_types.specs.declared.options.Options.{Options}
use Rattle.qc_tiles.specs.declared.blocks.Tile.{Tile}
use Rattle.qc_tiles.specs.Tiles.{tile, free_tile, fresh, taken, after_take, after_give_back, largest_free, movable, after_move_down, totals_of}
use Rattle.qc_core.specs.Compaction.{OneFreeBetween}
use Rattle.qc_core.specs.EntryStart.{needs_of}

abbrev t : TableName
t = record { db = codes "d"; name = codes "t" }

abbrev options : ℕ → Options
options size = record { size = size; limit = 1048576; unit = 512; kind = 1 }

abbrev used : ℕ → Tile
used first = tile first 64 false false

-- ---- the table and the result fill a region of 128 words, and the text finds none

needs_first : needs_of (options 1024) [] (t ∷ []) (codes "SELECT id FROM t") ≡ 64 ∷ 64 ∷ 64 ∷ []
needs_first = refl

two_blocks : after_take 64 (after_take 64 (fresh 128)) ≡ used 0 ∷ used 64 ∷ []
two_blocks = refl

no_text : taken 64 (used 0 ∷ used 64 ∷ []) ≡ None
no_text = refl

no_room_left : largest_free (used 0 ∷ used 64 ∷ []) ≡ 0
no_room_left = refl

all_given_back : after_give_back 0 (after_give_back 64 (used 0 ∷ used 64 ∷ [])) ≡ free_tile 0 128 ∷ []
all_given_back = refl

-- ---- the table, then result and text of two SELECTs, and the result of a third one

needs_next : needs_of (options 3072) (record { table = t; block = record { first = 0; words = 64 } } ∷ []) (t ∷ []) (codes "SELECT id FROM t WHERE id = 3") ≡ 64 ∷ 64 ∷ []
needs_next = refl

abbrev full : List Tile
full = used 0 ∷ used 64 ∷ used 128 ∷ used 192 ∷ used 256 ∷ used 320 ∷ []

six_blocks : after_take 64 (after_take 64 (after_take 64 (after_take 64 (after_take 64 (after_take 64 (fresh 384)))))) ≡ full
six_blocks = refl

no_room_for_text : largest_free full ≡ 0
no_room_for_text = refl

-- entry 1 is pruned for the text of the third: its result and its text go
first_entry_pruned : after_give_back 128 (after_give_back 64 full) ≡ used 0 ∷ free_tile 64 128 ∷ used 192 ∷ used 256 ∷ used 320 ∷ []
first_entry_pruned = refl

text_taken : after_take 64 (used 0 ∷ free_tile 64 128 ∷ used 192 ∷ used 256 ∷ used 320 ∷ []) ≡ used 0 ∷ used 64 ∷ free_tile 128 64 ∷ used 192 ∷ used 256 ∷ used 320 ∷ []
text_taken = refl

totals_after : totals_of (used 0 ∷ used 64 ∷ free_tile 128 64 ∷ used 192 ∷ used 256 ∷ used 320 ∷ []) ≡ record { blocks = 6; free_blocks = 1; free_words = 64 }
totals_after = refl

-- ---- a block in the middle is streamed

abbrev streamed : List Tile
streamed = used 0 ∷ free_tile 64 64 ∷ used 128 ∷ tile 192 64 false true ∷ free_tile 256 64 ∷ used 320 ∷ []

first_move : movable streamed ≡ Some (record { from = 128; to = 64; words = 64 })
first_move = refl

second_move : movable (after_move_down streamed) ≡ Some (record { from = 320; to = 256; words = 64 })
second_move = refl

abbrev compacted : List Tile
compacted = used 0 ∷ used 64 ∷ free_tile 128 64 ∷ tile 192 64 false true ∷ used 256 ∷ free_tile 320 64 ∷ []

both_moved : after_move_down (after_move_down streamed) ≡ compacted
both_moved = refl

no_more : movable compacted ≡ None
no_more = refl

few : OneFreeBetween 0 compacted
few = (omega arith, (omega arith, (omega arith, (omega arith, (omega arith, (omega arith, omega arith))))))
