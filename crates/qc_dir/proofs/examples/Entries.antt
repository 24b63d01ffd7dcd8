-- Two entries on one table, worked out.
use Rattle.std.proofs.Common.{◌≡◌, ℕ, ◌*◌, [], ◌∷◌, List, refl, true, false, Bool, Some, None}
use Rattle.std.specs.Prelude.{codes}
use Rattle.std.specs.List.{list_any}
use Rattle.std.proofs.lemmas.List.Sorted.{IsPermutation-refl}
use Rattle.qc_types.specs.declared.names.TableName.{TableName}
use Rattle.qc_tiles.specs.declared.blocks.Block.{Block}
use Rattle.qc_dir.specs.declared.entries.Entry.{Entry}
use Rattle.qc_dir.specs.declared.tables.TableBlock.{TableBlock}
use Rattle.qc_dir.specs.Directory.{Directory, AddsEntry, RemovesEntry, entry_at, serials_under, block_of, names_table, oldest_idle, after_touch, after_complete, after_enter, after_leave, without, moved_entry, moved_table}

-- these entries and blocks, with room for so many more
abbrev pub directory : List Entry → List TableBlock → ℕ → ℕ → Directory
directory entries tables room table_room = record { entries = entries; tables = tables; room = room; table_room = table_room }

abbrev t : TableName
t = record { db = codes "db"; name = codes "t" }

abbrev u : TableName
u = record { db = codes "db"; name = codes "u" }

abbrev block : ℕ → Block
block first = record { first = first; words = 64 }

abbrev entry : ℕ → ℕ → Bool → ℕ → Entry
entry serial hash complete users = record {
  serial = serial;
  hash = hash;
  text = block (serial * 100);
  text_bytes = 30;
  tables = t ∷ [];
  chain = record { number = serial };
  complete = complete;
  users = users;
}

-- entries 1 and 2 are put in and completed in this order
started : after_complete 1 (entry 1 7 false 0 ∷ []) ≡ entry 1 7 true 0 ∷ []
started = refl

abbrev both : List Entry
both = entry 1 7 true 0 ∷ entry 2 7 true 0 ∷ []

completed : after_complete 2 (entry 1 7 true 0 ∷ entry 2 7 false 0 ∷ []) ≡ both
completed = refl

first_is_oldest : oldest_idle both ≡ Some 1
first_is_oldest = refl

touched : after_touch 1 both ≡ entry 2 7 true 0 ∷ entry 1 7 true 0 ∷ []
touched = refl

then_second : oldest_idle (after_touch 1 both) ≡ Some 2
then_second = refl

-- the second has a user
then_first : oldest_idle (after_enter 2 (after_touch 1 both)) ≡ Some 1
then_first = refl

-- both have one
then_none : oldest_idle (after_enter 1 (after_enter 2 (after_touch 1 both))) ≡ None
then_none = refl

entered_in_place : after_enter 2 (after_touch 1 both) ≡ entry 2 7 true 1 ∷ entry 1 7 true 0 ∷ []
entered_in_place = refl

left_again : after_leave 2 (after_enter 2 both) ≡ both
left_again = refl

incomplete_is_not_idle : oldest_idle (entry 1 7 false 0 ∷ []) ≡ None
incomplete_is_not_idle = refl

-- an entry that is completed goes to the end
completed_later : after_complete 1 (entry 1 7 false 0 ∷ entry 2 7 true 0 ∷ []) ≡ entry 2 7 true 0 ∷ entry 1 7 true 0 ∷ []
completed_later = refl

under_one_hash : serials_under 7 both ≡ 1 ∷ 2 ∷ []
under_one_hash = refl

under_another : serials_under 8 both ≡ []
under_another = refl

-- while one of them is left, the table is named, and its block stays
still_named : list_any (names_table t) (without 1 both) ≡ true
still_named = refl

unnamed_in_the_end : list_any (names_table t) (without 2 (without 1 both)) ≡ false
unnamed_in_the_end = refl

abbrev blocks : List TableBlock
blocks = record { table = t; block = block 0 } ∷ []

has_block : block_of t blocks ≡ Some (block 0)
has_block = refl

has_none : block_of u blocks ≡ None
has_none = refl

not_there : entry_at 3 both ≡ None
not_there = refl

-- the first entry comes with the table's block, and the second without
first_comes : AddsEntry (entry 1 7 false 0) blocks (directory [] [] 3 6) (directory (entry 1 7 false 0 ∷ []) blocks 2 5)
first_comes = record { entries = refl; tables = IsPermutation-refl blocks; room = refl; table_room = refl }

second_comes : AddsEntry (entry 2 7 false 0) [] (directory (entry 1 7 true 0 ∷ []) blocks 2 5) (directory (entry 1 7 true 0 ∷ entry 2 7 false 0 ∷ []) blocks 1 5)
second_comes = record { entries = refl; tables = IsPermutation-refl blocks; room = refl; table_room = refl }

-- the removal of the first frees nothing, and that of the last frees the table's block
first_leaves : RemovesEntry 1 [] (directory both blocks 1 5) (directory (entry 2 7 true 0 ∷ []) blocks 2 5)
first_leaves = record { entries = refl; tables = IsPermutation-refl blocks; kept = (refl, tt); unnamed = tt; room = refl; table_room = refl }

last_leaves : RemovesEntry 2 blocks (directory (entry 2 7 true 0 ∷ []) blocks 2 5) (directory [] [] 3 6)
last_leaves = record { entries = refl; tables = IsPermutation-refl blocks; kept = tt; unnamed = (refl, tt); room = refl; table_room = refl }

not_freed_yet : RemovesEntry 1 blocks (directory both blocks 1 5) (directory (entry 2 7 true 0 ∷ []) [] 2 6) → ⊥
not_freed_yet h = absurd (cc h.unnamed.0)

not_kept : RemovesEntry 2 [] (directory (entry 2 7 true 0 ∷ []) blocks 2 5) (directory [] blocks 3 5) → ⊥
not_kept h = absurd (cc h.kept.0)

-- a text block that moved from place 200 to 120, and a table's that moved from 0 to 8
text_moved : (moved_entry (record { from = 200; to = 120; words = 64 }) (entry 2 7 true 0)).text ≡ block 120
text_moved = refl

text_stays : moved_entry (record { from = 200; to = 120; words = 64 }) (entry 1 7 true 0) ≡ entry 1 7 true 0
text_stays = refl

table_moved : moved_table (record { from = 0; to = 8; words = 64 }) (record { table = t; block = block 0 }) ≡ record { table = t; block = block 8 }
table_moved = refl
