-- The directory: what holds of its entries and of the blocks of their tables, and what each call makes of them.
use Rattle.std.proofs.Common.{◌≡◌, ℕ, ◌+◌, Bool, List, [], ◌∷◌, refl, true, false, arith}
use Rattle.std.specs.Prelude.{codes, Some, None, ◌==◌}
use Rattle.std.proofs.lemmas.List.Sorted.{IsPermutation-refl}
use Rattle.qc_types.specs.declared.names.TableName.{TableName}
use Rattle.qc_tiles.specs.declared.blocks.Block.{Block}
use Rattle.qc_dir.specs.declared.entries.Entry.{Entry}
use Rattle.qc_dir.specs.declared.tables.TableBlock.{TableBlock}
use Rattle.qc_dir.specs.Directory.{entry_at, serials_under, block_of, names_table, is_idle, oldest_idle, AreApart, AddsEntry, without, after_touch, after_complete, changed, after_enter, after_leave, with_entries, RemovesEntry, after_shift, IsDirectory, AreFresh}
use Rattle.qc_dir.proofs.examples.Entries.{directory}
use Rattle.qc_dir.specs.Blocks.{places_of}

abbrev t : TableName
t = record { db = codes "d"; name = codes "t" }

abbrev u : TableName
u = record { db = codes "d"; name = codes "u" }

abbrev v : TableName
v = record { db = codes "e"; name = codes "t" }

abbrev block : ℕ → Block
block first = record { first = first; words = 64 }

abbrev entry : ℕ → ℕ → List TableName → Bool → ℕ → Entry
entry serial hash tables complete users = record { serial = serial; hash = hash; text = block (1000 + serial); text_bytes = 20; tables = tables; chain = record { number = serial }; complete = complete; users = users }

abbrev at : TableName → ℕ → TableBlock
at table first = record { table = table; block = block first }

-- 5 is complete and read by two, 2 is still filled, 9 is complete and idle
abbrev three : List Entry
three = entry 5 30 (t ∷ u ∷ []) true 2 ∷ entry 2 31 (u ∷ []) false 0 ∷ entry 9 30 (t ∷ []) true 0 ∷ []

abbrev blocks : List TableBlock
blocks = at u 64 ∷ at t 0 ∷ []

-- ---- looking up

second_is_there : entry_at 2 three ≡ Some (entry 2 31 (u ∷ []) false 0)
second_is_there = refl

one_is_not : entry_at 1 three ≡ None
one_is_not = refl

under_30 : serials_under 30 three ≡ 5 ∷ 9 ∷ []
under_30 = refl

-- entries that aren't complete have a hash as well
under_31 : serials_under 31 three ≡ 2 ∷ []
under_31 = refl

under_32 : serials_under 32 three ≡ []
under_32 = refl

block_of_second : block_of t blocks ≡ Some (block 0)
block_of_second = refl

-- a table of another database
block_of_another : block_of v blocks ≡ None
block_of_another = refl

names_second : names_table u (entry 5 30 (t ∷ u ∷ []) true 2) ≡ true
names_second = refl

names_not : names_table v (entry 5 30 (t ∷ u ∷ []) true 2) ≡ false
names_not = refl

names_none : names_table t (entry 5 30 [] true 2) ≡ false
names_none = refl

-- ---- the order of use

read_is_not_idle : is_idle (entry 5 30 [] true 2) ≡ false
read_is_not_idle = refl

filled_is_not_idle : is_idle (entry 5 30 [] false 0) ≡ false
filled_is_not_idle = refl

complete_is_idle : is_idle (entry 5 30 [] true 0) ≡ true
complete_is_idle = refl

-- the first that is both complete and without users
third_is_idle : oldest_idle three ≡ Some 9
third_is_idle = refl

none_is_idle : oldest_idle (without 9 three) ≡ None
none_is_idle = refl

touched : after_touch 5 three ≡ entry 2 31 (u ∷ []) false 0 ∷ entry 9 30 (t ∷ []) true 0 ∷ entry 5 30 (t ∷ u ∷ []) true 2 ∷ []
touched = refl

last_touched : after_touch 9 three ≡ three
last_touched = refl

completed : after_complete 2 three ≡ entry 5 30 (t ∷ u ∷ []) true 2 ∷ entry 9 30 (t ∷ []) true 0 ∷ entry 2 31 (u ∷ []) true 0 ∷ []
completed = refl

-- one that isn't there changes nothing
another_completed : after_complete 1 three ≡ three
another_completed = refl

entered : after_enter 9 three ≡ entry 5 30 (t ∷ u ∷ []) true 2 ∷ entry 2 31 (u ∷ []) false 0 ∷ entry 9 30 (t ∷ []) true 1 ∷ []
entered = refl

-- a user fewer, and no other place
left : after_leave 5 three ≡ entry 5 30 (t ∷ u ∷ []) true 1 ∷ entry 2 31 (u ∷ []) false 0 ∷ entry 9 30 (t ∷ []) true 0 ∷ []
left = refl

changed_in_place : changed 2 (λ e. record e { hash = 7 }) three ≡ entry 5 30 (t ∷ u ∷ []) true 2 ∷ entry 2 7 (u ∷ []) false 0 ∷ entry 9 30 (t ∷ []) true 0 ∷ []
changed_in_place = refl

without_first : without 5 three ≡ entry 2 31 (u ∷ []) false 0 ∷ entry 9 30 (t ∷ []) true 0 ∷ []
without_first = refl

without_another : without 1 three ≡ three
without_another = refl

-- ---- what stays true

serials_apart : AreApart (λ (e f : Entry). e.serial == f.serial) three
serials_apart = (refl, (refl, (refl, tt)))

serial_twice : AreApart (λ (e f : Entry). e.serial == f.serial) (entry 5 30 [] true 0 ∷ entry 2 31 [] true 0 ∷ entry 5 32 [] false 0 ∷ []) → ⊥
serial_twice h = absurd (cc h.0)

none_apart : AreApart (λ (e f : Entry). e.serial == f.serial) []
none_apart = tt

-- ---- entries that come and leave

abbrev new : Entry
new = entry 10 33 (v ∷ t ∷ []) false 0

abbrev with_new : List Entry
with_new = entry 5 30 (t ∷ u ∷ []) true 2 ∷ entry 2 31 (u ∷ []) false 0 ∷ entry 9 30 (t ∷ []) true 0 ∷ new ∷ []

-- it stands at the end, and v alone of its tables has no block yet
comes : AddsEntry new (at v 128 ∷ []) (directory three blocks 4 9) (directory with_new (at v 128 ∷ blocks) 3 8)
comes = record { entries = refl; tables = IsPermutation-refl (at v 128 ∷ blocks); room = refl; table_room = refl }

-- room for an entry is used up
comes_for_nothing : AddsEntry new (at v 128 ∷ []) (directory three blocks 4 9) (directory with_new (at v 128 ∷ blocks) 4 8) → ⊥
comes_for_nothing h = absurd (omega (arith, h.room))

-- without the second, u is still named by the first
second_leaves : RemovesEntry 2 [] (directory three blocks 4 9) (directory (without 2 three) blocks 5 9)
second_leaves = record { entries = refl; tables = IsPermutation-refl blocks; kept = (refl, (refl, tt)); unnamed = tt; room = refl; table_room = refl }

-- without the first and the second, u is named by none, and its block is given back
both_leave : RemovesEntry 5 (at u 64 ∷ []) (directory (without 2 three) blocks 5 9) (directory (entry 9 30 (t ∷ []) true 0 ∷ []) (at t 0 ∷ []) 6 10)
both_leave = record { entries = refl; tables = IsPermutation-refl blocks; kept = (refl, tt); unnamed = (refl, tt); room = refl; table_room = refl }

-- t is still named by the third
not_that_one : RemovesEntry 5 (at t 0 ∷ []) (directory (without 2 three) blocks 5 9) (directory (entry 9 30 (t ∷ []) true 0 ∷ []) (at u 64 ∷ []) 6 10) → ⊥
not_that_one h = absurd (cc h.unnamed.0)

with_others : with_entries [] (directory three blocks 4 9) ≡ directory [] blocks 4 9
with_others = refl

-- ---- blocks that move

-- the text block of the second
text_moves : after_shift (record { from = 1002; to = 500; words = 64 }) (directory three blocks 4 9)
    ≡ directory (entry 5 30 (t ∷ u ∷ []) true 2 ∷ record { serial = 2; hash = 31; text = block 500; text_bytes = 20; tables = u ∷ []; chain = record { number = 2 }; complete = false; users = 0 } ∷ entry 9 30 (t ∷ []) true 0 ∷ []) blocks 4 9
text_moves = refl

-- the block of u
table_moves : after_shift (record { from = 64; to = 7; words = 64 }) (directory three blocks 4 9) ≡ directory three (at u 7 ∷ at t 0 ∷ []) 4 9
table_moves = refl

-- a block of neither kind
nothing_moves : after_shift (record { from = 2000; to = 7; words = 64 }) (directory three blocks 4 9) ≡ directory three blocks 4 9
nothing_moves = refl

-- ---- up to eight tables with their blocks

two_places : places_of blocks ≡ Some (at u 64) ∷ Some (at t 0) ∷ None ∷ None ∷ None ∷ None ∷ None ∷ None ∷ []
two_places = refl

free_places : places_of [] ≡ None ∷ None ∷ None ∷ None ∷ None ∷ None ∷ None ∷ None ∷ []
free_places = refl

all_places : places_of (at t 0 ∷ at t 1 ∷ at t 2 ∷ at t 3 ∷ at t 4 ∷ at t 5 ∷ at t 6 ∷ at t 7 ∷ [])
    ≡ Some (at t 0) ∷ Some (at t 1) ∷ Some (at t 2) ∷ Some (at t 3) ∷ Some (at t 4) ∷ Some (at t 5) ∷ Some (at t 6) ∷ Some (at t 7) ∷ []
all_places = refl

-- ---- directories, and tables that have no block yet

nothing_is_there : IsDirectory (directory [] [] 4 9)
nothing_is_there = record { serials = tt; once = tt; few = tt; named = λ x. refl }

-- a block of a table that no entry names
unnamed_block : IsDirectory (directory [] (at t 0 ∷ []) 4 9) → ⊥
unnamed_block h = absurd (cc (h.named t))

-- an entry names u, which has no block
no_block : IsDirectory (directory (entry 2 31 (u ∷ []) false 0 ∷ []) [] 4 9) → ⊥
no_block h = absurd (cc (h.named u))

two_blocks : IsDirectory (directory three (at t 0 ∷ at u 64 ∷ at t 128 ∷ []) 4 9) → ⊥
two_blocks h = absurd (cc h.once.0)

-- an entry without tables has none
no_tables : AreFresh (entry 5 30 [] true 0) blocks []
no_tables = record { once = tt; exactly = λ x. refl }

-- v has no block yet, and isn't among them
one_lacks : AreFresh new blocks [] → ⊥
one_lacks h = absurd (cc (h.exactly v))

-- t has a block already
one_too_many : AreFresh new blocks (at v 128 ∷ at t 192 ∷ []) → ⊥
one_too_many h = absurd (cc (h.exactly t))
