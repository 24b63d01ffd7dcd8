-- The entries of the cache and the blocks of their tables, and what each call makes of them.
use Rattle.std.specs.Prelude.{◌≡◌, ℕ, ◌+◌, ◌-◌, ◌≤◌, Bool, true, false, not, ◌&&◌, List, [], ◌∷◌, ◌++◌, map, length, Option, Some, None, option_map, ◌==◌, if◌then◌else◌, IsPermutation}
use Rattle.std.specs.List.{filter, find, list_any, AllByRecursion}
use Rattle.qc_types.specs.declared.names.TableName.{TableName}
use Rattle.qc_sql.specs.Database.{same_table}
use Rattle.qc_tiles.specs.declared.blocks.Block.{Block}
use Rattle.qc_tiles.specs.declared.blocks.Move.{Move}
use Rattle.qc_tiles.specs.Tiles.{moved}
use Rattle.qc_dir.specs.declared.entries.Entry.{Entry}
use Rattle.qc_dir.specs.declared.tables.TableBlock.{TableBlock}

-- what contracts see: the entries from the least to the most recently used, the tables that have a block, and the room for more of both
pub record Directory : Type 0 where
  pub entries : List Entry
  pub tables : List TableBlock
  pub room : ℕ
  pub table_room : ℕ

-- ---- looking up

abbrev pub has_serial : ℕ → Entry → Bool
has_serial n e = e.serial == n

-- the entry with a serial
abbrev pub entry_at : ℕ → List Entry → Option Entry
entry_at n entries = find (has_serial n) entries

abbrev pub has_hash : ℕ → Entry → Bool
has_hash h e = e.hash == h

-- the serials of the entries under a hash
abbrev pub serials_under : ℕ → List Entry → List ℕ
serials_under h entries = map (λ e. e.serial) (filter (has_hash h) entries)

abbrev pub is_block_of : TableName → TableBlock → Bool
is_block_of t b = same_table t b.table

-- the block of a table
abbrev pub block_of : TableName → List TableBlock → Option Block
block_of t tables = option_map (λ b. b.block) (find (is_block_of t) tables)

abbrev pub names_table : TableName → Entry → Bool
names_table t e = list_any (same_table t) e.tables

-- complete and without users
abbrev pub is_idle : Entry → Bool
is_idle e = e.complete && e.users == 0

-- the least recently used entry that is complete and without users
abbrev pub oldest_idle : List Entry → Option ℕ
oldest_idle entries = option_map (λ e. e.serial) (find is_idle entries)

-- how many are not complete
abbrev pub incomplete : List Entry → ℕ
incomplete entries = length (filter (λ e. not e.complete) entries)

-- ---- what stays true

-- no two members pass as the same
abbrev pub AreApart : {X : Type 0} → (X → X → Bool) → List X → Type 0
AreApart same [] = Unit {0}
AreApart same (x ∷ xs) = (list_any (same x) xs ≡ false) × AreApart same xs

-- No serial stands twice, no table has two blocks, an entry has eight tables at most, and a table has a block exactly where an entry names it.
pub record IsDirectory (d : Directory) : Type 0 where
  pub serials : AreApart (λ e f. e.serial == f.serial) d.entries
  pub once : AreApart (λ b c. same_table b.table c.table) d.tables
  pub few : AllByRecursion (λ e. length e.tables ≤ 8) d.entries
  pub named : (t : TableName) → list_any (names_table t) d.entries ≡ list_any (is_block_of t) d.tables

-- ---- one more entry

-- These are the tables of the entry that have no block yet, each once.
pub record AreFresh (entry : Entry) (tables fresh : List TableBlock) : Type 0 where
  pub once : AreApart (λ b c. same_table b.table c.table) fresh
  pub exactly : (t : TableName) → list_any (is_block_of t) fresh ≡ (list_any (same_table t) entry.tables && not (list_any (is_block_of t) tables))

pub record AddsEntry (entry : Entry) (fresh : List TableBlock) (old new : Directory) : Type 0 where
  pub entries : new.entries ≡ old.entries ++ entry ∷ []
  pub tables : IsPermutation new.tables (fresh ++ old.tables)
  pub room : new.room + 1 ≡ old.room
  pub table_room : new.table_room + length fresh ≡ old.table_room

-- ---- a change of one entry

abbrev pub without : ℕ → List Entry → List Entry
without n entries = filter (λ e. not (has_serial n e)) entries

-- an entry, changed, at the end of those that are left
abbrev pub moved_to_end : Option Entry → (Entry → Entry) → List Entry → List Entry
moved_to_end None f entries = entries
moved_to_end (Some e) f entries = without e.serial entries ++ f e ∷ []

-- the entry is the most recently used one
abbrev pub after_touch : ℕ → List Entry → List Entry
after_touch n entries = moved_to_end (entry_at n entries) (λ e. e) entries

-- it is complete, and the most recently used one
abbrev pub after_complete : ℕ → List Entry → List Entry
after_complete n entries = moved_to_end (entry_at n entries) (λ e. record e { complete = true }) entries

-- the entry with a serial, changed where it stands
abbrev pub changed : ℕ → (Entry → Entry) → List Entry → List Entry
changed n f entries = map (λ e. if has_serial n e then f e else e) entries

abbrev pub after_enter : ℕ → List Entry → List Entry
after_enter n entries = changed n (λ e. record e { users = e.users + 1 }) entries

abbrev pub after_leave : ℕ → List Entry → List Entry
after_leave n entries = changed n (λ e. record e { users = e.users - 1 }) entries

abbrev pub with_entries : List Entry → Directory → Directory
with_entries entries d = record d { entries = entries }

-- ---- one entry less

-- The tables that no other entry names are freed.
pub record RemovesEntry (n : ℕ) (freed : List TableBlock) (old new : Directory) : Type 0 where
  pub entries : new.entries ≡ without n old.entries
  pub tables : IsPermutation old.tables (freed ++ new.tables)
  pub kept : AllByRecursion (λ b. list_any (names_table b.table) new.entries ≡ true) new.tables
  pub unnamed : AllByRecursion (λ b. list_any (names_table b.table) new.entries ≡ false) freed
  pub room : new.room ≡ old.room + 1
  pub table_room : new.table_room ≡ old.table_room + length freed

-- ---- a block that moved

abbrev pub moved_entry : Move → Entry → Entry
moved_entry change e = record e { text = moved change e.text }

abbrev pub moved_table : Move → TableBlock → TableBlock
moved_table change b = record b { block = moved change b.block }

abbrev pub after_shift : Move → Directory → Directory
after_shift change d = record d { entries = map (moved_entry change) d.entries; tables = map (moved_table change) d.tables }
