-- The tables that have a block, each in a slot of its own, by whose number it is known as long as it has the block.
use Rattle.std.specs.Prelude.{◌≡◌, ℕ, ◌+◌, ◌<◌, ◌≤◌, ◌^◌, Bool, List, [], ◌∷◌, map, length, slice_get, Option, Some, None, option_map, ◌==◌}
use Rattle.std.specs.List.{AllByRecursion, find}
use Rattle.qc_types.specs.declared.names.TableName.{TableName}
use Rattle.qc_sql.specs.Database.{same_table}
use Rattle.qc_key.specs.Hash.{hash, table_bytes}
use Rattle.qc_tiles.specs.declared.blocks.Move.{Move}
use Rattle.qc_chain.specs.declared.keys.Key.{Key}
use Rattle.qc_dir.specs.declared.tables.TableBlock.{TableBlock}
use Rattle.qc_dir.specs.Directory.{moved_table}
use Rattle.qc_dir.specs.Keys.{Keys, total, bit, times, same_key}

-- a table with its block, under its number
pub record Numbered : Type 0 where
  pub number : ℕ
  pub table : TableBlock

-- what contracts see: the tables, by rising number, and how many more there is room for
pub record Tabled : Type 0 where
  pub held : List Numbered
  pub room : ℕ

-- the tables in the slots from this number on
abbrev pub held_from : ℕ → List (Option TableBlock) → List Numbered
held_from k [] = []
held_from k (None ∷ slots) = held_from (k + 1) slots
held_from k (Some t ∷ slots) = record { number = k; table = t } ∷ held_from (k + 1) slots

abbrev pub tables_of : Tabled → List TableBlock
tables_of d = map (λ h. h.table) d.held

abbrev pub is_of : TableName → Numbered → Bool
is_of t h = same_table t h.table.table

-- the number of a table
abbrev pub number_of : TableName → List Numbered → Option ℕ
number_of t held = option_map (λ h. h.number) (find (is_of t) held)

abbrev pub has_number : ℕ → Numbered → Bool
has_number n h = h.number == n

-- the table under a number
abbrev pub numbered_at : ℕ → List Numbered → Option Numbered
numbered_at n held = find (has_number n) held

abbrev pub name_hash : TableName → ℕ
name_hash t = hash (table_bytes t)

-- the hash of a table's name, with its number
abbrev pub name_key : Numbered → Key
name_key h = record { major = name_hash h.table.table; minor = h.number }

-- the place of a table's block, with its number
abbrev pub place_key : Numbered → Key
place_key h = record { major = h.table.block.first; minor = h.number }

-- The numbers in the list are those of the free slots, each once. One set has the hashes of the names, and the other the places of the blocks, both with the
-- numbers.
pub record IsSlots (slots : List (Option TableBlock)) (free : List ℕ) (capacity : ℕ) (names places : Keys) : Type 0 where
  pub empty : AllByRecursion (λ k. slice_get slots k ≡ Some None) free
  pub apart : (k : ℕ) → total (λ j. bit (j == k)) free ≤ 1
  pub by_name : (k : Key) → times k names.keys ≡ total (λ h. bit (same_key k (name_key h))) (held_from 0 slots)
  pub by_place : (k : Key) → times k places.keys ≡ total (λ h. bit (same_key k (place_key h))) (held_from 0 slots)
  pub name_room : names.room ≡ length free
  pub place_room : places.room ≡ length free
  pub whole : length free + length (held_from 0 slots) ≡ length slots
  pub few : length slots < 2 ^ 32
  pub fits : length slots ≤ capacity

-- the numbers rise
abbrev pub IsInOrder : List Numbered → Type 0
IsInOrder [] = Unit {0}
IsInOrder (h ∷ hs) = AllByRecursion (λ g. h.number < g.number) hs × IsInOrder hs

abbrev pub moved_numbered : Move → Numbered → Numbered
moved_numbered change h = record h { table = moved_table change h.table }

-- how many have a block at a place
abbrev pub blocks_at : ℕ → List Numbered → ℕ
blocks_at place held = total (λ h. bit (h.table.block.first == place)) held
