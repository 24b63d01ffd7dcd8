-- What the indexes of the directory say of its entries and tables.
use Rattle.std.specs.Prelude.{◌≡◌, ℕ, ◌+◌, ◌-◌, ◌*◌, ◌<◌, ◌≤◌, ◌&&◌, List, ◌∷◌, ◌++◌, map, length, Option, Some, None, if◌then◌else◌, nat_lt, ◌==◌, IsPermutation}
use Rattle.qc_types.specs.declared.names.TableName.{TableName}
use Rattle.qc_chain.specs.declared.keys.Key.{Key}
use Rattle.qc_dir.specs.declared.entries.Entry.{Entry}
use Rattle.qc_dir.specs.declared.tables.TableBlock.{TableBlock}
use Rattle.qc_dir.specs.Directory.{has_serial, names_table}
use Rattle.qc_dir.specs.Keys.{Keys, total, bit, times, same_key}
use Rattle.qc_dir.specs.Slots.{Numbered, Tabled, IsInOrder, has_number, is_of}

-- how many of the tables with a number are this one
abbrev pub numbered_as : ℕ → TableName → List Numbered → ℕ
numbered_as n t held = total (λ h. bit (has_number n h && is_of t h)) held

-- how often these names are of the table with a number
abbrev pub numbers_in : ℕ → List Numbered → List TableName → ℕ
numbers_in n held names = total (λ t. numbered_as n t held) names

-- the same of the names of one entry, where it has the serial
abbrev pub named_times : Key → List Numbered → ℕ → List TableName → ℕ
named_times k held serial names = if serial == k.minor then numbers_in k.major held names else 0

abbrev pub entry_times : Key → List Numbered → Entry → ℕ
entry_times k held e = named_times k held e.serial e.tables

-- how many of the tables, and of the entries, have a name
abbrev pub holding : TableName → List Numbered → ℕ
holding t held = total (λ h. bit (is_of t h)) held

abbrev pub naming : TableName → List Entry → ℕ
naming t entries = total (λ e. bit (names_table t e)) entries

-- No serial and no table stands twice, an entry has eight tables at most, and a table has a block exactly where an entry names it. The set has the numbers of
-- the tables that the entries name, with their serials, and room for more.
pub record IsDir (entries : List Entry) (room : ℕ) (held : List Numbered) (named : Keys) : Type 0 where
  pub serials : (n : ℕ) → total (λ e. bit (has_serial n e)) entries ≤ 1
  pub once : (t : TableName) → holding t held ≤ 1
  pub few : total (λ e. bit (nat_lt 8 (length e.tables))) entries ≡ 0
  pub blocks : (t : TableName) → nat_lt 0 (naming t entries) ≡ nat_lt 0 (holding t held)
  pub by_name : (k : Key) → times k named.keys ≡ total (λ e. entry_times k held e) entries
  pub name_room : named.room ≡ 8 * room + total (λ e. 8 - length e.tables) entries

-- these tables were put in, each under some number
pub record AddsTables (fresh : List TableBlock) (old new : Tabled) : Type 0 where
  pub added : List Numbered
  pub tables : IsPermutation fresh (map (λ h. h.table) added)
  pub held : IsPermutation new.held (added ++ old.held)
  pub room : new.room + length fresh ≡ old.room

-- a table is freed exactly where its number stands no more
abbrev pub FreesTable : ℕ → Option TableBlock → Tabled → Tabled → Keys → Type 0
FreesTable n None old new named = (new ≡ old) × ((s : ℕ) × (0 < times (record { major = n; minor = s }) named.keys))
FreesTable n (Some item) old new named = IsPermutation old.held (record { number = n; table = item } ∷ new.held) × (new.room ≡ old.room + 1) × ((s : ℕ) → times (record { major = n; minor = s }) named.keys ≡ 0)

-- one name of an entry was taken out of the set, and its table freed where no other entry names it
pub record FreesName (n serial : ℕ) (freed : Option TableBlock) (old new : Tabled) (named named' : Keys) : Type 0 where
  pub rising : IsInOrder old.held
  pub key : (k : Key) → times k named'.keys + bit (same_key k (record { major = n; minor = serial })) ≡ times k named.keys
  pub room : named'.room ≡ named.room + 1
  pub table : FreesTable n freed old new named'
