-- Entries in slots, and lists of these: one in the order of use, and those of the numbers by which entries are looked up.
use Rattle.std.specs.Prelude.{◌≡◌, ℕ, ◌<◌, ◌≤◌, ◌^◌, Bool, false, not, ◌+◌, List, length, Option, Some, None, is_some, ◌==◌}
use Rattle.std.specs.List.{filter}
use Rattle.qc_chain.specs.Linked.{Linked}
use Rattle.qc_dir.specs.declared.entries.Entry.{Entry}
use Rattle.qc_dir.specs.declared.entry_slots.By.{By}
use Rattle.qc_dir.specs.declared.entry_slots.By.TheVariants.{Serial, Hash, Place}
use Rattle.qc_dir.specs.Keys.{total, bit}
use Rattle.qc_chain.specs.Filed.{in_slot, IsFiled, bucket_of}

-- what contracts see: the entries from the least to the most recently used, and how many more there is room for
pub record Used : Type 0 where
  pub entries : List Entry
  pub room : ℕ

abbrev pub entries_of : Used → List Entry
entries_of u = u.entries

-- the entry, with its text at another place
abbrev pub placed_text : ℕ → Entry → Entry
placed_text first e = record e { text = record { first = first; words = e.text.words } }

-- how many have their text block at a place
abbrev pub texts_at : ℕ → List Entry → ℕ
texts_at place entries = total (λ e. bit (e.text.first == place)) entries

abbrev pub is_missing : Option Entry → Bool
is_missing None = false
is_missing (Some e) = not e.complete

-- ---- the slots

abbrev pub number_by : By → Entry → ℕ
number_by Serial e = e.serial
number_by Hash e = e.hash
number_by Place e = e.text.first

-- free slots stand in list 0, and each entry in a list of its number
abbrev pub number_home : By → ℕ → Option Entry → ℕ
number_home by mask None = 0
number_home by mask (Some e) = bucket_of mask (number_by by e)

abbrev pub is_numbered : By → ℕ → Option Entry → Bool
is_numbered by n None = false
is_numbered by n (Some e) = number_by by e == n

-- those of the slots that have an entry with the number
abbrev pub having : By → ℕ → List (Option Entry) → List ℕ → List ℕ
having by n slots list = filter (λ m. is_numbered by n (in_slot m slots)) list

pub record IsEntrySlots (slots : List (Option Entry)) (serials hashes places : Linked) (mask : ℕ) : Type 0 where
  pub by_serial : IsFiled (number_home Serial mask) (mask + 2) slots serials
  pub by_hash : IsFiled (number_home Hash mask) (mask + 2) slots hashes
  pub by_place : IsFiled (number_home Place mask) (mask + 2) slots places

-- ---- the order of use

-- free slots stand in list 0, and the entries in list 1
abbrev pub use_home : Option Entry → ℕ
use_home None = 0
use_home (Some e) = 1

abbrev pub is_entry : ℕ → Option Entry → Bool
is_entry n s = is_numbered Serial n s

-- No serial stands twice. So many slots have an entry, and so many of these are not complete.
pub record IsUses (slots : List (Option Entry)) (order : Linked) (count incomplete : ℕ) : Type 0 where
  pub ordered : IsFiled use_home 2 slots order
  pub once : (n : ℕ) → total (λ s. bit (is_entry n s)) slots ≤ 1
  pub all : count ≡ total (λ s. bit (is_some s)) slots
  pub missing : incomplete ≡ total (λ s. bit (is_missing s)) slots
  pub few : length slots < 2 ^ 32
