-- Sets of keys, by how often a key stands in them.
use Rattle.std.specs.Prelude.{◌≡◌, ℕ, ◌+◌, ◌*◌, ◌%◌, ◌<◌, ◌^◌, Bool, false, ◌&&◌, List, [], ◌∷◌, ◌++◌, Option, Some, None, MatchOption, min, nat_lt, ◌==◌, if◌then◌else◌}
use Rattle.qc_chain.specs.declared.keys.Key.{Key}
use Rattle.qc_chain.specs.Linked.{Linked}
use Rattle.qc_chain.specs.Filed.{in_slot, bucket_of, IsFiled}
pub use Rattle.qc_chain.specs.Counts.{total, bit}

-- what contracts see of a set of keys: the keys in any order, and how many more there is room for
pub record Keys : Type 0 where
  pub keys : List Key
  pub room : ℕ

abbrev pub same_key : Key → Key → Bool
same_key a b = a.major == b.major && a.minor == b.minor

-- how often a key stands in a list
abbrev pub times : Key → List Key → ℕ
times k keys = total (λ m. bit (same_key k m)) keys

-- none of the keys has this first number, or this is the second number of one that has
abbrev pub IsAnyUnder : ℕ → List Key → Option ℕ → Type 0
IsAnyUnder major keys found = MatchOption found ((n : ℕ) → times (record { major = major; minor = n }) keys ≡ 0) (λ n. 0 < times (record { major = major; minor = n }) keys)

-- the lesser of two numbers, of those that are not below the first
abbrev pub least_from : ℕ → Option ℕ → ℕ → Option ℕ
least_from from None n = if nat_lt n from then None else Some n
least_from from (Some m) n = if nat_lt n from then Some m else Some (min m n)

-- ---- where the keys stand

-- one number for both
unfoldable pub pair_of : Key → ℕ
pair_of k = (k.major + k.minor * 10123456789012345679 % 2 ^ 64) % 2 ^ 64

-- free slots stand in list 0, and keys in those of their first number
abbrev pub major_home : ℕ → Option Key → ℕ
major_home mask None = 0
major_home mask (Some k) = bucket_of mask k.major

-- or in those of both numbers
abbrev pub pair_home : ℕ → Option Key → ℕ
pair_home mask None = 0
pair_home mask (Some k) = bucket_of mask (pair_of k)

abbrev pub is_key : Key → Option Key → Bool
is_key k None = false
is_key k (Some m) = same_key k m

-- the second number of a key with this first one
abbrev pub minor_under : ℕ → Option Key → List ℕ
minor_under major None = []
minor_under major (Some k) = if k.major == major then k.minor ∷ [] else []

-- those of the keys in the slots with these numbers
abbrev pub minors_under : ℕ → List (Option Key) → List ℕ → List ℕ
minors_under major slots [] = []
minors_under major slots (n ∷ ns) = minor_under major (in_slot n slots) ++ minors_under major slots ns

pub record IsKeySet (slots : List (Option Key)) (one two : Linked) (mask : ℕ) : Type 0 where
  pub by_major : IsFiled (major_home mask) (mask + 2) slots one
  pub by_key : IsFiled (pair_home mask) (mask + 2) slots two
