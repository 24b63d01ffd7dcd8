-- Masks, of a bit for each value, and what is seen through one.
use Rattle.std.specs.Prelude.{◌≡◌, ℕ, ◌+◌, ◌/◌, ◌%◌, ◌≤◌, ℤ, pos, ◌+ℤ◌, Bool, false, not, ◌==◌, List, [], ◌∷◌, Option, Some, None, slice_index, int_lt, int_le, if◌then◌else◌}
use Rattle.std.specs.Int.{bit_at, int_min, int_max}
use Rattle.std.specs.Ordering.{int_eq}
use Rattle.qc_lane.specs.declared.compare.Cmp.{Cmp}
use Rattle.qc_lane.specs.declared.compare.Cmp.TheVariants.{Eq, Ne, Lt, Le, Gt, Ge}

-- whether bit i is set: bits are counted in words of 64, in each from the lowest
abbrev pub is_set : List ℕ → ℕ → Bool
is_set words i = bit_at (slice_index words (i / 64)) (i % 64) == 1

-- how many words have a bit for each of so many values
abbrev pub words_for : ℕ → ℕ
words_for count = (count + 63) / 64

-- the bits behind so many are 0
abbrev pub EndsAt : List ℕ → ℕ → Type 0
EndsAt mask count = (i : ℕ) → count ≤ i → is_set mask i ≡ false

-- whether a number stands in the relation to another
abbrev pub stands : Cmp → ℤ → ℤ → Bool
stands Eq x y = int_eq x y
stands Ne x y = not (int_eq x y)
stands Lt x y = int_lt x y
stands Le x y = int_le x y
stands Gt x y = int_lt y x
stands Ge x y = int_le y x

-- of the values from index i on, those whose bit is set
abbrev pub masked_from : ℕ → List ℕ → List ℤ → List ℤ
masked_from i mask [] = []
masked_from i mask (x ∷ xs) = if is_set mask i then x ∷ masked_from (i + 1) mask xs else masked_from (i + 1) mask xs

-- the values whose bit is set
abbrev pub masked : List ℕ → List ℤ → List ℤ
masked mask xs = masked_from 0 mask xs

abbrev pub total : List ℤ → ℤ
total [] = pos 0
total (x ∷ xs) = x +ℤ total xs

abbrev pub or_smaller : ℤ → Option ℤ → ℤ
or_smaller x None = x
or_smaller x (Some y) = int_min x y

-- the smallest, where there is one
abbrev pub least : List ℤ → Option ℤ
least [] = None
least (x ∷ xs) = Some (or_smaller x (least xs))

abbrev pub or_greater : ℤ → Option ℤ → ℤ
or_greater x None = x
or_greater x (Some y) = int_max x y

-- the greatest, where there is one
abbrev pub greatest : List ℤ → Option ℤ
greatest [] = None
greatest (x ∷ xs) = Some (or_greater x (greatest xs))
