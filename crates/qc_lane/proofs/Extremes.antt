-- The least and the greatest of a number and of others, which are taken one by one.
use Rattle.std.proofs.Common.{◌≡◌, ℤ, Option, Some, None, List, [], ◌∷◌, ◌++◌, false, refl, sym, ap, ◌∙◌, arith}
use Rattle.std.specs.Prelude.{int_lt}
use Rattle.std.specs.Int.{int_min, int_max}
use Rattle.std.proofs.lemmas.Int.{ints}
use Rattle.qc_lane.specs.Lanes.{greatest, least, or_smaller, or_greater}

-- ---- the least

min_assoc : (x y z : ℤ) → int_min x (int_min y z) ≡ int_min (int_min x y) z
min_assoc x y z = grind (arith, ints)

min_same : (x : ℤ) → int_min x x ≡ x
min_same x = grind (arith, ints)

pub min_first : (m x : ℤ) (rest : Option ℤ) → or_smaller m (Some (or_smaller x rest)) ≡ or_smaller (int_min m x) rest
min_first m x None = refl
min_first m x (Some y) = min_assoc m x y

pub min_again : (x : ℤ) (rest : Option ℤ) → or_smaller x (Some (or_smaller x rest)) ≡ or_smaller x rest
min_again x rest = min_first x x rest ∙ ap (λ y. or_smaller y rest) (min_same x)

pub not_less : (m x : ℤ) → int_lt x m ≡ false → int_min m x ≡ m
not_less m x is = grind (arith, ints, is)

pub least_parts : (m : ℤ) (xs ys : List ℤ) → or_smaller m (least (xs ++ ys)) ≡ or_smaller (or_smaller m (least xs)) (least ys)
least_parts m [] ys = refl
least_parts m (x ∷ xs) ys = min_first m x (least (xs ++ ys)) ∙ (least_parts (int_min m x) xs ys ∙ ap (λ y. or_smaller y (least ys)) (sym (min_first m x (least xs))))

-- ---- the greatest

max_assoc : (x y z : ℤ) → int_max x (int_max y z) ≡ int_max (int_max x y) z
max_assoc x y z = grind (arith, ints)

max_same : (x : ℤ) → int_max x x ≡ x
max_same x = grind (arith, ints)

pub max_first : (m x : ℤ) (rest : Option ℤ) → or_greater m (Some (or_greater x rest)) ≡ or_greater (int_max m x) rest
max_first m x None = refl
max_first m x (Some y) = max_assoc m x y

pub max_again : (x : ℤ) (rest : Option ℤ) → or_greater x (Some (or_greater x rest)) ≡ or_greater x rest
max_again x rest = max_first x x rest ∙ ap (λ y. or_greater y rest) (max_same x)

pub not_more : (m x : ℤ) → int_lt m x ≡ false → int_max m x ≡ m
not_more m x is = grind (arith, ints, is)

pub greatest_parts : (m : ℤ) (xs ys : List ℤ) → or_greater m (greatest (xs ++ ys)) ≡ or_greater (or_greater m (greatest xs)) (greatest ys)
greatest_parts m [] ys = refl
greatest_parts m (x ∷ xs) ys = max_first m x (greatest (xs ++ ys)) ∙ (greatest_parts (int_max m x) xs ys ∙ ap (λ y. or_greater y (greatest ys)) (sym (max_first m x (greatest xs))))
