-- The first item of a list that passes a test, item by item.
use Rattle.std.proofs.Common.{◌≡◌, ℕ, ◌+◌, ◌<◌, Bool, true, false, List, length, map, drop, get_or, refl, ap, ◌∙◌}
use Rattle.std.specs.Prelude.{find, Some}
use Rattle.qc_resolve.proofs.Steps.{rest_at}

module _ {A B : Type 0} (f : A → B) (p : B → Bool) (xs : List A) (i : ℕ) (x : A) (h : i < length xs) (e : x ≡ get_or xs i x) where
  pub find_map_met : p (f x) ≡ true → find p (map f (drop i xs)) ≡ Some (f x)
  find_map_met k = ap (λ ys. find p (map f ys)) (rest_at xs i x h e) ∙ rw k refl

  pub find_map_passed : p (f x) ≡ false → find p (map f (drop i xs)) ≡ find p (map f (drop (i + 1) xs))
  find_map_passed k = ap (λ ys. find p (map f ys)) (rest_at xs i x h e) ∙ rw k refl
