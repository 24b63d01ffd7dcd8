-- What holds of each element of a list.
use Rattle.std.proofs.Common.{◌≡◌, ℕ, zero, suc, Bool, true, false, cond, List, [], ◌∷◌, ◌++◌, map, take, drop, get_or, refl, Some}
use Rattle.std.specs.Prelude.{find, IfSome}
use Rattle.std.specs.List.{list_all, AllByRecursion, filter, flat_map}
use Rattle.std.specs.Ordering.{is_gt}
use Rattle.std.specs.declared.cmp.Ordering.{Ordering}
use Rattle.std.proofs.lemmas.Bool.{and_parts, and_from}
use Rattle.qc_sql.specs.Rows.{insert_before_ties, sorted}

pub each_from_test : {A : Type 0} (t : A → Bool) (xs : List A) → list_all t xs ≡ true → AllByRecursion (λ x. t x ≡ true) xs
each_from_test t [] h = tt
each_from_test t (x ∷ xs) h = let parts = and_parts (t x) (list_all t xs) h in (parts.0, each_from_test t xs parts.1)

pub test_from_each : {A : Type 0} (t : A → Bool) (xs : List A) → AllByRecursion (λ x. t x ≡ true) xs → list_all t xs ≡ true
test_from_each t [] h = refl
test_from_each t (x ∷ xs) h = and_from (t x) (list_all t xs) h.0 (test_from_each t xs h.1)

-- the one that is found, where there is one
pub found_has : {A : Type 0} (P : A → Type 0) (t : A → Bool) (xs : List A) → AllByRecursion P xs → IfSome (find t xs) P
found_has P t [] h = tt
found_has P t (x ∷ xs) h = by (t x) (found_has P t xs h.1)
  where
    by : (b : Bool) → IfSome (find t xs) P → IfSome (cond b (Some x) (find t xs)) P
    by true later = h.0
    by false later = later

pub each_weaker : {A : Type 0} (P Q : A → Type 0) → ((x : A) → P x → Q x) → (xs : List A) → AllByRecursion P xs → AllByRecursion Q xs
each_weaker P Q k [] h = tt
each_weaker P Q k (x ∷ xs) h = (k x h.0, each_weaker P Q k xs h.1)

pub each_mapped : {A B : Type 0} (P : A → Type 0) (Q : B → Type 0) (f : A → B) → ((x : A) → P x → Q (f x)) → (xs : List A) → AllByRecursion P xs → AllByRecursion Q (map f xs)
each_mapped P Q f k [] h = tt
each_mapped P Q f k (x ∷ xs) h = (k x h.0, each_mapped P Q f k xs h.1)

module _ {A : Type 0} (P : A → Type 0) where
  pub each_append : (xs ys : List A) → AllByRecursion P xs → AllByRecursion P ys → AllByRecursion P (xs ++ ys)
  each_append [] ys h g = g
  each_append (x ∷ xs) ys h g = (h.0, each_append xs ys h.1 g)

  each_chosen : (b : Bool) (x : A) (xs : List A) → P x → AllByRecursion P xs → AllByRecursion P (cond b (x ∷ xs) xs)
  each_chosen true x xs h g = (h, g)
  each_chosen false x xs h g = g

  pub each_filtered : (t : A → Bool) (xs : List A) → AllByRecursion P xs → AllByRecursion P (filter t xs)
  each_filtered t [] h = tt
  each_filtered t (x ∷ xs) h = each_chosen (t x) x (filter t xs) h.0 (each_filtered t xs h.1)

  pub each_taken : (k : ℕ) (xs : List A) → AllByRecursion P xs → AllByRecursion P (take k xs)
  each_taken zero xs h = tt
  each_taken (suc k) [] h = tt
  each_taken (suc k) (x ∷ xs) h = (h.0, each_taken k xs h.1)

  pub each_left : (k : ℕ) (xs : List A) → AllByRecursion P xs → AllByRecursion P (drop k xs)
  each_left zero xs h = h
  each_left (suc k) [] h = tt
  each_left (suc k) (x ∷ xs) h = each_left k xs h.1

  pub each_at : (xs : List A) (k : ℕ) (d : A) → P d → AllByRecursion P xs → P (get_or xs k d)
  each_at [] k d h g = h
  each_at (x ∷ xs) zero d h g = g.0
  each_at (x ∷ xs) (suc k) d h g = each_at xs k d h g.1

  each_either : (b : Bool) (xs ys : List A) → AllByRecursion P xs → AllByRecursion P ys → AllByRecursion P (cond b xs ys)
  each_either true xs ys h g = h
  each_either false xs ys h g = g

  each_inserted : (cmp : A → A → Ordering) (x : A) (xs : List A) → P x → AllByRecursion P xs → AllByRecursion P (insert_before_ties cmp x xs)
  each_inserted cmp x [] h g = (h, tt)
  each_inserted cmp x (y ∷ ys) h g = each_either (is_gt (cmp x y)) (y ∷ insert_before_ties cmp x ys) (x ∷ y ∷ ys) (g.0, each_inserted cmp x ys h g.1) (h, g)

  pub each_sorted : (cmp : A → A → Ordering) (xs : List A) → AllByRecursion P xs → AllByRecursion P (sorted cmp xs)
  each_sorted cmp [] h = tt
  each_sorted cmp (x ∷ xs) h = each_inserted cmp x (sorted cmp xs) h.0 (each_sorted cmp xs h.1)

pub each_joined : {A B : Type 0} (P : A → Type 0) (Q : B → Type 0) (f : A → List B) → ((x : A) → P x → AllByRecursion Q (f x)) → (xs : List A) → AllByRecursion P xs → AllByRecursion Q (flat_map f xs)
each_joined P Q f k [] h = tt
each_joined P Q f k (x ∷ xs) h = each_append Q (f x) (flat_map f xs) (k x h.0) (each_joined P Q f k xs h.1)
