-- Lists with one item of a number: an item is put in, or taken out.
use Rattle.std.proofs.Common.{◌≡◌, ◌≢◌, ℕ, zero, suc, ◌+◌, ◌<◌, eqb, eq-eqb, eqb-true, ne_eqb, true, false, cond, List, [], ◌∷◌, ◌++◌, map, length, refl, sym, ap, subst, ◌∙◌, arith, true≢false, length-append}
use Rattle.std.specs.Prelude.{not, ◌&&◌, ◌||◌, ◌==◌, Option, Some, None, IfSome, IfNone, is_some, slice_get, remove, find}
use Rattle.std.specs.List.{list_any, filter, AllByRecursion}
use Rattle.std.proofs.lemmas.Option.{none-some, same_Some}
use Rattle.qc_laws.specs.history.Runs.{are_distinct}
use Rattle.qc_laws.proofs.history.Serials.{both_true, opposite, neither, distinct_push}
use Rattle.qc_turn.specs.Words.{word_seats}
use Rattle.qc_sound.specs.parts.Tasks.{IsSeat}
use Rattle.qc_sound.proofs.Pigeons.{IsFromOne, few_seats}

module _ {T : Type 0} (f : T → ℕ) where
  abbrev pub without_number : ℕ → List T → List T
  without_number n xs = filter (λ x. not (f x == n)) xs

  pub none_other : (n : ℕ) (xs : List T) → list_any (λ m. m == n) (map f xs) ≡ false → without_number n xs ≡ xs
  none_other n [] h = refl
  none_other n (x ∷ xs) h =
      let t = neither (f x == n) (list_any (λ m. m == n) (map f xs)) h in
      ap (λ b. cond (not b) (x ∷ without_number n xs) (without_number n xs)) t.0 ∙ ap (λ l. x ∷ l) (none_other n xs t.1)

  pub is_among : (n i : ℕ) (xs : List T) (x : T) → slice_get xs i ≡ Some x → f x ≡ n → list_any (λ m. m == n) (map f xs) ≡ true
  is_among n i [] x h e = absurd (none-some x h)
  is_among n zero (y ∷ xs) x h e = ap (λ b. b || list_any (λ m. m == n) (map f xs)) (eq-eqb (f y) n (ap f (same_Some y x h) ∙ e))
  is_among n (suc i) (y ∷ xs) x h e = elim (f y == n) as (λ b. (b || list_any (λ m. m == n) (map f xs)) ≡ true) [ true ↦ refl | false ↦ is_among n i xs x h e ]

  -- what `remove` leaves
  pub removed_is : (n i : ℕ) (xs : List T) (x : T) → are_distinct (map f xs) ≡ true → slice_get xs i ≡ Some x → f x ≡ n → remove xs i ≡ without_number n xs
  removed_is n i [] x d h e = absurd (none-some x h)
  removed_is n zero (y ∷ xs) x d h e =
      let at : f y ≡ n = ap f (same_Some y x h) ∙ e in
      let parts = both_true (not (list_any (λ m. m == f y) (map f xs))) (are_distinct (map f xs)) d in
      let none = none_other n xs (subst (λ k. list_any (λ m. m == k) (map f xs) ≡ false) at (opposite _ parts.0)) in
      sym none ∙ sym (ap (λ b. cond (not b) (y ∷ without_number n xs) (without_number n xs)) (eq-eqb (f y) n at))
  removed_is n (suc i) (y ∷ xs) x d h e =
      let parts = both_true (not (list_any (λ m. m == f y) (map f xs))) (are_distinct (map f xs)) d in
      let ne : f y ≢ n = λ z. true≢false (sym (is_among n i xs x h e) ∙ subst (λ k. list_any (λ m. m == k) (map f xs) ≡ false) z (opposite _ parts.0)) in
      ap (λ l. y ∷ l) (removed_is n i xs x parts.1 h e) ∙ sym (ap (λ b. cond (not b) (y ∷ without_number n xs) (without_number n xs)) (ne_eqb (f y) n ne))

  pub none_less : (n m : ℕ) (xs : List T) → list_any (λ k. k == m) (map f xs) ≡ false → list_any (λ k. k == m) (map f (without_number n xs)) ≡ false
  none_less n m [] h = refl
  none_less n m (x ∷ xs) h =
      let t = neither (f x == m) (list_any (λ k. k == m) (map f xs)) h in
      elim (f x == n) as (λ b. list_any (λ k. k == m) (map f (cond (not b) (x ∷ without_number n xs) (without_number n xs))) ≡ false) [
        | true ↦ none_less n m xs t.1
        | false ↦ ap (λ b. b || list_any (λ k. k == m) (map f (without_number n xs))) t.0 ∙ none_less n m xs t.1
      ]

  pub distinct_less : (n : ℕ) (xs : List T) → are_distinct (map f xs) ≡ true → are_distinct (map f (without_number n xs)) ≡ true
  distinct_less n [] d = refl
  distinct_less n (x ∷ xs) d =
      let parts = both_true (not (list_any (λ m. m == f x) (map f xs))) (are_distinct (map f xs)) d in
      elim (f x == n) as (λ b. are_distinct (map f (cond (not b) (x ∷ without_number n xs) (without_number n xs))) ≡ true) [
        | true ↦ distinct_less n xs parts.1
        | false ↦ (λ i. not (none_less n (f x) xs (opposite _ parts.0) i) && are_distinct (map f (without_number n xs))) ∙ distinct_less n xs parts.1
      ]

  pub all_less : (P : T → Type 0) (n : ℕ) (xs : List T) → AllByRecursion P xs → AllByRecursion P (without_number n xs)
  all_less P n [] h = tt
  all_less P n (x ∷ xs) h = elim (f x == n) as (λ b. AllByRecursion P (cond (not b) (x ∷ without_number n xs) (without_number n xs))) [
    | true ↦ all_less P n xs h.1
    | false ↦ (h.0, all_less P n xs h.1)
  ]

  -- one goes, where the number is there
  pub one_less : (n i : ℕ) (xs : List T) (x : T) → are_distinct (map f xs) ≡ true → slice_get xs i ≡ Some x → f x ≡ n → length (without_number n xs) + 1 ≡ length xs
  one_less n i [] x d h e = absurd (none-some x h)
  one_less n zero (y ∷ xs) x d h e = let r = removed_is n zero (y ∷ xs) x d h e in omega (arith, ap (λ (l : List T). length l) r)
  one_less n (suc i) (y ∷ xs) x d h e =
      let parts = both_true (not (list_any (λ m. m == f y) (map f xs))) (are_distinct (map f xs)) d in
      let ne : f y ≢ n = λ z. true≢false (sym (is_among n i xs x h e) ∙ subst (λ k. list_any (λ m. m == k) (map f xs) ≡ false) z (opposite _ parts.0)) in
      let here : without_number n (y ∷ xs) ≡ y ∷ without_number n xs = ap (λ b. cond (not b) (y ∷ without_number n xs) (without_number n xs)) (ne_eqb (f y) n ne) in
      omega (arith, one_less n i xs x parts.1 h e, ap (λ (l : List T). length l) here)

  found_among : (n : ℕ) (xs : List T) (x : T) → find (λ y. f y == n) xs ≡ Some x → list_any (λ m. m == n) (map f xs) ≡ true
  found_among n [] x h = absurd (none-some x h)
  found_among n (y ∷ xs) x h = elim (f y == n) as (λ b. cond b (Some y) (find (λ z. f z == n) xs) ≡ Some x → (b || list_any (λ m. m == n) (map f xs)) ≡ true) [ true ↦ λ g. refl | false ↦ λ g. found_among n xs x g ] h

  -- one goes, where it is found
  pub found_less : (n : ℕ) (xs : List T) (x : T) → are_distinct (map f xs) ≡ true → find (λ y. f y == n) xs ≡ Some x → length (without_number n xs) + 1 ≡ length xs
  found_less n [] x d h = absurd (none-some x h)
  found_less n (y ∷ xs) x d h =
      let parts = both_true (not (list_any (λ m. m == f y) (map f xs))) (are_distinct (map f xs)) d in
      elim (eqb (f y) n) as (λ b. eqb (f y) n ≡ b → cond b (Some y) (find (λ z. f z == n) xs) ≡ Some x → length (cond (not b) (y ∷ without_number n xs) (without_number n xs)) + 1 ≡ length (y ∷ xs)) [
        | true ↦ λ e g. let none = none_other n xs (subst (λ k. list_any (λ m. m == k) (map f xs) ≡ false) (eqb-true (f y) n e) (opposite _ parts.0)) in omega (arith, ap (λ (l : List T). length l) none)
        | false ↦ λ e g. omega (arith, found_less n xs x parts.1 g)
      ] refl h

pub distinct_parts : (n : ℕ) (ns : List ℕ) → are_distinct (n ∷ ns) ≡ true → (list_any (λ m. m == n) ns ≡ false) × (are_distinct ns ≡ true)
distinct_parts n ns d = let parts = both_true (not (list_any (λ m. m == n) ns)) (are_distinct ns) d in (opposite _ parts.0, parts.1)

pub map_same : (xs : List ℕ) → map (λ m. m) xs ≡ xs
map_same [] = refl
map_same (x ∷ xs) = ap (λ l. x ∷ l) (map_same xs)

-- a place where the number stands is found exactly where there is one
pub is_found : (n : ℕ) (xs : List ℕ) (o : Option ℕ) → IfSome o (λ i. slice_get xs i ≡ Some n) → IfNone o (list_any (λ m. m == n) xs ≡ false) → is_some o ≡ list_any (λ m. m == n) xs
is_found n xs None some none = sym none
is_found n xs (Some i) some none = sym (subst (λ (l : List ℕ). list_any (λ m. m == n) l ≡ true) (map_same xs) (is_among (λ m. m) n i xs n some refl))

pub all_push : {A : Type 0} (P : A → Type 0) (xs : List A) (x : A) → AllByRecursion P xs → P x → AllByRecursion P (xs ++ x ∷ [])
all_push P [] x h p = (p, tt)
all_push P (y ∷ xs) x h p = (h.0, all_push P xs x h.1 p)

seats_bounded : (xs : List ℕ) → AllByRecursion IsSeat xs → AllByRecursion (IsFromOne word_seats) xs
seats_bounded [] h = tt
seats_bounded (x ∷ xs) h = ((h.0.low, h.0.high), seats_bounded xs h.1)

-- there is room for one seat more
pub one_more : (n : ℕ) (xs : List ℕ) → are_distinct xs ≡ true → AllByRecursion IsSeat xs → list_any (λ m. m == n) xs ≡ false → IsSeat n → length xs < word_seats
one_more n xs d all none is =
    let more = few_seats word_seats (xs ++ n ∷ []) (distinct_push n xs d none) (all_push (IsFromOne word_seats) xs n (seats_bounded xs all) (is.low, is.high)) in
    omega (arith, more, length-append xs (n ∷ []))
