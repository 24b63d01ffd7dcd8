-- Few numbers are small and distinct.
use Rattle.std.proofs.Common.{◌≡◌, ◌≢◌, ℕ, zero, suc, ◌+◌, ◌-◌, ◌<◌, ◌≤◌, eqb, eq-eqb, eqb-true, ne_eqb, Bool, true, false, cond, List, [], ◌∷◌, ◌++◌, map, length, refl, sym, ap, subst, ◌∙◌, arith, true≢false}
use Rattle.std.specs.Prelude.{not, ◌&&◌, ◌||◌, ◌==◌}
use Rattle.std.specs.List.{list_any, filter, AllByRecursion}
use Rattle.qc_laws.specs.history.Runs.{are_distinct}
use Rattle.qc_laws.proofs.history.Serials.{both_true, opposite, neither}

abbrev pub IsFromOne : ℕ → ℕ → Type 0
IsFromOne n x = (0 < x) × (x ≤ n)

abbrev others : ℕ → List ℕ → List ℕ
others n xs = filter (λ x. not (x == n)) xs

none_other : (n : ℕ) (xs : List ℕ) → list_any (λ m. m == n) xs ≡ false → others n xs ≡ xs
none_other n [] h = refl
none_other n (x ∷ xs) h =
    let t = neither (x == n) (list_any (λ m. m == n) xs) h in
    ap (λ b. cond (not b) (x ∷ others n xs) (others n xs)) t.0 ∙ ap (λ l. x ∷ l) (none_other n xs t.1)

-- at most one goes
one_less : (n : ℕ) (xs : List ℕ) → are_distinct xs ≡ true → length xs ≤ length (others n xs) + 1
one_less n [] d = omega arith
one_less n (x ∷ xs) d =
    let parts = both_true (not (list_any (λ m. m == x) xs)) (are_distinct xs) d in
    elim (eqb x n) as (λ b. eqb x n ≡ b → length (x ∷ xs) ≤ length (cond (not b) (x ∷ others n xs) (others n xs)) + 1) [
      | true ↦ λ e. let same = none_other n xs (subst (λ m. list_any (λ k. k == m) xs ≡ false) (eqb-true x n e) (opposite _ parts.0)) in omega (arith, ap (λ (l : List ℕ). length l) same)
      | false ↦ λ e. omega (arith, one_less n xs parts.1)
    ] refl

none_less : (n m : ℕ) (xs : List ℕ) → list_any (λ k. k == m) xs ≡ false → list_any (λ k. k == m) (others n xs) ≡ false
none_less n m [] h = refl
none_less n m (x ∷ xs) h =
    let t = neither (x == m) (list_any (λ k. k == m) xs) h in
    elim (x == n) as (λ b. list_any (λ k. k == m) (cond (not b) (x ∷ others n xs) (others n xs)) ≡ false) [
      | true ↦ none_less n m xs t.1
      | false ↦ ap (λ b. b || list_any (λ k. k == m) (others n xs)) t.0 ∙ none_less n m xs t.1
    ]

distinct_less : (n : ℕ) (xs : List ℕ) → are_distinct xs ≡ true → are_distinct (others n xs) ≡ true
distinct_less n [] d = refl
distinct_less n (x ∷ xs) d =
    let parts = both_true (not (list_any (λ m. m == x) xs)) (are_distinct xs) d in
    elim (x == n) as (λ b. are_distinct (cond (not b) (x ∷ others n xs) (others n xs)) ≡ true) [
      | true ↦ distinct_less n xs parts.1
      | false ↦ (λ i. not (none_less n x xs (opposite _ parts.0) i) && are_distinct (others n xs)) ∙ distinct_less n xs parts.1
    ]

lower : (n : ℕ) (xs : List ℕ) → AllByRecursion (IsFromOne (suc n)) xs → AllByRecursion (IsFromOne n) (others (suc n) xs)
lower n [] h = tt
lower n (x ∷ xs) h = elim (eqb x (suc n)) as (λ b. eqb x (suc n) ≡ b → AllByRecursion (IsFromOne n) (cond (not b) (x ∷ others (suc n) xs) (others (suc n) xs))) [
  | true ↦ λ e. lower n xs h.1
  | false ↦ λ e. ((h.0.0, below (λ z. true≢false (sym (eq-eqb x (suc n) z) ∙ e))), lower n xs h.1)
] refl
  where
    below : (x ≡ suc n → ⊥) → x ≤ n
    below ne = omega (arith, h.0.1, ne)

pub few_seats : (n : ℕ) (xs : List ℕ) → are_distinct xs ≡ true → AllByRecursion (IsFromOne n) xs → length xs ≤ n
few_seats zero [] d h = omega arith
few_seats zero (x ∷ xs) d h = absurd (omega (arith, h.0.0, h.0.1))
few_seats (suc n) xs d h = omega (arith, one_less (suc n) xs d, few_seats n (others (suc n) xs) (distinct_less (suc n) xs d) (lower n xs h))
