-- The names that no chain has, each once in a list.
use Rattle.std.proofs.Common.{◌≡◌, ◌≢◌, ℕ, zero, suc, ◌+◌, ◌<◌, ◌≤◌, Bool, true, false, List, [], ◌∷◌, ◌++◌, length, set, get_or, refl, sym, ap, ◌∙◌, inl, inr, Option, Some, None, ◌==◌, arith}
use Rattle.std.specs.Prelude.{slice_get, Contains}
use Rattle.std.proofs.lemmas.Option.{slice_get_within}
use Rattle.std.proofs.lemmas.Bool.{eq-eqb, ne_eqb, cases_eq}
use Rattle.qc_chain.specs.Counts.{bit, count}
use Rattle.qc_chain.proofs.Counting.{total-append, few}
use Rattle.qc_chain.specs.declared.names.Extent.{Extent}
use Rattle.qc_chain.specs.Stored.{is_empty, is_free}
use Rattle.qc_chain.proofs.BlockSteps.{all-counted}

pub got_same : {X : Type 0} (xs : List X) (n : ℕ) (v : X) → n < length xs → slice_get (set xs n v) n ≡ Some v
got_same [] n v h = absurd (omega (arith, h))
got_same (x ∷ xs) zero v h = refl
got_same (x ∷ xs) (suc n) v h = got_same xs n v (omega (arith, h))

pub got_other : {X : Type 0} (xs : List X) (n m : ℕ) (v : X) → (m ≡ n → ⊥) → slice_get (set xs n v) m ≡ slice_get xs m
got_other [] n m v h = refl
got_other (x ∷ xs) zero zero v h = absurd (h refl)
got_other (x ∷ xs) zero (suc m) v h = refl
got_other (x ∷ xs) (suc n) zero v h = refl
got_other (x ∷ xs) (suc n) (suc m) v h = got_other xs n m v (λ e. h (ap suc e))

-- the list has each free name once, and no other number
abbrev pub AreNames : List (Option Extent) → List ℕ → Type 0
AreNames es free = (n : ℕ) → count n free ≡ bit (is_free n es)

free_slot : (o : Option (Option Extent)) → is_empty o ≡ true → o ≡ Some None
free_slot None h = absurd (cc h)
free_slot (Some None) h = refl
free_slot (Some (Some e)) h = absurd (cc h)

yes : (b : Bool) → 0 < bit b → b ≡ true
yes true h = refl
yes false h = absurd (omega (arith, h))

at_most_one : (b : Bool) → bit b ≤ 1
at_most_one true = omega arith
at_most_one false = omega arith

pub name-there : (es : List (Option Extent)) (free : List ℕ) (x : ℕ) → AreNames es free → 0 < count x free → slice_get es x ≡ Some None
name-there es free x h some = free_slot (slice_get es x) (yes (is_free x es) (omega (arith, some, h x)))

pub count-last : (x : ℕ) (init : List ℕ) → 0 < count x (init ++ x ∷ [])
count-last x init = let one : bit (x == x) ≡ 1 = rw (eq-eqb x x refl) refl in omega (arith, total-append (λ y. bit (y == x)) init (x ∷ []), one)

-- a name is taken from the end
pub names-fewer : (es : List (Option Extent)) (init : List ℕ) (x : ℕ) (e : Extent) → AreNames es (init ++ x ∷ []) → AreNames (set es x (Some e)) init
names-fewer es init x e h n =
    let there = name-there es (init ++ x ∷ []) x h (count-last x init) in
    let sum = total-append (λ y. bit (y == n)) init (x ∷ []) in
    elim (cases_eq n x) [
      | inl same ↦ (let one : bit (x == x) ≡ 1 = rw (eq-eqb x x refl) refl in
          let was : bit (is_free x es) ≡ 1 = rw there refl in
          let now : bit (is_free x (set es x (Some e))) ≡ 0 = rw (got_same es x (Some e) (slice_get_within es x None there)) refl in
          rw same (omega (arith, h x, total-append (λ y. bit (y == x)) init (x ∷ []), one, was, now)))
      | inr other ↦ (let none : bit (x == n) ≡ 0 = rw (ne_eqb x n (λ q. other (sym q))) refl in rw (got_other es x n (Some e) other) (omega (arith, sum, h n, none)))
    ]

-- it is put there again
pub names-more : (es : List (Option Extent)) (free : List ℕ) (x : ℕ) (e : Extent) → AreNames es free → slice_get es x ≡ Some (Some e) → AreNames (set es x None) (free ++ x ∷ [])
names-more es free x e h there n =
    let sum = total-append (λ y. bit (y == n)) free (x ∷ []) in
    elim (cases_eq n x) [
      | inl same ↦ (let one : bit (x == x) ≡ 1 = rw (eq-eqb x x refl) refl in
          let was : bit (is_free x es) ≡ 0 = rw there refl in
          let now : bit (is_free x (set es x None)) ≡ 1 = rw (got_same es x None (slice_get_within es x (Some e) there)) refl in
          rw same (omega (arith, h x, total-append (λ y. bit (y == x)) free (x ∷ []), one, was, now)))
      | inr other ↦ (let none : bit (x == n) ≡ 0 = rw (ne_eqb x n (λ q. other (sym q))) refl in rw (got_other es x n None other) (omega (arith, sum, h n, none)))
    ]

-- a chain that was begun gets another extent
pub names-still : (es : List (Option Extent)) (free : List ℕ) (x : ℕ) (e g : Extent) → AreNames es free → slice_get es x ≡ Some (Some e) → AreNames (set es x (Some g)) free
names-still es free x e g h there n =
    elim (cases_eq n x) [
      | inl same ↦ rw (same, got_same es x (Some g) (slice_get_within es x (Some e) there)) (h x ∙ rw there refl)
      | inr other ↦ rw (got_other es x n (Some g) other) (h n)
    ]

-- there are no more free names than numbers
pub names-fit : (es : List (Option Extent)) (free : List ℕ) → AreNames es free → length free ≤ length es
names-fit es free h = few (length es) free (λ n. omega (arith, h n, at_most_one (is_free n es))) (all-counted (λ n. n < length es) free (λ n some. slice_get_within es n None (name-there es free n h some)))

-- ---- whether one is free

got_none : (es : List (Option Extent)) (i : ℕ) → i < length es → get_or es i None ≡ None → slice_get es i ≡ Some None
got_none [] i h e = absurd (omega (arith, h))
got_none (x ∷ es) zero h e = ap (λ o. Some o) e
got_none (x ∷ es) (suc i) h e = got_none es i (omega (arith, h)) e

pub some-free : (es : List (Option Extent)) (free : List ℕ) → AreNames es free → Contains es None → free ≡ [] → ⊥
some-free es free h (i, within, none) empty =
    let one : bit (is_free i es) ≡ 1 = rw (got_none es i within none) refl in
    omega (arith, h i, ap (count i) empty, one)

pub none-left : (free : List ℕ) → length free ≡ 0 → free ≡ []
none-left [] h = refl
none-left (x ∷ xs) h = absurd (omega (arith, h))

pub first-free : (es : List (Option Extent)) (x : ℕ) (xs : List ℕ) → AreNames es (x ∷ xs) → slice_get es x ≡ Some None
first-free es x xs h = name-there es (x ∷ xs) x h (let one : bit (x == x) ≡ 1 = rw (eq-eqb x x refl) refl in omega (arith, one))

-- ---- all names free

pub names-all : (n : ℕ) (es : List (Option Extent)) (free : List ℕ) → AreNames es free → length es ≡ n → AreNames (es ++ None ∷ []) (free ++ n ∷ [])
names-all n es free h long m =
    let sum = total-append (λ y. bit (y == m)) free (n ∷ []) in
    elim (cases_eq m n) [
      | inl same ↦ (let one : bit (n == n) ≡ 1 = rw (eq-eqb n n refl) refl in
          let was : bit (is_free n es) ≡ 0 = rw (out es n (omega (arith, long))) refl in
          let now : bit (is_free n (es ++ None ∷ [])) ≡ 1 = rw (there es n long) refl in
          rw same (omega (arith, h n, total-append (λ y. bit (y == n)) free (n ∷ []), one, was, now)))
      | inr other ↦ (let none : bit (n == m) ≡ 0 = rw (ne_eqb n m (λ q. other (sym q))) refl in rw (beside es m (λ q. other (q ∙ long))) (omega (arith, sum, h m, none)))
    ]
  where
    out : (xs : List (Option Extent)) (k : ℕ) → length xs ≤ k → slice_get xs k ≡ None
    out [] k low = refl
    out (x ∷ xs) zero low = absurd (omega (arith, low))
    out (x ∷ xs) (suc k) low = out xs k (omega (arith, low))

    there : (xs : List (Option Extent)) (k : ℕ) → length xs ≡ k → slice_get (xs ++ None ∷ []) k ≡ Some None
    there [] zero is = refl
    there [] (suc k) is = absurd (omega (arith, is))
    there (x ∷ xs) zero is = absurd (omega (arith, is))
    there (x ∷ xs) (suc k) is = there xs k (omega (arith, is))

    beside : (xs : List (Option Extent)) (k : ℕ) → k ≢ length xs → slice_get (xs ++ None ∷ []) k ≡ slice_get xs k
    beside [] zero ne = absurd (ne refl)
    beside [] (suc k) ne = refl
    beside (x ∷ xs) zero ne = refl
    beside (x ∷ xs) (suc k) ne = beside xs k (λ q. ne (ap suc q))
