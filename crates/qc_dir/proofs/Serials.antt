-- The least serial under a hash.
use Rattle.std.proofs.Common.{◌≡◌, ◌⊎◌, inl, inr, ℕ, ◌<◌, ◌≤◌, min, Bool, true, false, cond, nat_lt, ◌&&◌, List, [], ◌∷◌, refl, ap, Option, Some, None, ◌==◌, arith}
use Rattle.std.specs.List.Sorted.{IsPermutation}
use Rattle.std.specs.Option.{IsSomeAnd, IfSome, MatchOption}
use Rattle.std.proofs.lemmas.Bool.{eq-eqb, eqb-true, ne_eqb, and_parts, ltb-false, le-ltb, cases_eq, cases_lt}
use Rattle.qc_chain.specs.Counts.{count}
use Rattle.qc_dir.specs.declared.entries.Entry.{Entry}
use Rattle.qc_dir.specs.Directory.{has_serial, has_hash, entry_at, serials_under}
use Rattle.qc_dir.specs.Keys.{bit, least_from}
use Rattle.qc_dir.proofs.EntryTotals.{with, entry-serial, entry_counts, only_entry, bit_true}
use Rattle.qc_dir.proofs.EntrySteps.{hashed, count-serials}
use Rattle.qc_dir.proofs.SlotSteps.{total-permutation}

-- a serial under the hash is that of an entry with it
hash_some : (h n : ℕ) (es : List Entry) (serials : List ℕ) → ((n : ℕ) → with n es ≤ 1) → IsPermutation serials (serials_under h es) → 0 < count n serials → IsSomeAnd (entry_at n es) (λ e. e.hash ≡ h)
hash_some h n es serials once are some =
    let e = only_entry n (hashed h n) es once other (omega (arith, some, total-permutation (λ m. bit (m == n)) serials (serials_under h es) are, count-serials h n es)) in
    rw e.1 (eqb-true e.0.hash h (and_parts (has_hash h e.0) (has_serial n e.0) (bit_true (has_hash h e.0 && has_serial n e.0) e.2)).0)
  where
    other : (e : Entry) → has_serial n e ≡ false → hashed h n e ≡ 0
    other e p = rw p (never (has_hash h e))
      where
        never : (b : Bool) → bit (b && false) ≡ 0
        never true = refl
        never false = refl

-- and an entry with the hash stands under it
some_hash : (h n : ℕ) (es : List Entry) (serials : List ℕ) → IsPermutation serials (serials_under h es) → IsSomeAnd (entry_at n es) (λ e. e.hash ≡ h) → 0 < count n serials
some_hash h n es serials are there = by (entry_at n es) refl there
  where
    by : (o : Option Entry) → entry_at n es ≡ o → IsSomeAnd o (λ e. e.hash ≡ h) → 0 < count n serials
    by None is hash = absurd hash
    by (Some e) is hash =
        let one : hashed h n e ≡ 1 = rw (eq-eqb e.hash h hash, eq-eqb e.serial n (entry-serial n es e is)) refl in
        omega (arith, entry_counts n es e (hashed h n) is, one, total-permutation (λ m. bit (m == n)) serials (serials_under h es) are, count-serials h n es)

-- ---- the least of those that a walk gives

-- so far as the walk has come
pub record IsLeastSoFar (from : ℕ) (rest all : List ℕ) (least : Option ℕ) : Type 0 where
  pub fewer : (n : ℕ) → count n rest ≤ count n all
  pub found : MatchOption least (Unit {0}) (λ m. (from ≤ m) × (0 < count m all))
  pub smallest : (n : ℕ) → from ≤ n → 0 < count n all → count n rest ≡ 0 → IsSomeAnd least (λ m. m ≤ n)

pub least-none : (from : ℕ) (all : List ℕ) → IsLeastSoFar from all all None
least-none from all = record { fewer = λ n. omega arith; found = tt; smallest = λ n low some none. absurd (omega (arith, some, none)) }

pub least-more : (from n : ℕ) (rest all : List ℕ) (least : Option ℕ) → IsLeastSoFar from (n ∷ rest) all least → IsLeastSoFar from rest all (least_from from least n)
least-more from n rest all least h = record {
  fewer = λ m. omega (arith, h.fewer m);
  found = found least h.found;
  smallest = λ m low some none. small m least low (elim (cases_eq n m) [ inl same ↦ inl same | inr other ↦ inr (h.smallest m low some (let no : bit (n == m) ≡ 0 = rw (ne_eqb n m other) refl in omega (arith, no, none))) ]);
}
  where
    there : 0 < count n all
    there = let one : bit (n == n) ≡ 1 = rw (eq-eqb n n refl) refl in omega (arith, h.fewer n, one)

    found : (o : Option ℕ) → MatchOption o (Unit {0}) (λ m. (from ≤ m) × (0 < count m all)) → MatchOption (least_from from o n) (Unit {0}) (λ m. (from ≤ m) × (0 < count m all))
    found None q =
        elim (nat_lt n from) as (λ v. nat_lt n from ≡ v → MatchOption (cond v None (Some n)) (Unit {0}) (λ m. (from ≤ m) × (0 < count m all))) [
          | true ↦ λ e. tt
          | false ↦ λ e. (ltb-false n from e, there)
        ] refl
    found (Some k) q =
        elim (nat_lt n from) as (λ v. nat_lt n from ≡ v → MatchOption (cond v (Some k) (Some (min k n))) (Unit {0}) (λ m. (from ≤ m) × (0 < count m all))) [
          | true ↦ λ e. q
          | false ↦ λ e. elim (cases_lt k n) [
            | inl l ↦ (let is : min k n ≡ k = omega (arith, l) in rw is q)
            | inr g ↦ (let is : min k n ≡ n = omega (arith, g) in rw is (ltb-false n from e, there))
          ]
        ] refl

    small : (m : ℕ) (o : Option ℕ) → from ≤ m → (n ≡ m) ⊎ IsSomeAnd o (λ k. k ≤ m) → IsSomeAnd (least_from from o n) (λ k. k ≤ m)
    small m None low (inl same) = rw (le-ltb n from (omega (arith, same, low))) (omega (arith, same))
    small m None low (inr none) = absurd none
    small m (Some k) low (inl same) = rw (le-ltb n from (omega (arith, same, low))) (omega (arith, same))
    small m (Some k) low (inr l) =
        elim (nat_lt n from) as (λ v. IsSomeAnd (cond v (Some k) (Some (min k n))) (λ j. j ≤ m)) [
          | true ↦ l
          | false ↦ omega (arith, l)
        ]

-- after the last one
pub least_some : (h from : ℕ) (es : List Entry) (rest all : List ℕ) (o : Option ℕ) → ((n : ℕ) → with n es ≤ 1) → IsPermutation all (serials_under h es) → IsLeastSoFar from rest all o → IfSome o (λ n. (from ≤ n) × IsSomeAnd (entry_at n es) (λ e. e.hash ≡ h))
least_some h from es rest all None once are so = tt
least_some h from es rest all (Some n) once are so = (so.found.0, hash_some h n es all once are so.found.1)

pub least_least : (h from : ℕ) (es : List Entry) (rest all : List ℕ) (o : Option ℕ) → IsPermutation all (serials_under h es) → IsLeastSoFar from rest all o → rest ≡ [] → (n : ℕ) → from ≤ n → IsSomeAnd (entry_at n es) (λ e. e.hash ≡ h) → IsSomeAnd o (λ k. k ≤ n)
least_least h from es rest all o are so none n low there = so.smallest n low (some_hash h n es all are there) (ap (count n) none)
