-- The place between those that pass a test and those that fail it.
use Rattle.std.proofs.Common.{◌≡◌, ℕ, ◌-◌, ◌<◌, ◌≤◌, Bool, true, false, inl, inr, List, [], ◌∷◌, ◌++◌, length, get_or, refl, arith}
use Rattle.std.specs.List.{AllByRecursion}
use Rattle.std.specs.List.Sorted.{IsPartitionedBy, IsPartitionPoint}
use Rattle.std.proofs.lemmas.Bool.{cases_lt}
use Rattle.std.proofs.lemmas.List.{get_or_append_left, get_or-append_right, length-append}
use Rattle.std.proofs.lemmas.List.Elements.{All-from_recursion}

module _ {X : Type 0} where
  pub each_front : (P : X → Type 0) (xs ys : List X) → AllByRecursion P (xs ++ ys) → AllByRecursion P xs
  each_front P [] ys h = tt
  each_front P (x ∷ xs) ys h = (h.0, each_front P xs ys h.1)

  pub each_back : (P : X → Type 0) (xs ys : List X) → AllByRecursion P (xs ++ ys) → AllByRecursion P ys
  each_back P [] ys h = h
  each_back P (x ∷ xs) ys h = each_back P xs ys h.1

  passes_at : (p : X → Bool) (low high : List X) (k : ℕ) (d : X) → AllByRecursion (λ x. p x ≡ true) low → k < length low → p (get_or (low ++ high) k d) ≡ true
  passes_at p low high k d passes h = rw (get_or_append_left low high d k h) (All-from_recursion (λ x. p x ≡ true) low passes k d h)

  fails_at : (p : X → Bool) (low high : List X) (k : ℕ) (d : X) → AllByRecursion (λ x. p x ≡ false) high → length low ≤ k → k < length (low ++ high) → p (get_or (low ++ high) k d) ≡ false
  fails_at p low high k d fails h within =
      rw (get_or-append_right low high (length low) k d refl h) (All-from_recursion (λ x. p x ≡ false) high fails (k - length low) d (omega (arith, length-append low high, h, within)))

  parted : (p : X → Bool) (low high : List X) → AllByRecursion (λ x. p x ≡ true) low → AllByRecursion (λ x. p x ≡ false) high → IsPartitionedBy p (low ++ high)
  parted p low high passes fails = λ i j d le within yes.
      elim (cases_lt j (length low)) [
        | inl under ↦ passes_at p low high i d passes (omega (arith, le, under))
        | inr over ↦ absurd (cc (yes, fails_at p low high j d fails over within))
      ]

  -- what `partition_point` answers
  pub point_is : (p : X → Bool) (d : X) (low high : List X) (i : ℕ) → AllByRecursion (λ x. p x ≡ true) low → AllByRecursion (λ x. p x ≡ false) high → i ≤ length (low ++ high)
      → (IsPartitionedBy p (low ++ high) → IsPartitionPoint (λ x. p x ≡ true) (λ x. p x ≡ false) (low ++ high) i) → i ≡ length low
  point_is p d low high i passes fails within clause =
      let point = clause (parted p low high passes fails) in
      elim (cases_lt i (length low)) [
        | inl under ↦ absurd (cc (passes_at p low high i d passes under, point.1 i d (omega arith) (omega (arith, length-append low high, under))))
        | inr over ↦ elim (cases_lt (length low) i) [
          | inl past ↦ absurd (cc (point.0 (length low) d (omega arith) past, fails_at p low high (length low) d fails (omega arith) (omega (arith, past, within))))
          | inr same ↦ omega (arith, over, same)
        ]
      ]
