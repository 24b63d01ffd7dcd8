-- A list that is sorted stably is the one that the definition gives: a stable sort leaves no choice.
use Rattle.std.proofs.Common.{◌≡◌, Bool, true, false, Some, None, cond, not, ◌&&◌, List, [], ◌∷◌, map, refl, sym, ap, ◌∙◌, arith, add-one, suc, if◌then◌else◌}
use Rattle.std.specs.Cmp.{IsTotalOrder, IsStrictWeakOrder}
use Rattle.std.specs.List.{filter}
use Rattle.std.specs.List.Sorted.{IsSortedBy, IsStableBy, ties}
use Rattle.std.specs.Ordering.{is_lt, is_gt, ordering_reverse}
use Rattle.std.specs.declared.cmp.Ordering.{Ordering}
use Rattle.std.specs.declared.cmp.Ordering.TheVariants.{Less, Equal, Greater}
use Rattle.std.proofs.lemmas.List.Sorted.{ranks_by}
use Rattle.qc_sql.specs.Rows.{Truth, any_of, either, insert_before_ties, sorted}

module _ {X : Type 0} (lt : X → X → Bool) (o : IsStrictWeakOrder lt) where
  -- none of a list is below an element
  abbrev pub NoneBelow : X → List X → Type 0
  NoneBelow x [] = Unit {0}
  NoneBelow x (y ∷ ys) = (lt y x ≡ false) × NoneBelow x ys

  abbrev pub Rises : List X → Type 0
  Rises [] = Unit {0}
  Rises (x ∷ xs) = NoneBelow x xs × Rises xs

  -- with the test decided
  decided : {A : Type 0} (b : Bool) → (b ≡ true → A) → (b ≡ false → A) → A
  decided true f g = f refl
  decided false f g = g refl

  apart : {A : Type 0} (b : Bool) → b ≡ true → b ≡ false → A
  apart b p q = cc

  -- what is above an element is above what is no higher
  above_too : (x z w : X) → lt x z ≡ true → lt w z ≡ false → lt x w ≡ true
  above_too x z w below level = decided (lt x w) (λ p. p) (λ q. apart (lt x z) below (o.chain x w z q level))

  no_tie_above : (x w : X) → lt x w ≡ true → ties lt x w ≡ false
  no_tie_above x w p = rw p refl

  tie : (x y : X) → lt x y ≡ false → lt y x ≡ false → ties lt x y ≡ true
  tie x y p q = rw (p, q) refl

  itself : (x : X) → lt x x ≡ false
  itself x = decided (lt x x) (λ p. o.one_way x x p) (λ q. q)

  kept : (p : X → Bool) (x : X) (xs : List X) → p x ≡ true → filter p (x ∷ xs) ≡ x ∷ filter p xs
  kept p x xs e = rw e refl

  passed_over : (p : X → Bool) (x : X) (xs : List X) → p x ≡ false → filter p (x ∷ xs) ≡ filter p xs
  passed_over p x xs e = rw e refl

  -- no element of a list whose members are no lower than one above x ties with x
  none_tie : (x z : X) (ws : List X) → lt x z ≡ true → NoneBelow z ws → filter (ties lt x) ws ≡ []
  none_tie x z [] p h = refl
  none_tie x z (w ∷ ws) p h = passed_over (ties lt x) w ws (no_tie_above x w (above_too x z w p h.0)) ∙ none_tie x z ws p h.1

  -- an element that is strictly below the first of a list that rises has no tie there
  misses : (y z : X) (ys zs : List X) → lt y z ≡ true → NoneBelow z zs → filter (ties lt y) (y ∷ ys) ≡ filter (ties lt y) (z ∷ zs) → {A : Type 0} → A
  misses y z ys zs p low e {A} =
      let here : filter (ties lt y) (y ∷ ys) ≡ y ∷ filter (ties lt y) ys = kept (ties lt y) y ys (tie y y (itself y) (itself y)) in
      let there : filter (ties lt y) (z ∷ zs) ≡ [] = passed_over (ties lt y) z zs (no_tie_above y z p) ∙ none_tie y z zs p low in
      let all : y ∷ filter (ties lt y) ys ≡ [] = sym here ∙ e ∙ there in cc

  behind : (b : Bool) (x y : X) (xs ys : List X) → x ≡ y → cond b (x ∷ xs) xs ≡ cond b (y ∷ ys) ys → xs ≡ ys
  behind true x y xs ys same e = cc
  behind false x y xs ys same e = e

  first_is : (y z : X) (ys zs : List X) → lt y z ≡ false → lt z y ≡ false → filter (ties lt y) (y ∷ ys) ≡ filter (ties lt y) (z ∷ zs) → y ≡ z
  first_is y z ys zs p q e =
      let here : filter (ties lt y) (y ∷ ys) ≡ y ∷ filter (ties lt y) ys = kept (ties lt y) y ys (tie y y (itself y) (itself y)) in
      let there : filter (ties lt y) (z ∷ zs) ≡ z ∷ filter (ties lt y) zs = kept (ties lt y) z zs (tie y z p q) in
      let all : y ∷ filter (ties lt y) ys ≡ z ∷ filter (ties lt y) zs = sym here ∙ e ∙ there in cc

  same_ends : (x y z : X) (ys zs : List X) → y ≡ z → filter (ties lt x) (y ∷ ys) ≡ filter (ties lt x) (z ∷ zs) → filter (ties lt x) ys ≡ filter (ties lt x) zs
  same_ends x y z ys zs same e =
      behind (ties lt x y) y z _ _ same (e ∙ (λ i. cond (ties lt x (sym same i)) (z ∷ filter (ties lt x) zs) (filter (ties lt x) zs)))

  -- Two lists that rise, and in which the elements that tie stand alike, are one.
  pub one_rise : (ys zs : List X) → Rises ys → Rises zs → IsStableBy lt zs ys → ys ≡ zs
  one_rise [] [] u v h = refl
  one_rise [] (z ∷ zs) u v h = let e : [] ≡ z ∷ filter (ties lt z) zs = h z ∙ kept (ties lt z) z zs (tie z z (itself z) (itself z)) in cc
  one_rise (y ∷ ys) [] u v h = let e : y ∷ filter (ties lt y) ys ≡ [] = sym (kept (ties lt y) y ys (tie y y (itself y) (itself y))) ∙ h y in cc
  one_rise (y ∷ ys) (z ∷ zs) u v h =
      decided (lt y z) (λ p. misses y z ys zs p v.0 (h y)) (λ p.
      decided (lt z y) (λ q. misses z y zs ys q u.0 (sym (h z))) (λ q.
      let same : y ≡ z = first_is y z ys zs p q (h y) in
      let rest : ys ≡ zs = one_rise ys zs u.1 v.1 (λ x. same_ends x y z ys zs same (h x)) in cc))

  -- none below the second, which isn't below the first
  none_below_first : (x y : X) (ys : List X) → lt y x ≡ false → NoneBelow y ys → NoneBelow x ys
  none_below_first x y [] p h = tt
  none_below_first x y (w ∷ ws) p h = (o.chain w y x h.0 p, none_below_first x y ws p h.1)

  pub rises_from_sorted : (xs : List X) → IsSortedBy lt xs → Rises xs
  rises_from_sorted [] h = tt
  rises_from_sorted (x ∷ []) h = (tt, tt)
  rises_from_sorted (x ∷ y ∷ ys) h =
      let rest : Rises (y ∷ ys) = rises_from_sorted (y ∷ ys) (λ k d l r. simp add-one (simp add-one at (h (suc k) d (omega arith) (omega arith)))) in
      let first : lt y x ≡ false = h 0 x (omega arith) (omega arith) in
      ((first, none_below_first x y ys first rest.0), rest)

module _ {X : Type 0} (cmp : X → X → Ordering) (o : IsTotalOrder cmp) where
  abbrev below : X → X → Bool
  below x y = is_lt (cmp x y)

  pub orders : IsStrictWeakOrder (λ x y. is_lt (cmp x y))
  orders = ranks_by o (λ x. x)

  turned : (r : Ordering) → is_gt (ordering_reverse r) ≡ is_lt r
  turned Less = refl
  turned Equal = refl
  turned Greater = refl

  pub above_is_below : (x y : X) → is_gt (cmp x y) ≡ below y x
  above_is_below x y = ap is_gt (o.antisymm x y) ∙ turned (cmp y x)

  none_below_inserted : (x y : X) (ys : List X) → below y x ≡ false → NoneBelow below orders x ys → NoneBelow below orders x (insert_before_ties cmp y ys)
  none_below_inserted x y [] p h = (p, tt)
  none_below_inserted x y (z ∷ zs) p h = elim (is_gt (cmp y z)) as (λ b. NoneBelow below orders x (if b then z ∷ insert_before_ties cmp y zs else y ∷ z ∷ zs)) [ true ↦ (h.0, none_below_inserted x y zs p h.1) | false ↦ (p, h) ]

  inserted_rises : (x : X) (ys : List X) → Rises below orders ys → Rises below orders (insert_before_ties cmp x ys)
  inserted_rises x [] h = (tt, tt)
  inserted_rises x (y ∷ ys) h =
      decided below orders (is_gt (cmp x y))
      (λ above. rw above (none_below_inserted y x ys (orders.one_way y x (sym (above_is_below x y) ∙ above)) h.0, inserted_rises x ys h.1))
      (λ level. rw level ((sym (above_is_below x y) ∙ level, none_below_first below orders x y ys (sym (above_is_below x y) ∙ level) h.0), h))

  pub sorted_rises : (xs : List X) → Rises below orders (sorted cmp xs)
  sorted_rises [] = tt
  sorted_rises (x ∷ xs) = inserted_rises x (sorted cmp xs) (sorted_rises xs)

  -- two that don't tie with each other don't both tie with a third
  swapped : (p q : Bool) (x y : X) (zs : List X) → (p ≡ true → q ≡ true → ⊥) → cond p (y ∷ cond q (x ∷ zs) zs) (cond q (x ∷ zs) zs) ≡ cond q (x ∷ cond p (y ∷ zs) zs) (cond p (y ∷ zs) zs)
  swapped true true x y zs h = absurd (h refl refl)
  swapped true false x y zs h = refl
  swapped false true x y zs h = refl
  swapped false false x y zs h = refl

  tied_below : (t x y : X) → ties below t x ≡ true → ties below t y ≡ true → below y x ≡ false
  tied_below t x y p q = orders.chain y t x (second_level (below t y) (below y t) q) (first_level (below t x) (below x t) p)
    where
      first_level : (a b : Bool) → (not a && not b) ≡ true → a ≡ false
      first_level false b e = refl
      first_level true b e = cc

      second_level : (a b : Bool) → (not a && not b) ≡ true → b ≡ false
      second_level a false e = refl
      second_level false true e = cc
      second_level true true e = cc

  inserted_ties : (t x : X) (ys : List X) → filter (ties below t) (insert_before_ties cmp x ys) ≡ filter (ties below t) (x ∷ ys)
  inserted_ties t x [] = refl
  inserted_ties t x (y ∷ ys) =
      decided below orders (is_gt (cmp x y))
      (λ above. rw above (
      let strict : below y x ≡ true = sym (above_is_below x y) ∙ above in
      ap (λ zs. cond (ties below t y) (y ∷ zs) zs) (inserted_ties t x ys)
      ∙ swapped (ties below t y) (ties below t x) x y (filter (ties below t) ys) (λ p q. apart below orders (below y x) strict (tied_below t x y q p))))
      (λ level. rw level refl)

  pub sorted_ties : (xs : List X) → IsStableBy below xs (sorted cmp xs)
  sorted_ties [] t = refl
  sorted_ties (x ∷ xs) t = inserted_ties t x (sorted cmp xs) ∙ ap (λ zs. cond (ties below t x) (x ∷ zs) zs) (sorted_ties xs t)

  -- What a stable sort gives is what the definition gives.
  pub stable_sort_is : (xs ys : List X) → IsSortedBy below ys → IsStableBy below xs ys → ys ≡ sorted cmp xs
  stable_sort_is xs ys up stable = one_rise below orders ys (sorted cmp xs) (rises_from_sorted below orders ys up) (sorted_rises xs) (λ t. stable t ∙ sym (sorted_ties xs t))

-- Sorting by what a function makes of each is sorting what it makes.
pub insert-map : {X Y : Type 0} (f : X → Y) (cmp : Y → Y → Ordering) (x : X) (xs : List X) → map f (insert_before_ties (λ a b. cmp (f a) (f b)) x xs) ≡ insert_before_ties cmp (f x) (map f xs)
insert-map f cmp x [] = refl
insert-map f cmp x (y ∷ ys) =
    elim (is_gt (cmp (f x) (f y))) as (λ b. map f (if b then y ∷ insert_before_ties (λ a c. cmp (f a) (f c)) x ys else x ∷ y ∷ ys) ≡ (if b then f y ∷ insert_before_ties cmp (f x) (map f ys) else f x ∷ f y ∷ map f ys)) [
      | true ↦ ap (λ zs. f y ∷ zs) (insert-map f cmp x ys)
      | false ↦ refl
    ]

pub sorted-map : {X Y : Type 0} (f : X → Y) (cmp : Y → Y → Ordering) (xs : List X) → map f (sorted (λ a b. cmp (f a) (f b)) xs) ≡ sorted cmp (map f xs)
sorted-map f cmp [] = refl
sorted-map f cmp (x ∷ xs) = insert-map f cmp x (sorted (λ a b. cmp (f a) (f b)) xs) ∙ ap (insert_before_ties cmp (f x)) (sorted-map f cmp xs)

-- ---- truths in another order

either_swap : (a b c : Truth) → either a (either b c) ≡ either b (either a c)
either_swap (Some true) (Some true) c = refl
either_swap (Some true) (Some false) c = refl
either_swap (Some true) None c = refl
either_swap (Some false) (Some true) c = refl
either_swap (Some false) (Some false) c = refl
either_swap (Some false) None (Some true) = refl
either_swap (Some false) None (Some false) = refl
either_swap (Some false) None None = refl
either_swap None (Some true) c = refl
either_swap None (Some false) (Some true) = refl
either_swap None (Some false) (Some false) = refl
either_swap None (Some false) None = refl
either_swap None None c = refl

any_of_inserted : {X : Type 0} (f : X → Truth) (cmp : X → X → Ordering) (x : X) (xs : List X) → any_of (map f (insert_before_ties cmp x xs)) ≡ either (f x) (any_of (map f xs))
any_of_inserted f cmp x [] = refl
any_of_inserted f cmp x (y ∷ ys) =
    elim (is_gt (cmp x y)) as (λ b. any_of (map f (if b then y ∷ insert_before_ties cmp x ys else x ∷ y ∷ ys)) ≡ either (f x) (either (f y) (any_of (map f ys)))) [
      | true ↦ ap (either (f y)) (any_of_inserted f cmp x ys) ∙ either_swap (f y) (f x) (any_of (map f ys))
      | false ↦ refl
    ]

-- OR of what a function makes of each doesn't depend on their order.
pub any_of_sorted : {X : Type 0} (f : X → Truth) (cmp : X → X → Ordering) (xs : List X) → any_of (map f (sorted cmp xs)) ≡ any_of (map f xs)
any_of_sorted f cmp [] = refl
any_of_sorted f cmp (x ∷ xs) = any_of_inserted f cmp x (sorted cmp xs) ∙ ap (either (f x)) (any_of_sorted f cmp xs)
