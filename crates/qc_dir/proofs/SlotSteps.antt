-- Tables in numbered slots: what a slot that is filled or emptied makes of the list of the tables.
use Rattle.std.proofs.Common.{◌≡◌, ℕ, ◌+◌, ◌<◌, ◌≤◌, zero, suc, true, false, cond, List, [], ◌∷◌, ◌++◌, map, length, set, length-set, length-append, refl, sym, ap, ◌∙◌, subst, Option, Some, None, ◌==◌, arith}
use Rattle.std.specs.List.{AllByRecursion, slice_get}
use Rattle.std.specs.List.Sorted.{IsPermutation}
use Rattle.std.specs.Option.{IsSome}
use Rattle.std.proofs.lemmas.List.Sorted.{IsPermutation-refl, IsPermutation-cons, IsPermutation-trans, length_permutation, sum_by-IsPermutation}
use Rattle.std.proofs.lemmas.List.Sums.{sum_by-cons}
use Rattle.std.specs.List.{sum_by}
use Rattle.std.proofs.lemmas.Option.{none-some, same_Some}
use Rattle.std.proofs.lemmas.Bool.Decides.{nat_tests}
use Rattle.std.proofs.lemmas.Bool.{eq-eqb, ne_eqb}
use Rattle.qc_dir.specs.declared.tables.TableBlock.{TableBlock}
use Rattle.std.proofs.lemmas.List.{length-map}
use Rattle.qc_chain.specs.declared.keys.Key.{Key}
use Rattle.qc_dir.specs.Keys.{Keys, total, bit, times, same_key}
use Rattle.qc_dir.specs.Slots.{Numbered, IsSlots, IsInOrder, held_from, has_number, numbered_at, name_key, place_key}
use Rattle.qc_dir.proofs.Totals.{total-append}

-- ---- sums of a list in another order

total-sum_by : {A : Type 0} (w : A → ℕ) (xs : List A) → total w xs ≡ sum_by w xs
total-sum_by w [] = refl
total-sum_by w (x ∷ xs) = ap (λ n. w x + n) (total-sum_by w xs) ∙ sym (sum_by-cons w x xs)

pub total-permutation : {A : Type 0} (w : A → ℕ) (xs ys : List A) → IsPermutation xs ys → total w xs ≡ total w ys
total-permutation w xs ys h = total-sum_by w xs ∙ (sym (sum_by-IsPermutation w xs ys h) ∙ sym (total-sum_by w ys))

swap_two : {A : Type 0} (x y : A) (ys : List A) → IsPermutation (x ∷ y ∷ ys) (y ∷ x ∷ ys)
swap_two x y ys = record { moves = (0, 1) ∷ []; below = search arith; is = refl }

-- ---- one slot

abbrev numbered : ℕ → TableBlock → Numbered
numbered n t = record { number = n; table = t }

at : (n m : ℕ) (t : TableBlock) (hs : List Numbered) → n ≡ m → IsPermutation (record { number = m; table = t } ∷ hs) (record { number = n; table = t } ∷ hs)
at n m t hs e = subst (λ k. IsPermutation (record { number = m; table = t } ∷ hs) (record { number = k; table = t } ∷ hs)) (sym e) (IsPermutation-refl (record { number = m; table = t } ∷ hs))

-- a slot that was free is filled
pub held-put : (j i n : ℕ) (slots : List (Option TableBlock)) (t : TableBlock) → n ≡ j + i → slice_get slots i ≡ Some None → IsPermutation (held_from j (set slots i (Some t))) (record { number = n; table = t } ∷ held_from j slots)
held-put j i n [] t e h = absurd (none-some None h)
held-put j zero n (s ∷ ss) t e h = subst (λ o. IsPermutation (record { number = j; table = t } ∷ held_from (j + 1) ss) (record { number = n; table = t } ∷ held_from j (o ∷ ss))) (sym (same_Some s None h)) (at n j t (held_from (j + 1) ss) (omega (arith, e)))
held-put j (suc i) n (None ∷ ss) t e h = held-put (j + 1) i n ss t (omega (arith, e)) h
held-put j (suc i) n (Some a ∷ ss) t e h =
    let x : Numbered = record { number = j; table = a } in
    let y : Numbered = record { number = n; table = t } in
    IsPermutation-trans (x ∷ held_from (j + 1) (set ss i (Some t))) (x ∷ y ∷ held_from (j + 1) ss) (y ∷ x ∷ held_from (j + 1) ss)
    (IsPermutation-cons x (held_from (j + 1) (set ss i (Some t))) (y ∷ held_from (j + 1) ss) (held-put (j + 1) i n ss t (omega (arith, e)) h))
    (swap_two x y (held_from (j + 1) ss))

-- a slot is emptied
pub held-take : (j i n : ℕ) (slots : List (Option TableBlock)) (t : TableBlock) → n ≡ j + i → slice_get slots i ≡ Some (Some t) → IsPermutation (held_from j slots) (record { number = n; table = t } ∷ held_from j (set slots i None))
held-take j i n [] t e h = absurd (none-some (Some t) h)
held-take j zero n (s ∷ ss) t e h = subst (λ o. IsPermutation (held_from j (o ∷ ss)) (record { number = n; table = t } ∷ held_from (j + 1) ss)) (sym (same_Some s (Some t) h)) (at n j t (held_from (j + 1) ss) (omega (arith, e)))
held-take j (suc i) n (None ∷ ss) t e h = held-take (j + 1) i n ss t (omega (arith, e)) h
held-take j (suc i) n (Some a ∷ ss) t e h =
    let x : Numbered = record { number = j; table = a } in
    let y : Numbered = record { number = n; table = t } in
    IsPermutation-trans (x ∷ held_from (j + 1) ss) (x ∷ y ∷ held_from (j + 1) (set ss i None)) (y ∷ x ∷ held_from (j + 1) (set ss i None))
    (IsPermutation-cons x (held_from (j + 1) ss) (y ∷ held_from (j + 1) (set ss i None)) (held-take (j + 1) i n ss t (omega (arith, e)) h))
    (swap_two x y (held_from (j + 1) (set ss i None)))

get-other : {A : Type 0} (slots : List A) (i k : ℕ) (v : A) → (i ≡ k → ⊥) → slice_get (set slots i v) k ≡ slice_get slots k
get-other [] i k v h = refl
get-other (s ∷ ss) zero zero v h = absurd (h refl)
get-other (s ∷ ss) zero (suc k) v h = refl
get-other (s ∷ ss) (suc i) zero v h = refl
get-other (s ∷ ss) (suc i) (suc k) v h = get-other ss i k v (λ e. h (ap suc e))

get-same : {A : Type 0} (slots : List A) (i : ℕ) (v : A) → i < length slots → slice_get (set slots i v) i ≡ Some v
get-same [] i v h = absurd (omega (arith, h))
get-same (s ∷ ss) zero v h = refl
get-same (s ∷ ss) (suc i) v h = get-same ss i v (omega (arith, h))

pub get-within : {A : Type 0} (slots : List A) (i : ℕ) (v : A) → slice_get slots i ≡ Some v → i < length slots
get-within [] i v h = absurd (none-some v h)
get-within (s ∷ ss) zero v h = omega arith
get-within (s ∷ ss) (suc i) v h = omega (arith, get-within ss i v h)

-- ---- looking up by number

pub each_map : {A : Type 0} (P Q : A → Type 0) (xs : List A) → ((x : A) → P x → Q x) → AllByRecursion P xs → AllByRecursion Q xs
each_map P Q [] f p = tt
each_map P Q (x ∷ xs) f p = (f x p.0, each_map P Q xs f p.1)

-- all numbers are this one or larger
held-numbers : (j : ℕ) (slots : List (Option TableBlock)) → AllByRecursion (λ h. j ≤ h.number) (held_from j slots)
held-numbers j [] = tt
held-numbers j (None ∷ ss) = each_map (λ h. j + 1 ≤ h.number) (λ h. j ≤ h.number) (held_from (j + 1) ss) (λ h l. omega (arith, l)) (held-numbers (j + 1) ss)
held-numbers j (Some t ∷ ss) = (omega arith, each_map (λ h. j + 1 ≤ h.number) (λ h. j ≤ h.number) (held_from (j + 1) ss) (λ h l. omega (arith, l)) (held-numbers (j + 1) ss))

none_at : (n : ℕ) (hs : List Numbered) → AllByRecursion (λ h. n < h.number) hs → numbered_at n hs ≡ None
none_at n [] all = refl
none_at n (h ∷ hs) all = rw (ne_eqb h.number n (λ e. omega (arith, e, all.0))) (none_at n hs all.1)

above : (j n : ℕ) (slots : List (Option TableBlock)) → n < j → AllByRecursion (λ h. n < h.number) (held_from j slots)
above j n slots e = each_map (λ h. j ≤ h.number) (λ h. n < h.number) (held_from j slots) (λ h l. omega (arith, e, l)) (held-numbers j slots)

abbrev under : ℕ → Option (Option TableBlock) → Option Numbered
under n None = None
under n (Some None) = None
under n (Some (Some t)) = Some (record { number = n; table = t })

-- what stands under a number is what its slot holds
held-at : (j i n : ℕ) (slots : List (Option TableBlock)) → n ≡ j + i → numbered_at n (held_from j slots) ≡ under n (slice_get slots i)
held-at j i n [] e = refl
held-at j zero n (None ∷ ss) e = none_at n (held_from (j + 1) ss) (above (j + 1) n ss (omega (arith, e)))
held-at j zero n (Some t ∷ ss) e =
    let same : j ≡ n = omega (arith, e) in
    rw (eq-eqb j n same) (ap (λ m. Some (numbered m t)) same)
held-at j (suc i) n (None ∷ ss) e = held-at (j + 1) i n ss (omega (arith, e))
held-at j (suc i) n (Some t ∷ ss) e = rw (ne_eqb j n (λ q. omega (arith, q, e))) (held-at (j + 1) i n ss (omega (arith, e)))

pub held-rising : (j : ℕ) (slots : List (Option TableBlock)) → IsInOrder (held_from j slots)
held-rising j [] = tt
held-rising j (None ∷ ss) = held-rising (j + 1) ss
held-rising j (Some t ∷ ss) = (above (j + 1) j ss (omega arith), held-rising (j + 1) ss)

-- a slot that holds a table
pub slot_of : (n : ℕ) (slots : List (Option TableBlock)) → IsSome (numbered_at n (held_from 0 slots)) → (t : TableBlock) × (slice_get slots n ≡ Some (Some t))
slot_of n slots h = by (slice_get slots n) (subst (λ o. IsSome o) (held-at 0 n n slots (omega arith)) h)
  where
    by : (o : Option (Option TableBlock)) → IsSome (under n o) → (t : TableBlock) × (o ≡ Some (Some t))
    by None k = absurd (cc k)
    by (Some None) k = absurd (cc k)
    by (Some (Some t)) k = (t, refl)

pub slot_at : (n : ℕ) (slots : List (Option TableBlock)) (t : TableBlock) → slice_get slots n ≡ Some (Some t) → numbered_at n (held_from 0 slots) ≡ Some (numbered n t)
slot_at n slots t h = held-at 0 n n slots (omega arith) ∙ ap (λ o. under n o) h

-- each member passes what passes whatever is counted of it
pub each_counted : {A : Type 0} (P : A → Type 0) (xs : List A) → ((x : A) → ((w : A → ℕ) → w x ≤ total w xs) → P x) → AllByRecursion P xs
each_counted P [] f = tt
each_counted P (x ∷ xs) f = (f x (λ w. omega arith), each_counted P xs (λ y g. f y (λ w. omega (arith, g w))))

pub each_zip : {A : Type 0} (P Q R : A → Type 0) (xs : List A) → ((x : A) → P x → Q x → R x) → AllByRecursion P xs → AllByRecursion Q xs → AllByRecursion R xs
each_zip P Q R [] f p q = tt
each_zip P Q R (x ∷ xs) f p q = (f x p.0 q.0, each_zip P Q R xs f p.1 q.1)

-- what the slot holds is what stands under its number
pub each_numbered : (n : ℕ) (slots : List (Option TableBlock)) (t : TableBlock) → slice_get slots n ≡ Some (Some t) → AllByRecursion (λ h. h.number ≡ n → h.table ≡ t) (held_from 0 slots)
each_numbered n slots t h = unique (held_from 0 slots) (held-rising 0 slots) (slot_at n slots t h)
  where
    none : (g : Numbered) (hs : List Numbered) → AllByRecursion (λ k. g.number < k.number) hs → g.number ≡ n → AllByRecursion (λ k. k.number ≡ n → k.table ≡ t) hs
    none g [] all e = tt
    none g (k ∷ ks) all e = (λ f. absurd (omega (arith, all.0, e, f)), none g ks all.1 e)

    unique : (hs : List Numbered) → IsInOrder hs → numbered_at n hs ≡ Some (numbered n t) → AllByRecursion (λ g. g.number ≡ n → g.table ≡ t) hs
    unique [] rising e = tt
    unique (g ∷ hs) rising e =
        elim (has_number n g) as (λ v. has_number n g ≡ v → cond v (Some g) (numbered_at n hs) ≡ Some (numbered n t) → AllByRecursion (λ k. k.number ≡ n → k.table ≡ t) (g ∷ hs)) [
          | true ↦ λ f k. (λ _. ap (λ (m : Numbered). m.table) (same_Some g (numbered n t) k), none g hs rising.0 (let same : g.number ≡ n = grind (arith, nat_tests) in same))
          | false ↦ λ f k. (λ is. absurd (let other : g.number ≡ n → ⊥ = grind (arith, nat_tests) in other is), unique hs rising.1 k)
        ] refl e

-- ---- what changes of the invariant

pub length-held : (xs ys : List Numbered) (x : Numbered) → IsPermutation xs (x ∷ ys) → length xs ≡ length ys + 1
length-held xs ys x h = omega (arith, length_permutation xs (x ∷ ys) h)

not_in : (n : ℕ) (free : List ℕ) → total (λ j. bit (j == n)) free ≡ 0 → AllByRecursion (λ k. n ≡ k → ⊥) free
not_in n [] h = tt
not_in n (k ∷ ks) h =
    elim (k == n) as (λ v. (k == n) ≡ v → bit v + total (λ j. bit (j == n)) ks ≡ 0 → AllByRecursion (λ k. n ≡ k → ⊥) (k ∷ ks)) [
      | true ↦ λ e f. absurd (omega (arith, f))
      | false ↦ λ e f. (λ is. absurd (let other : n ≡ k → ⊥ = grind (arith, nat_tests) in other is), not_in n ks (omega (arith, f)))
    ] refl h

each_front : {A : Type 0} (P : A → Type 0) (xs ys : List A) → AllByRecursion P (xs ++ ys) → AllByRecursion P xs
each_front P [] ys h = tt
each_front P (x ∷ xs) ys h = (h.0, each_front P xs ys h.1)

each_back : {A : Type 0} (P : A → Type 0) (xs ys : List A) → AllByRecursion P (xs ++ ys) → AllByRecursion P ys
each_back P [] ys h = h
each_back P (x ∷ xs) ys h = each_back P xs ys h.1

pub each_both : {A : Type 0} (P : A → Type 0) (xs ys : List A) → AllByRecursion P xs → AllByRecursion P ys → AllByRecursion P (xs ++ ys)
each_both P [] ys h k = k
each_both P (x ∷ xs) ys h k = (h.0, each_both P xs ys h.1 k)

-- a free slot is empty
pub last_empty : (n capacity : ℕ) (slots : List (Option TableBlock)) (rest : List ℕ) (names places : Keys) → IsSlots slots (rest ++ n ∷ []) capacity names places → slice_get slots n ≡ Some None
last_empty n capacity slots rest names places holds = (each_back (λ k. slice_get slots k ≡ Some None) rest (n ∷ []) holds.empty).0

one_last : (n : ℕ) → total (λ j. bit (j == n)) (n ∷ []) ≡ 1
one_last n = grind (arith, nat_tests)

-- the last of the free slots is filled
pub slots-filled : (n capacity : ℕ) (slots : List (Option TableBlock)) (rest : List ℕ) (t : TableBlock) (names places names' places' : Keys) → IsSlots slots (rest ++ n ∷ []) capacity names places
    → ((k : Key) → times k names'.keys ≡ times k names.keys + bit (same_key k (name_key (numbered n t)))) → names'.room + 1 ≡ names.room
    → ((k : Key) → times k places'.keys ≡ times k places.keys + bit (same_key k (place_key (numbered n t)))) → places'.room + 1 ≡ places.room
    → IsSlots (set slots n (Some t)) rest capacity names' places'
slots-filled n capacity slots rest t names places names' places' holds by_name name_room by_place place_room = record {
  empty = each_zip (λ k. slice_get slots k ≡ Some None) (λ k. n ≡ k → ⊥) (λ k. slice_get (set slots n (Some t)) k ≡ Some None) rest (λ k e other. get-other slots n k (Some t) other ∙ e)
      (each_front (λ k. slice_get slots k ≡ Some None) rest (n ∷ []) holds.empty)
      (not_in n rest (omega (arith, total-append (λ j. bit (j == n)) rest (n ∷ []), holds.apart n, one_last n)));
  apart = λ k. omega (arith, total-append (λ j. bit (j == k)) rest (n ∷ []), holds.apart k);
  by_name = λ k. omega (arith, by_name k, holds.by_name k, total-permutation (λ h. bit (same_key k (name_key h))) (held_from 0 (set slots n (Some t))) (numbered n t ∷ (held_from 0 slots)) moves);
  by_place = λ k. omega (arith, by_place k, holds.by_place k, total-permutation (λ h. bit (same_key k (place_key h))) (held_from 0 (set slots n (Some t))) (numbered n t ∷ (held_from 0 slots)) moves);
  name_room = omega (arith, name_room, holds.name_room, length-append rest (n ∷ []));
  place_room = omega (arith, place_room, holds.place_room, length-append rest (n ∷ []));
  whole = omega (arith, holds.whole, length-append rest (n ∷ []), length-held (held_from 0 (set slots n (Some t))) (held_from 0 slots) (numbered n t) moves, length-set slots n (Some t));
  few = omega (arith, holds.few, length-set slots n (Some t));
  fits = omega (arith, holds.fits, length-set slots n (Some t));
}
  where
    moves : IsPermutation (held_from 0 (set slots n (Some t))) (numbered n t ∷ (held_from 0 slots))
    moves = held-put 0 n n slots t (omega arith) (last_empty n capacity slots rest names places holds)

-- a slot is emptied, and is the last of the free ones
pub slots-emptied : (n capacity : ℕ) (slots : List (Option TableBlock)) (free : List ℕ) (t : TableBlock) (names places names' places' : Keys) → IsSlots slots free capacity names places → slice_get slots n ≡ Some (Some t)
    → ((k : Key) → times k names'.keys + bit (same_key k (name_key (numbered n t))) ≡ times k names.keys) → names'.room ≡ names.room + 1
    → ((k : Key) → times k places'.keys + bit (same_key k (place_key (numbered n t))) ≡ times k places.keys) → places'.room ≡ places.room + 1
    → IsSlots (set slots n None) (free ++ n ∷ []) capacity names' places'
slots-emptied n capacity slots free t names places names' places' holds is by_name name_room by_place place_room = record {
  empty = each_both (λ k. slice_get (set slots n None) k ≡ Some None) free (n ∷ [])
      (each_zip (λ k. slice_get slots k ≡ Some None) (λ k. n ≡ k → ⊥) (λ k. slice_get (set slots n None) k ≡ Some None) free (λ k e other. get-other slots n k None other ∙ e) holds.empty apart_from)
      (get-same slots n None (get-within slots n (Some t) is), tt);
  apart = λ k. omega (arith, total-append (λ j. bit (j == k)) free (n ∷ []), once k);
  by_name = λ k. omega (arith, by_name k, holds.by_name k, total-permutation (λ h. bit (same_key k (name_key h))) (held_from 0 slots) (numbered n t ∷ (held_from 0 (set slots n None))) moves);
  by_place = λ k. omega (arith, by_place k, holds.by_place k, total-permutation (λ h. bit (same_key k (place_key h))) (held_from 0 slots) (numbered n t ∷ (held_from 0 (set slots n None))) moves);
  name_room = omega (arith, name_room, holds.name_room, length-append free (n ∷ []));
  place_room = omega (arith, place_room, holds.place_room, length-append free (n ∷ []));
  whole = omega (arith, holds.whole, length-append free (n ∷ []), length-held (held_from 0 slots) (held_from 0 (set slots n None)) (numbered n t) moves, length-set slots n None);
  few = omega (arith, holds.few, length-set slots n None);
  fits = omega (arith, holds.fits, length-set slots n None);
}
  where
    moves : IsPermutation (held_from 0 slots) (numbered n t ∷ (held_from 0 (set slots n None)))
    moves = held-take 0 n n slots t (omega arith) is

    others : (ks : List ℕ) → AllByRecursion (λ k. slice_get slots k ≡ Some None) ks → AllByRecursion (λ k. n ≡ k → ⊥) ks
    others [] all = tt
    others (k ∷ ks) all = (λ e. clash (ap (λ j. slice_get slots j) e), others ks all.1)
      where
        clash : slice_get slots n ≡ slice_get slots k → ⊥
        clash e = none-some t (same_Some None (Some t) (sym all.0 ∙ (sym e ∙ is)))

    apart_from : AllByRecursion (λ k. n ≡ k → ⊥) free
    apart_from = others free holds.empty

    none_there : (ks : List ℕ) → AllByRecursion (λ k. n ≡ k → ⊥) ks → total (λ j. bit (j == n)) ks ≡ 0
    none_there [] all = refl
    none_there (k ∷ ks) all = let test : (k == n) ≡ false = ne_eqb k n (λ e. all.0 (sym e)) in rw test (omega (arith, none_there ks all.1))

    once : (k : ℕ) → total (λ j. bit (j == k)) free + total (λ j. bit (j == k)) (n ∷ []) ≤ 1
    once k =
        elim (n == k) as (λ v. (n == k) ≡ v → total (λ j. bit (j == k)) free + total (λ j. bit (j == k)) (n ∷ []) ≤ 1) [
          | true ↦ λ e. let same : n ≡ k = grind (arith, nat_tests) in rw (← same) (omega (arith, none_there free apart_from, one_last n))
          | false ↦ λ e. rw e (omega (arith, holds.apart k))
        ] refl

-- ---- a table's block at another place

abbrev at_place : ℕ → TableBlock → TableBlock
at_place place t = record t { block = record { first = place; words = t.block.words } }

pub held-map : {B : Type 0} (f : Numbered → B) (j i : ℕ) (slots : List (Option TableBlock)) (t u : TableBlock) → slice_get slots i ≡ Some (Some t) → ((n : ℕ) → f (numbered n u) ≡ f (numbered n t)) → map f (held_from j (set (set slots i None) i (Some u))) ≡ map f (held_from j slots)
held-map f j i [] t u h same = absurd (none-some (Some t) h)
held-map f j zero (s ∷ ss) t u h same = rw (same_Some s (Some t) h) (ap (λ x. x ∷ map f (held_from (j + 1) ss)) (same j))
held-map f j (suc i) (None ∷ ss) t u h same = held-map f (j + 1) i ss t u h same
held-map f j (suc i) (Some a ∷ ss) t u h same = ap (λ xs. f (numbered j a) ∷ xs) (held-map f (j + 1) i ss t u h same)

pub total-set : (w : Numbered → ℕ) (n : ℕ) (slots : List (Option TableBlock)) (t u : TableBlock) → slice_get slots n ≡ Some (Some t) → total w (held_from 0 (set (set slots n None) n (Some u))) + w (numbered n t) ≡ total w (held_from 0 slots) + w (numbered n u)
total-set w n slots t u h =
    let taken = total-permutation w (held_from 0 slots) (numbered n t ∷ held_from 0 (set slots n None)) (held-take 0 n n slots t (omega arith) h) in
    let put = total-permutation w (held_from 0 (set (set slots n None) n (Some u))) (numbered n u ∷ held_from 0 (set slots n None)) (held-put 0 n n (set slots n None) u (omega arith) (get-same slots n None (get-within slots n (Some t) h))) in
    omega (arith, taken, put)

pub slots-placed : (n capacity place : ℕ) (slots : List (Option TableBlock)) (free : List ℕ) (t : TableBlock) (names places between places' : Keys) → IsSlots slots free capacity names places → slice_get slots n ≡ Some (Some t)
    → ((k : Key) → times k between.keys + bit (same_key k (place_key (numbered n t))) ≡ times k places.keys) → between.room ≡ places.room + 1
    → ((k : Key) → times k places'.keys ≡ times k between.keys + bit (same_key k (place_key (numbered n (at_place place t))))) → places'.room + 1 ≡ between.room
    → IsSlots (set (set slots n None) n (Some (at_place place t))) free capacity names places'
slots-placed n capacity place slots free t names places between places' holds is by_first first_room by_place place_room = record {
  empty = each_zip (λ k. slice_get slots k ≡ Some None) (λ k. Unit {0}) (λ k. slice_get (set (set slots n None) n (Some (at_place place t))) k ≡ Some None) free still holds.empty (units free);
  apart = holds.apart;
  by_name = λ k. omega (arith, holds.by_name k, total-set (λ h. bit (same_key k (name_key h))) n slots t (at_place place t) is);
  by_place = λ k. omega (arith, by_place k, by_first k, holds.by_place k, total-set (λ h. bit (same_key k (place_key h))) n slots t (at_place place t) is);
  name_room = holds.name_room;
  place_room = omega (arith, first_room, place_room, holds.place_room);
  whole = omega (arith, holds.whole, lengths, counts);
  few = omega (arith, holds.few, lengths);
  fits = omega (arith, holds.fits, lengths);
}
  where
    units : (ks : List ℕ) → AllByRecursion (λ k. Unit {0}) ks
    units [] = tt
    units (k ∷ ks) = (tt, units ks)

    still : (k : ℕ) → slice_get slots k ≡ Some None → Unit {0} → slice_get (set (set slots n None) n (Some (at_place place t))) k ≡ Some None
    still k e u = get-other (set slots n None) n k (Some (at_place place t)) other ∙ (get-other slots n k None other ∙ e)
      where
        other : n ≡ k → ⊥
        other f = none-some t (same_Some None (Some t) (sym e ∙ (ap (λ j. slice_get slots j) (sym f) ∙ is)))

    lengths : length (set (set slots n None) n (Some (at_place place t))) ≡ length slots
    lengths = omega (arith, length-set (set slots n None) n (Some (at_place place t)), length-set slots n None)

    counts : length (held_from 0 (set (set slots n None) n (Some (at_place place t)))) ≡ length (held_from 0 slots)
    counts = sym (length-map (held_from 0 (set (set slots n None) n (Some (at_place place t)))) (λ (h : Numbered). h.number)) ∙ (ap (λ (ns : List ℕ). length ns) (held-map (λ (h : Numbered). h.number) 0 n slots t (at_place place t) is (λ m. refl)) ∙ length-map (held_from 0 slots) (λ (h : Numbered). h.number))
