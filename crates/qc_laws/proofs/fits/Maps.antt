-- Maps by key: what an entry that is put, changed or removed leaves at each key.
use Rattle.std.proofs.Common.{◌≡◌, ℤ, ◌+◌, ◌≤◌, Bool, true, false, cond, List, [], ◌∷◌, length, refl, sym, ap, ◌∙◌, subst, arith, Option, Some, None, suc, true≢false}
use Rattle.std.specs.Prelude.{is_some, filter}
use Rattle.std.specs.List.{AllByRecursion}
use Rattle.std.specs.List.Sorted.{IsStrictlySortedBy}
use Rattle.std.specs.Cmp.{IsTotalOrder}
use Rattle.std.specs.Ordering.{int_cmp, is_eq, match_ordering, ordering_reverse}
use Rattle.std.specs.declared.cmp.Ordering.{Ordering}
use Rattle.std.specs.declared.cmp.Ordering.TheVariants.{Less, Equal, Greater}
use Rattle.std.specs.BTreeMap.{insert_entry, is_at}
use Rattle.std.specs.Map.{lookup, remove_entry, keys_of}
use Rattle.std.proofs.lemmas.Cmp.{tied_itself, int_cmp_total, nat_list_cmp_total}
use Rattle.std.proofs.lemmas.Map.Keys.{sorted_head, sorted_tail}
use Rattle.std.proofs.lemmas.Map.Lookups.{CmpEqualImpliesEq, exact_bytes, exact_signed}
use Rattle.qc_sql.specs.Database.{Name, MapOf, name_cmp, at_name, change_at}
use Rattle.qc_sql.proofs.Untouched.{at, at_is, inserted_other}
use Rattle.qc_model.specs.Sound.{AreApart}

equal_is : (r : Ordering) → is_eq r ≡ true → r ≡ Equal
equal_is Less e = absurd cc
equal_is Equal e = refl
equal_is Greater e = absurd cc

pub some_none : {X Y : Type 0} (x : X) → ◌≡◌ {A = Option X} (Some x) None → Y
some_none x e = absurd (true≢false (ap is_some e))

pub some_is : {X : Type 0} (y z : X) → Some y ≡ Some z → y ≡ z
some_is y z q = cc

pub some_there : {X : Type 0} (o : Option X) → is_some o ≡ true → (x : X) × (o ≡ Some x)
some_there None h = absurd (true≢false (sym h))
some_there (Some x) h = (x, refl)

-- ---- maps whose keys an order tells apart

module _ {K : Type 0} {R : K → K → Ordering} (o : IsTotalOrder R) (exact : CmpEqualImpliesEq R) where
  self : (k : K) → is_at (R k) k ≡ true
  self k = ap is_eq (tied_itself o k)

  is_key : (k j : K) → is_at (R k) j ≡ true → k ≡ j
  is_key k j h = exact k j (equal_is (R k j) h)

  -- a key that isn't j is at no key that j is at
  not_both : (k j i : K) → is_at (R j) k ≡ false → is_at (R j) i ≡ true → is_at (R k) i ≡ false
  not_both k j i h e = by (is_at (R k) i) refl
    where
      by : (b : Bool) → is_at (R k) i ≡ b → is_at (R k) i ≡ false
      by false p = p
      by true p = let q : is_at (R j) k ≡ is_at (R j) i = ap (is_at (R j)) (is_key k i p) in absurd cc

  other_way : (k j : K) → is_at (R j) k ≡ false → is_at (R k) j ≡ false
  other_way k j h = not_both k j j h (self j)

module _ {K X : Type 0} {R : K → K → Ordering} (o : IsTotalOrder R) (exact : CmpEqualImpliesEq R) where
  put_other : (k j : K) (v : X) (m : List (K × X)) → is_at (R j) k ≡ false → lookup (is_at (R k)) (insert_entry R m j v) ≡ lookup (is_at (R k)) m
  put_other k j v [] h = rw (other_way o exact k j h) refl
  put_other k j v (e ∷ m) h =
      elim (R j e.0) as (λ r. R j e.0 ≡ r → lookup (is_at (R k)) (match_ordering r ((j, v) ∷ e ∷ m) ((e.0, v) ∷ m) (e ∷ insert_entry R m j v)) ≡ lookup (is_at (R k)) (e ∷ m)) [
        | Less ↦ λ p. rw (other_way o exact k j h) refl
        | Equal ↦ λ p. rw (not_both o exact k j e.0 h (ap is_eq p)) refl
        | Greater ↦ λ p. ap (cond (is_at (R k) e.0) (Some e.1)) (put_other k j v m h)
      ] refl

  put_here : (k : K) (v : X) (m : List (K × X)) → lookup (is_at (R k)) (insert_entry R m k v) ≡ Some v
  put_here k v [] = rw (self o exact k) refl
  put_here k v (e ∷ m) =
      elim (R k e.0) as (λ r. R k e.0 ≡ r → lookup (is_at (R k)) (match_ordering r ((k, v) ∷ e ∷ m) ((e.0, v) ∷ m) (e ∷ insert_entry R m k v)) ≡ Some v) [
        | Less ↦ λ p. rw (self o exact k) refl
        | Equal ↦ λ p. rw (ap is_eq p) refl
        | Greater ↦ λ p. rw (ap is_eq p) (put_here k v m)
      ] refl

  removed_other : (k j : K) (m : List (K × X)) → is_at (R j) k ≡ false → lookup (is_at (R k)) (remove_entry (is_at (R j)) m) ≡ lookup (is_at (R k)) m
  removed_other k j [] h = refl
  removed_other k j (e ∷ m) h =
      elim (is_at (R j) e.0) as (λ b. is_at (R j) e.0 ≡ b → lookup (is_at (R k)) (cond b m (e ∷ remove_entry (is_at (R j)) m)) ≡ lookup (is_at (R k)) (e ∷ m)) [
        | true ↦ λ p. rw (not_both o exact k j e.0 h p) refl
        | false ↦ λ p. ap (cond (is_at (R k) e.0) (Some e.1)) (removed_other k j m h)
      ] refl

  all_put : (P : K × X → Type 0) (k : K) (v : X) (m : List (K × X)) → P (k, v) → AllByRecursion P m → AllByRecursion P (insert_entry R m k v)
  all_put P k v [] h a = (h, tt)
  all_put P k v (e ∷ m) h a =
      elim (R k e.0) as (λ r. R k e.0 ≡ r → AllByRecursion P (match_ordering r ((k, v) ∷ e ∷ m) ((e.0, v) ∷ m) (e ∷ insert_entry R m k v))) [
        | Less ↦ λ p. (h, a)
        | Equal ↦ λ p. (subst (λ (j : K). P (j, v)) (exact k e.0 p) h, a.1)
        | Greater ↦ λ p. (a.0, all_put P k v m h a.1)
      ] refl

module _ {K X : Type 0} where
  pub all_removed : (P : K × X → Type 0) (test : K → Bool) (m : List (K × X)) → AllByRecursion P m → AllByRecursion P (remove_entry test m)
  all_removed P test [] a = tt
  all_removed P test (e ∷ m) a =
      elim (test e.0) as (λ b. AllByRecursion P (cond b m (e ∷ remove_entry test m))) [
        | true ↦ a.1
        | false ↦ (a.0, all_removed P test m a.1)
      ]

  pub fewer : (test : K → Bool) (m : List (K × X)) → length (remove_entry test m) ≤ length m
  fewer test [] = omega arith
  fewer test (e ∷ m) =
      elim (test e.0) as (λ b. length (cond b m (e ∷ remove_entry test m)) ≤ length (e ∷ m)) [
        | true ↦ omega arith
        | false ↦ omega (arith, fewer test m)
      ]

-- ---- rows by rising key

abbrev pub Rises : {X : Type 0} → MapOf ℤ X → Type 0
Rises es = IsStrictlySortedBy int_cmp (keys_of es)

-- all keys are above k
abbrev Above : {X : Type 0} → ℤ → MapOf ℤ X → Type 0
Above k es = AllByRecursion (λ y. int_cmp k y ≡ Less) (keys_of es)

pub rises_none : IsStrictlySortedBy int_cmp []
unfolding IsStrictlySortedBy
rises_none = tt

pub key_at_itself : (k : ℤ) → is_at (int_cmp k) k ≡ true
key_at_itself k = ap is_eq (tied_itself int_cmp_total k)

greater_back : (a b : ℤ) → int_cmp a b ≡ Greater → int_cmp b a ≡ Less
greater_back a b p = int_cmp_total.antisymm b a ∙ ap ordering_reverse p

pub keys_back : (k j : ℤ) → is_at (int_cmp k) j ≡ false → is_at (int_cmp j) k ≡ false
keys_back k j h = other_way int_cmp_total exact_signed j k h

pub key_is : (k j : ℤ) → is_at (int_cmp k) j ≡ true → k ≡ j
key_is k j h = is_key int_cmp_total exact_signed k j h

module _ {X : Type 0} where
  rises_cons : (e : ℤ × X) (es : MapOf ℤ X) → Above e.0 es → Rises es → Rises (e ∷ es)
  unfolding IsStrictlySortedBy
  rises_cons e es a s = (a, s)

  pub above_head : (e : ℤ × X) (es : MapOf ℤ X) → Rises (e ∷ es) → AllByRecursion (λ y. int_cmp e.0 y ≡ Less) (keys_of es)
  above_head e es s = sorted_head int_cmp e.0 (keys_of es) s

  pub rises_tail : (e : ℤ × X) (es : MapOf ℤ X) → Rises (e ∷ es) → Rises es
  rises_tail e es s = sorted_tail int_cmp e.0 (keys_of es) s

  -- what is above a key is above those below it
  above_lower : (j k : ℤ) (es : MapOf ℤ X) → int_cmp j k ≡ Less → Above k es → Above j es
  above_lower j k [] p a = tt
  above_lower j k (e ∷ es) p a = (int_cmp_total.trans j k e.0 p a.0, above_lower j k es p a.1)

  none_above : (k : ℤ) (m : MapOf ℤ X) → Above k m → lookup (is_at (int_cmp k)) m ≡ None
  none_above k [] a = refl
  none_above k (e ∷ m) a = ap (λ b. cond b (Some e.1) (lookup (is_at (int_cmp k)) m)) (ap is_eq a.0) ∙ none_above k m a.1

  keys_put : (P : ℤ → Type 0) (k : ℤ) (v : X) (m : MapOf ℤ X) → P k → AllByRecursion P (keys_of m) → AllByRecursion P (keys_of (insert_entry int_cmp m k v))
  keys_put P k v [] h a = (h, tt)
  keys_put P k v (e ∷ m) h a =
      elim (int_cmp k e.0) as (λ r. AllByRecursion P (keys_of (match_ordering r ((k, v) ∷ e ∷ m) ((e.0, v) ∷ m) (e ∷ insert_entry int_cmp m k v)))) [
        | Less ↦ (h, a)
        | Equal ↦ a
        | Greater ↦ (a.0, keys_put P k v m h a.1)
      ]

  keys_removed : (P : ℤ → Type 0) (test : ℤ → Bool) (m : MapOf ℤ X) → AllByRecursion P (keys_of m) → AllByRecursion P (keys_of (remove_entry test m))
  keys_removed P test [] a = tt
  keys_removed P test (e ∷ m) a =
      elim (test e.0) as (λ b. AllByRecursion P (keys_of (cond b m (e ∷ remove_entry test m)))) [
        | true ↦ a.1
        | false ↦ (a.0, keys_removed P test m a.1)
      ]

  pub rises_put : (k : ℤ) (v : X) (m : MapOf ℤ X) → Rises m → Rises (insert_entry int_cmp m k v)
  rises_put k v [] s = rises_cons (k, v) [] tt s
  rises_put k v (e ∷ m) s =
      elim (int_cmp k e.0) as (λ r. int_cmp k e.0 ≡ r → Rises (match_ordering r ((k, v) ∷ e ∷ m) ((e.0, v) ∷ m) (e ∷ insert_entry int_cmp m k v))) [
        | Less ↦ λ p. rises_cons (k, v) (e ∷ m) (p, above_lower k e.0 m p (above_head e m s)) s
        | Equal ↦ λ p. rises_cons (e.0, v) m (above_head e m s) (rises_tail e m s)
        | Greater ↦ λ p. rises_cons e (insert_entry int_cmp m k v) (keys_put (λ y. int_cmp e.0 y ≡ Less) k v m (greater_back k e.0 p) (above_head e m s)) (rises_put k v m (rises_tail e m s))
      ] refl

  pub rises_removed : (test : ℤ → Bool) (m : MapOf ℤ X) → Rises m → Rises (remove_entry test m)
  rises_removed test [] s = s
  rises_removed test (e ∷ m) s =
      elim (test e.0) as (λ b. Rises (cond b m (e ∷ remove_entry test m))) [
        | true ↦ rises_tail e m s
        | false ↦ rises_cons e (remove_entry test m) (keys_removed (λ y. int_cmp e.0 y ≡ Less) test m (above_head e m s)) (rises_removed test m (rises_tail e m s))
      ]

  keys_filtered : (P : ℤ → Type 0) (test : ℤ × X → Bool) (m : MapOf ℤ X) → AllByRecursion P (keys_of m) → AllByRecursion P (keys_of (filter test m))
  keys_filtered P test [] a = tt
  keys_filtered P test (e ∷ m) a =
      elim (test e) as (λ b. AllByRecursion P (keys_of (cond b (e ∷ filter test m) (filter test m)))) [
        | true ↦ (a.0, keys_filtered P test m a.1)
        | false ↦ keys_filtered P test m a.1
      ]

  pub rises_filtered : (test : ℤ × X → Bool) (m : MapOf ℤ X) → Rises m → Rises (filter test m)
  rises_filtered test [] s = s
  rises_filtered test (e ∷ m) s =
      elim (test e) as (λ b. Rises (cond b (e ∷ filter test m) (filter test m))) [
        | true ↦ rises_cons e (filter test m) (keys_filtered (λ y. int_cmp e.0 y ≡ Less) test m (above_head e m s)) (rises_filtered test m (rises_tail e m s))
        | false ↦ rises_filtered test m (rises_tail e m s)
      ]

  -- the row that is removed is gone
  pub row_gone : (k : ℤ) (m : MapOf ℤ X) → Rises m → lookup (is_at (int_cmp k)) (remove_entry (is_at (int_cmp k)) m) ≡ None
  row_gone k [] s = refl
  row_gone k (e ∷ m) s =
      elim (is_at (int_cmp k) e.0) as (λ b. is_at (int_cmp k) e.0 ≡ b → lookup (is_at (int_cmp k)) (cond b m (e ∷ remove_entry (is_at (int_cmp k)) m)) ≡ None) [
        | true ↦ λ p. none_above k m (subst (λ j. Above j m) (sym (exact_signed k e.0 (equal_is (int_cmp k e.0) p))) (above_head e m s))
        | false ↦ λ p. ap (λ b. cond b (Some e.1) (lookup (is_at (int_cmp k)) (remove_entry (is_at (int_cmp k)) m))) p ∙ row_gone k m (rises_tail e m s)
      ] refl

  pub row_gone_other : (k j : ℤ) (m : MapOf ℤ X) → is_at (int_cmp j) k ≡ false → lookup (is_at (int_cmp k)) (remove_entry (is_at (int_cmp j)) m) ≡ lookup (is_at (int_cmp k)) m
  row_gone_other k j m h = removed_other int_cmp_total exact_signed k j m h

  pub row_put : (k : ℤ) (v : X) (m : MapOf ℤ X) → lookup (is_at (int_cmp k)) (insert_entry int_cmp m k v) ≡ Some v
  row_put k v m = put_here int_cmp_total exact_signed k v m

  pub row_put_other : (k j : ℤ) (v : X) (m : MapOf ℤ X) → is_at (int_cmp j) k ≡ false → lookup (is_at (int_cmp k)) (insert_entry int_cmp m j v) ≡ lookup (is_at (int_cmp k)) m
  row_put_other k j v m h = put_other int_cmp_total exact_signed k j v m h

  pub rows_put : (P : ℤ × X → Type 0) (k : ℤ) (v : X) (m : MapOf ℤ X) → P (k, v) → AllByRecursion P m → AllByRecursion P (insert_entry int_cmp m k v)
  rows_put P k v m h a = all_put int_cmp_total exact_signed P k v m h a

  -- a row that is there is still there after another is put
  pub row_stays : (k j : ℤ) (v : X) (m : MapOf ℤ X) → is_some (lookup (is_at (int_cmp k)) m) ≡ true → is_some (lookup (is_at (int_cmp k)) (insert_entry int_cmp m j v)) ≡ true
  row_stays k j v m h =
      elim (is_at (int_cmp j) k) as (λ b. is_at (int_cmp j) k ≡ b → is_some (lookup (is_at (int_cmp k)) (insert_entry int_cmp m j v)) ≡ true) [
        | true ↦ λ p. ap is_some (subst (λ i. lookup (is_at (int_cmp i)) (insert_entry int_cmp m j v) ≡ Some v) (exact_signed j k (equal_is (int_cmp j k) p)) (row_put j v m))
        | false ↦ λ p. ap is_some (row_put_other k j v m p) ∙ h
      ] refl

  pub one_more : (k : ℤ) (v : X) (m : MapOf ℤ X) → length (insert_entry int_cmp m k v) ≤ length m + 1
  one_more k v [] = omega arith
  one_more k v (e ∷ m) =
      elim (int_cmp k e.0) as (λ r. length (match_ordering r ((k, v) ∷ e ∷ m) ((e.0, v) ∷ m) (e ∷ insert_entry int_cmp m k v)) ≤ length (e ∷ m) + 1) [
        | Less ↦ omega arith
        | Equal ↦ omega arith
        | Greater ↦ omega (arith, one_more k v m)
      ]

  -- a row in the place of another
  pub as_many : (k : ℤ) (v : X) (m : MapOf ℤ X) → Rises m → is_some (lookup (is_at (int_cmp k)) m) ≡ true → length (insert_entry int_cmp m k v) ≡ length m
  as_many k v [] s h = absurd (true≢false (sym h))
  as_many k v (e ∷ m) s h =
      elim (int_cmp k e.0) as (λ r. int_cmp k e.0 ≡ r → length (match_ordering r ((k, v) ∷ e ∷ m) ((e.0, v) ∷ m) (e ∷ insert_entry int_cmp m k v)) ≡ length (e ∷ m)) [
        | Less ↦ λ p. absurd (true≢false (sym h ∙ ap is_some (none_above k (e ∷ m) (p, above_lower k e.0 m p (above_head e m s)))))
        | Equal ↦ λ p. refl
        | Greater ↦ λ p. ap suc (as_many k v m (rises_tail e m s) (sym (ap (λ b. is_some (cond b (Some e.1) (lookup (is_at (int_cmp k)) m))) (ap is_eq p)) ∙ h))
      ] refl

-- ---- names

module _ {X : Type 0} where
  -- a name that isn't in front of others, and not among them
  not_in_front : (n : Name) (e : Name × X) (m : MapOf Name X) → at_name n (e ∷ m) ≡ None → (at n e.0 ≡ false) × (at_name n m ≡ None)
  not_in_front n e m h = by (at n e.0) refl
    where
      by : (b : Bool) → at n e.0 ≡ b → (at n e.0 ≡ false) × (at_name n m ≡ None)
      by true p = some_none e.1 (sym (ap (λ b. cond b (Some e.1) (lookup (at n) m)) p) ∙ h)
      by false p = (p, sym (ap (λ b. cond b (Some e.1) (lookup (at n) m)) p) ∙ h)

  -- a change where no such name is
  unchanged : (n : Name) (f : X → X) (m : MapOf Name X) → at_name n m ≡ None → change_at n f m ≡ m
  unchanged n f [] h = refl
  unchanged n f (e ∷ m) h =
      let p = not_in_front n e m h in
      ap (λ b. cond b (e.0, f e.1) e ∷ change_at n f m) p.0 ∙ ap (λ l. e ∷ l) (unchanged n f m p.1)

  -- a new name, kept apart
  pub apart_insert : (n : Name) (v : X) (m : MapOf Name X) → AreApart m → at_name n m ≡ None → AreApart (insert_entry name_cmp m n v)
  apart_insert n v [] a h = (refl, tt)
  apart_insert n v (e ∷ m) a h =
      let p = not_in_front n e m h in
      elim (name_cmp n e.0) as (λ r. name_cmp n e.0 ≡ r → AreApart (match_ordering r ((n, v) ∷ e ∷ m) ((e.0, v) ∷ m) (e ∷ insert_entry name_cmp m n v))) [
        | Less ↦ λ q. (h, a)
        | Equal ↦ λ q. absurd (true≢false (sym (ap is_eq q) ∙ p.0))
        | Greater ↦ λ q. (inserted_other e.0 n v m p.0 ∙ a.0, apart_insert n v m a.1 p.1)
      ] refl

  pub all_insert : (P : Name × X → Type 0) (n : Name) (v : X) (m : MapOf Name X) → P (n, v) → AllByRecursion P m → AllByRecursion P (insert_entry name_cmp m n v)
  all_insert P n v m h a = all_put nat_list_cmp_total exact_bytes P n v m h a

  name_changed : (n k : Name) (f : X → X) (m : MapOf Name X) → at_name k m ≡ None → at_name k (change_at n f m) ≡ None
  name_changed n k f [] h = refl
  name_changed n k f (e ∷ m) h =
      let p = not_in_front k e m h in
      elim (at n e.0) as (λ b. lookup (at k) ((cond b (e.0, f e.1) e) ∷ change_at n f m) ≡ None) [
        | true ↦ ap (λ b. cond b (Some (f e.1)) (lookup (at k) (change_at n f m))) p.0 ∙ name_changed n k f m p.1
        | false ↦ ap (λ b. cond b (Some e.1) (lookup (at k) (change_at n f m))) p.0 ∙ name_changed n k f m p.1
      ]

  pub apart_change : (n : Name) (f : X → X) (m : MapOf Name X) → AreApart m → AreApart (change_at n f m)
  apart_change n f [] a = tt
  apart_change n f (e ∷ m) a =
      elim (at n e.0) as (λ b. AreApart ((cond b (e.0, f e.1) e) ∷ change_at n f m)) [
        | true ↦ (name_changed n e.0 f m a.0, apart_change n f m a.1)
        | false ↦ (name_changed n e.0 f m a.0, apart_change n f m a.1)
      ]

  -- what each value keeps that is changed, all keep
  pub all_change : (P : X → Type 0) (n : Name) (f : X → X) (m : MapOf Name X) → ((x : X) → P x → P (f x)) → AllByRecursion (λ e. P e.1) m → AllByRecursion (λ e. P e.1) (change_at n f m)
  all_change P n f [] g a = tt
  all_change P n f (e ∷ m) g a =
      elim (at n e.0) as (λ b. AllByRecursion (λ e. P e.1) ((cond b (e.0, f e.1) e) ∷ change_at n f m)) [
        | true ↦ (g e.1 a.0, all_change P n f m g a.1)
        | false ↦ (a.0, all_change P n f m g a.1)
      ]

  -- the first is at the name, or what is at the name stands behind it
  in_front : (n : Name) (x : X) (e : Name × X) (m : MapOf Name X) → at n e.0 ≡ true → at_name n (e ∷ m) ≡ Some x → e.1 ≡ x
  in_front n x e m q here = some_is e.1 x (sym (ap (λ b. cond b (Some e.1) (lookup (at n) m)) q) ∙ here)

  further : (n : Name) (x : X) (e : Name × X) (m : MapOf Name X) → at n e.0 ≡ false → at_name n (e ∷ m) ≡ Some x → at_name n m ≡ Some x
  further n x e m q here = sym (ap (λ b. cond b (Some e.1) (lookup (at n) m)) q) ∙ here

  -- where the first is at the name, nothing else changes
  changed_front : (n : Name) (f : X → X) (e : Name × X) (m : MapOf Name X) → at n e.0 ≡ true → AreApart (e ∷ m) → change_at n f (e ∷ m) ≡ (e.0, f e.1) ∷ m
  changed_front n f e m q a =
      let none : at_name n m ≡ None = subst (λ (k : Name). at_name k m ≡ None) (sym (at_is n e.0 q)) a.0 in
      ap (λ b. cond b (e.0, f e.1) e ∷ change_at n f m) q ∙ ap (λ l. (e.0, f e.1) ∷ l) (unchanged n f m none)

  changed_behind : (n : Name) (f : X → X) (e : Name × X) (m : MapOf Name X) → at n e.0 ≡ false → change_at n f (e ∷ m) ≡ e ∷ change_at n f m
  changed_behind n f e m q = ap (λ b. cond b (e.0, f e.1) e ∷ change_at n f m) q

  -- what is known of the one value that is changed, and of all others
  pub holds_change : (P : X → Type 0) (n : Name) (f : X → X) (x : X) (m : MapOf Name X) → AreApart m → at_name n m ≡ Some x → P (f x) → AllByRecursion (λ e. P e.1) m → AllByRecursion (λ e. P e.1) (change_at n f m)
  holds_change P n f x [] a here h all = some_none x (sym here)
  holds_change P n f x (e ∷ m) a here h all =
      elim (at n e.0) as (λ b. at n e.0 ≡ b → AllByRecursion (λ e. P e.1) (change_at n f (e ∷ m))) [
        | true ↦ λ q. subst (AllByRecursion (λ (e : Name × X). P e.1)) (sym (changed_front n f e m q a)) (subst (λ (y : X). P (f y)) (sym (in_front n x e m q here)) h, all.1)
        | false ↦ λ q. subst (AllByRecursion (λ (e : Name × X). P e.1)) (sym (changed_behind n f e m q)) (all.0, holds_change P n f x m a.1 (further n x e m q here) h all.1)
      ] refl

  pub at_holds : (P : X → Type 0) (n : Name) (x : X) (m : MapOf Name X) → at_name n m ≡ Some x → AllByRecursion (λ e. P e.1) m → P x
  at_holds P n x [] here all = some_none x (sym here)
  at_holds P n x (e ∷ m) here all =
      elim (at n e.0) as (λ b. at n e.0 ≡ b → P x) [
        | true ↦ λ q. subst P (in_front n x e m q here) all.0
        | false ↦ λ q. at_holds P n x m (further n x e m q here) all.1
      ] refl

  name_removed : (n k : Name) (m : MapOf Name X) → at_name k m ≡ None → at_name k (remove_entry (at n) m) ≡ None
  name_removed n k [] h = refl
  name_removed n k (e ∷ m) h =
      let p = not_in_front k e m h in
      elim (at n e.0) as (λ b. lookup (at k) (cond b m (e ∷ remove_entry (at n) m)) ≡ None) [
        | true ↦ p.1
        | false ↦ ap (λ b. cond b (Some e.1) (lookup (at k) (remove_entry (at n) m))) p.0 ∙ name_removed n k m p.1
      ]

  pub apart_removed : (n : Name) (m : MapOf Name X) → AreApart m → AreApart (remove_entry (at n) m)
  apart_removed n [] a = tt
  apart_removed n (e ∷ m) a =
      elim (at n e.0) as (λ b. AreApart (cond b m (e ∷ remove_entry (at n) m))) [
        | true ↦ a.1
        | false ↦ (name_removed n e.0 m a.0, apart_removed n m a.1)
      ]

  -- the name that is removed is gone
  pub name_gone : (n : Name) (m : MapOf Name X) → AreApart m → at_name n (remove_entry (at n) m) ≡ None
  name_gone n [] a = refl
  name_gone n (e ∷ m) a =
      elim (at n e.0) as (λ b. at n e.0 ≡ b → lookup (at n) (cond b m (e ∷ remove_entry (at n) m)) ≡ None) [
        | true ↦ λ q. subst (λ (k : Name). at_name k m ≡ None) (sym (at_is n e.0 q)) a.0
        | false ↦ λ q. ap (λ b. cond b (Some e.1) (lookup (at n) (remove_entry (at n) m))) q ∙ name_gone n m a.1
      ] refl
