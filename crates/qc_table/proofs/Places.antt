-- Where a search among names in order ends.
use Rattle.std.proofs.Common.{◌≡◌, ℕ, ◌<◌, ◌≤◌, [], ◌∷◌, length, get_or, zero, suc, refl, sym, ap, ◌∙◌, arith, subst, Some, None, ℤ, map, map-id, List}
use Rattle.std.specs.Prelude.{Result, Ok, Err, MatchOption, option_map}
use Rattle.std.specs.Ordering.{int_cmp, ordering_index, ordering_reverse}
use Rattle.std.specs.Cmp.{IsTotalOrder}
use Rattle.std.specs.BTreeMap.{is_at}
use Rattle.std.specs.Map.{lookup}
use Rattle.std.specs.declared.cmp.Ordering.{Ordering}
use Rattle.std.specs.declared.cmp.Ordering.TheVariants.{Less, Equal, Greater}
use Rattle.std.specs.List.{slice_get}
use Rattle.std.specs.List.Sorted.{IsStrictlySortedBy, IsSearchInRange, IsBinarySearchResult, IsNonDecreasingBy}
use Rattle.std.specs.Map.{keys_of}
use Rattle.std.specs.Result.{result_ok}
use Rattle.std.proofs.lemmas.Cmp.{nat_list_cmp_total, int_cmp_total, eq_by_cmp_equiv}
use Rattle.std.proofs.lemmas.Map.Keys.{sorted_head, sorted_tail, IsDistinct-from_sorted}
use Rattle.std.proofs.lemmas.Map.Entries.{lookup_from_place, lookup_at_gap}
use Rattle.std.proofs.lemmas.Map.Lookups.{CmpEqualImpliesEq, exact_bytes, exact_signed}
use Rattle.std.proofs.lemmas.Option.{get_or_from_slice_get, slice_get-get_or, slice_get_within}
use Rattle.std.specs.List.{AllByRecursion}
use Rattle.qc_sql.specs.Database.{Name, MapOf, name_cmp, at_name}

-- a list searched by an order, by what f reads of each member
module _ {A K : Type 0} {R : K → K → Ordering} (o : IsTotalOrder R) (exact : CmpEqualImpliesEq R) (f : A → K) where
  reversed : (a b : K) (r : Ordering) → R a b ≡ r → R b a ≡ ordering_reverse r
  reversed a b r p = o.antisymm b a ∙ ap ordering_reverse p

  -- by rising members, the answers don't fall
  answer_rises : (a b key : K) → R a b ≡ Less → ordering_index (R a key) ≤ ordering_index (R b key)
  answer_rises a b key p =
      elim (R a key) as (λ r. R a key ≡ r → ordering_index r ≤ ordering_index (R b key)) [
        | Less ↦ λ q. omega arith
        | Equal ↦ λ q. rw (reversed key b Less (subst (λ n. R n b ≡ Less) (exact a key q) p)) (omega arith)
        | Greater ↦ λ q. rw (reversed key b Less (o.trans key a b (reversed a key Greater q) p)) (omega arith)
      ] refl

  each_later : (key a : K) (es : List A) (j : ℕ) (d : A) → AllByRecursion (λ y. R a y ≡ Less) (map f es) → j < length es → ordering_index (R a key) ≤ ordering_index (R (f (get_or es j d)) key)
  each_later key a [] j d all within = absurd (omega arith)
  each_later key a (e ∷ es) zero d all within = answer_rises a (f e) key all.0
  each_later key a (e ∷ es) (suc j) d all within = each_later key a es j d all.1 (omega arith)

  pub answers_rise : (key : K) (es : List A) → IsStrictlySortedBy R (map f es) → IsNonDecreasingBy (λ e. ordering_index (R (f e) key)) es
  answers_rise key [] s i j d low within = absurd (omega arith)
  answers_rise key (e ∷ es) s zero zero d low within = omega arith
  answers_rise key (e ∷ es) s zero (suc j) d low within = each_later key (f e) es j d (sorted_head R (f e) (map f es) s) (omega arith)
  answers_rise key (e ∷ es) s (suc i) zero d low within = absurd (omega arith)
  answers_rise key (e ∷ es) s (suc i) (suc j) d low within = answers_rise key es (sorted_tail R (f e) (map f es) s) i j d (omega arith) (omega arith)

-- ---- names

abbrev name_back : (a b : Name) (r : Ordering) → name_cmp a b ≡ r → name_cmp b a ≡ ordering_reverse r
name_back a b r p = reversed nat_list_cmp_total exact_bytes (λ (n : Name). n) a b r p

module _ {X : Type 0} where
  abbrev answer : Name → Name × X → Ordering
  answer name e = name_cmp e.0 name

  entry_there : (es : MapOf Name X) (i : ℕ) → i < length es → (e : Name × X) × (slice_get es i ≡ Some e) × (get_or es i e ≡ e)
  entry_there [] i within = absurd (omega arith)
  entry_there (e ∷ es) zero within = (e, refl, refl)
  entry_there (e ∷ es) (suc i) within = entry_there es i (omega arith)

  -- the index is that of the name, or the name has none
  pub searched : (name : Name) (es : MapOf Name X) (r : Result ℕ ℕ) → IsStrictlySortedBy name_cmp (keys_of es) → IsSearchInRange r (length es) → IsBinarySearchResult (answer name) es r
      → MatchOption (result_ok r) (at_name name es ≡ None) (λ i. (i < length es) × (option_map (λ e. e.1) (slice_get es i) ≡ at_name name es))
  searched name es (Ok i) s bound found =
      let there = entry_there es i bound in
      let e = there.0 in
      let is : e.0 ≡ name = exact_bytes e.0 name (subst (λ f. answer name f ≡ Equal) there.2 (found e)) in
      let place = lookup_from_place (eq_by_cmp_equiv nat_list_cmp_total) es i e.0 e.1 (IsDistinct-from_sorted name_cmp (keys_of es) s) there.1 in
      (bound, ap (option_map (λ (f : Name × X). f.1)) there.1 ∙ sym (subst (λ n. at_name n es ≡ Some e.1) is place))
  searched name es (Err i) s bound gap =
      let parts = gap (answers_rise nat_list_cmp_total exact_bytes (λ (e : Name × X). e.0) name es s) in
      lookup_at_gap nat_list_cmp_total name es i s
      (λ j e low at. name_back e.0 name Less (subst (λ f. answer name f ≡ Less) (get_or_from_slice_get es j e e at) (parts.0 j e (omega arith) low)))
      (λ e at. name_back e.0 name Greater (subst (λ f. answer name f ≡ Greater) (get_or_from_slice_get es i e e at) (parts.1 i e (omega arith) (slice_get_within es i e at))))

-- ---- keys

abbrev key_back : (a b : ℤ) (r : Ordering) → int_cmp a b ≡ r → int_cmp b a ≡ ordering_reverse r
key_back a b r p = reversed int_cmp_total exact_signed (λ (k : ℤ). k) a b r p

module _ {X : Type 0} where
  key_of_entry : (es : MapOf ℤ X) (j : ℕ) (e : ℤ × X) → slice_get es j ≡ Some e → slice_get (keys_of es) j ≡ Some e.0
  key_of_entry [] j e at = absurd cc
  key_of_entry (d ∷ es) zero e at = let same : d ≡ e = cc in ap (λ (x : ℤ × X). Some x.0) same
  key_of_entry (d ∷ es) (suc j) e at = key_of_entry es j e at

  -- the index is that of the key, or the key has no entry
  pub found : (key : ℤ) (es : MapOf ℤ X) (r : Result ℕ ℕ) → IsStrictlySortedBy int_cmp (keys_of es) → IsSearchInRange r (length (keys_of es)) → IsBinarySearchResult (λ y. int_cmp y key) (keys_of es) r
      → MatchOption (result_ok r) (lookup (is_at (int_cmp key)) es ≡ None) (λ i. (i < length (keys_of es)) × (Some key ≡ slice_get (keys_of es) i))
  found key es (Ok i) s bound at =
      let is : get_or (keys_of es) i key ≡ key = exact_signed _ key (at key) in
      (bound, sym (slice_get-get_or (keys_of es) i key bound ∙ ap (λ k. Some k) is))
  found key es (Err i) s bound gap =
      let parts = gap (answers_rise int_cmp_total exact_signed (λ (k : ℤ). k) key (keys_of es) (rw map-id s)) in
      lookup_at_gap int_cmp_total key es i s
      (λ j e low at. key_back e.0 key Less (subst (λ k. int_cmp k key ≡ Less) (get_or_from_slice_get (keys_of es) j e.0 e.0 (key_of_entry es j e at)) (parts.0 j e.0 (omega arith) low)))
      (λ e at. key_back e.0 key Greater (subst (λ k. int_cmp k key ≡ Greater) (get_or_from_slice_get (keys_of es) i e.0 e.0 (key_of_entry es i e at)) (parts.1 i e.0 (omega arith) (slice_get_within (keys_of es) i e.0 (key_of_entry es i e at)))))
