-- A row's index is told exactly where its key is there.
use Rattle.std.proofs.Common.{◌≡◌, ◌∙◌, refl, ℕ, ℤ, Bool, true, false, cond, List, [], ◌∷◌, sym, ap, subst, Option, length, zero, suc}
use Rattle.std.specs.Prelude.{Some, None, is_some, MatchOption, ◌<◌}
use Rattle.std.specs.List.{slice_get}
use Rattle.std.specs.Map.{keys_of, lookup}
use Rattle.std.specs.BTreeMap.{is_at}
use Rattle.std.specs.Ordering.{int_cmp, is_eq, ordering_reverse}
use Rattle.std.specs.declared.cmp.Ordering.{Ordering}
use Rattle.std.specs.declared.cmp.Ordering.TheVariants.{Less, Equal, Greater}
use Rattle.std.proofs.lemmas.Cmp.{int_cmp_total}
use Rattle.qc_types.specs.declared.names.Value.{Value}
use Rattle.qc_sql.specs.Database.{MapOf}

pub is_itself : (a : ℤ) → is_eq (int_cmp a a) ≡ true
is_itself a = by (int_cmp a a) refl
  where
    by : (r : Ordering) → int_cmp a a ≡ r → is_eq (int_cmp a a) ≡ true
    by Equal p = ap is_eq p
    by Less p = let q : int_cmp a a ≡ Greater = int_cmp_total.antisymm a a ∙ ap ordering_reverse p in absurd cc
    by Greater p = let q : int_cmp a a ≡ Less = int_cmp_total.antisymm a a ∙ ap ordering_reverse p in absurd cc

key_there : (key : ℤ) (rows : MapOf ℤ (List Value)) (i : ℕ) → Some key ≡ slice_get (keys_of rows) i → is_some (lookup (is_at (int_cmp key)) rows) ≡ true
key_there key [] i h = absurd cc
key_there key (e ∷ rows) zero h =
    let same : key ≡ e.0 = cc in
    let p : is_eq (int_cmp key e.0) ≡ true = subst (λ (k : ℤ). is_eq (int_cmp key k) ≡ true) same (is_itself key) in
    rw p refl
key_there key (e ∷ rows) (suc i) h = by (is_eq (int_cmp key e.0)) (key_there key rows i h)
  where
    by : (b : Bool) → is_some (lookup (is_at (int_cmp key)) rows) ≡ true → is_some (cond b (Some e.1) (lookup (is_at (int_cmp key)) rows)) ≡ true
    by true later = refl
    by false later = later

pub found_is : (o : Option ℕ) (key : ℤ) (rows : MapOf ℤ (List Value)) → MatchOption o (lookup (is_at (int_cmp key)) rows ≡ None) (λ i. (i < length rows) × (Some key ≡ slice_get (keys_of rows) i))
    → is_some o ≡ is_some (lookup (is_at (int_cmp key)) rows)
found_is None key rows h = ap is_some (sym h)
found_is (Some i) key rows h = sym (key_there key rows i h.1)
