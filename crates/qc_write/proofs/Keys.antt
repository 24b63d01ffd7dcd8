-- Keys that are taken.
use Rattle.std.proofs.Common.{◌≡◌, ℕ, ℤ, ◌<◌, true, false, List, [], ◌∷◌, length, zero, suc, refl, ap, sym, ◌∙◌, subst, Some, None}
use Rattle.std.specs.Prelude.{◌||◌, Option, is_some, MatchOption, cond}
use Rattle.std.specs.Cmp.{int_cmp_is}
use Rattle.std.specs.declared.cmp.Ordering.TheVariants.{Equal}
use Rattle.std.specs.Ordering.{int_cmp, is_eq}
use Rattle.std.specs.List.{list_any, slice_get}
use Rattle.std.specs.BTreeMap.{is_at}
use Rattle.std.specs.BTreeSet.{BTreeSet, contains}
use Rattle.std.specs.Map.{keys_of, lookup}
use Rattle.qc_sql.specs.Database.{MapOf}

-- a set of the keys of a list
abbrev pub HasKeys : BTreeSet ℤ → List ℤ → Type 0
HasKeys s keys = (q : ℤ) → contains int_cmp s q ≡ list_any (λ k. is_eq (int_cmp k q)) keys

-- the same with one key more
pub one_taken : (s n : BTreeSet ℤ) (keys : List ℤ) (key : ℤ) → HasKeys s keys → ((q : ℤ) → contains int_cmp n q ≡ (is_eq (int_cmp key q) || contains int_cmp s q)) → HasKeys n (key ∷ keys)
one_taken s n keys key has more q = more q ∙ ap (λ b. is_eq (int_cmp key q) || b) (has q)

-- ---- the key of a stored row

int_same : (k : ℤ) → is_at (int_cmp k) k ≡ true
int_same k = ap is_eq (sym (int_cmp_is k k Equal refl))

pub there : {X : Type 0} (es : MapOf ℤ X) (i : ℕ) (key : ℤ) → Some key ≡ slice_get (keys_of es) i → is_some (lookup (is_at (int_cmp key)) es) ≡ true
there [] i key h = absurd cc
there (e ∷ es) zero key h =
    let same : key ≡ e.0 = cc in
    let t : is_at (int_cmp key) e.0 ≡ true = subst (λ k. is_at (int_cmp key) k ≡ true) same (int_same key) in
    rw t refl
there (e ∷ es) (suc i) key h = elim (is_at (int_cmp key) e.0) as (λ b. is_some (cond b (Some e.1) (lookup (is_at (int_cmp key)) es)) ≡ true) [ true ↦ refl | false ↦ there es i key h ]

-- whether a table has a key, by its place
pub is_there : {X : Type 0} (es : MapOf ℤ X) (key : ℤ) (r : Option ℕ) → MatchOption r (lookup (is_at (int_cmp key)) es ≡ None) (λ i. (i < length es) × (Some key ≡ slice_get (keys_of es) i)) → is_some r ≡ is_some (lookup (is_at (int_cmp key)) es)
is_there es key None h = sym (ap is_some h)
is_there es key (Some i) h = sym (there es i key h.1)
