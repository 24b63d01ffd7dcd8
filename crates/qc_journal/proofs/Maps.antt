-- What a name has in a map after a change.
use Rattle.std.proofs.Common.{◌≡◌, Bool, true, false, cond, [], ◌∷◌, refl, ap, sym, ◌∙◌}
use Rattle.std.specs.Prelude.{Option, Some, None, IsSome, bytes_eq}
use Rattle.std.specs.Ordering.{is_eq, match_ordering}
use Rattle.std.specs.declared.cmp.Ordering.TheVariants.{Less, Equal, Greater}
use Rattle.std.specs.BTreeMap.{insert_entry, is_at}
use Rattle.std.specs.Map.{set_value}
use Rattle.std.proofs.lemmas.Bool.{false≢true}
use Rattle.std.proofs.lemmas.Map.Lookups.{exact_bytes}
use Rattle.std.proofs.lemmas.Map.Text.{is_eq-slice_cmp}
use Rattle.qc_sql.specs.Database.{Name, MapOf, name_cmp, at_name}
use Rattle.qc_table.proofs.Maps.{equal_is}

abbrev at : Name → Name → Bool
at n k = is_at (name_cmp n) k

-- what finds a key is its name
same_name : (n k : Name) → at n k ≡ true → n ≡ k
same_name n k e = exact_bytes n k (equal_is (name_cmp n k) e)

at-is : (q name : Name) → at q name ≡ bytes_eq q name
at-is q name = is_eq-slice_cmp q name

-- equal names are one name
pub same_bytes : (a b : Name) → bytes_eq a b ≡ true → a ≡ b
same_bytes a b e = same_name a b (at-is a b ∙ e)

-- a key that another name finds is not found by this one
apart : (q name k : Name) → at name k ≡ false → bytes_eq q name ≡ true → at q k ≡ false
apart q name k others e = ap (λ n. at n k) (same_bytes q name e) ∙ others

-- ---- what a name has after a change

exchange : {X : Type 0} (a b : Bool) → (b ≡ true → a ≡ false) → (x y z : X) → cond a x (cond b y z) ≡ cond b y (cond a x z)
exchange true true never x y z = absurd (false≢true (sym (never refl)))
exchange true false never x y z = refl
exchange false b never x y z = refl

twice : {X : Type 0} (b : Bool) (x y z : X) → cond b x z ≡ cond b x (cond b y z)
twice true x y z = refl
twice false x y z = refl

-- the value at a key of the name's, in place of another
over : {X : Type 0} (q name k : Name) (v u : X) (rest : Option X) → at name k ≡ true → cond (at q k) (Some v) rest ≡ cond (bytes_eq q name) (Some v) (cond (at q k) (Some u) rest)
over q name k v u rest here =
    let same : at q k ≡ bytes_eq q name = ap (at q) (sym (same_name name k here)) ∙ at-is q name in
    rw same (twice (bytes_eq q name) (Some v) (Some u) rest)

pub at_name-insert : {X : Type 0} (q name : Name) (v : X) (m : MapOf Name X) → at_name q (insert_entry name_cmp m name v) ≡ cond (bytes_eq q name) (Some v) (at_name q m)
at_name-insert q name v [] = ap (λ b. cond b (Some v) None) (at-is q name)
at_name-insert q name v (e ∷ m) =
    elim (name_cmp name e.0) as (λ r. name_cmp name e.0 ≡ r → at_name q (match_ordering r ((name, v) ∷ e ∷ m) ((e.0, v) ∷ m) (e ∷ insert_entry name_cmp m name v)) ≡ cond (bytes_eq q name) (Some v) (at_name q (e ∷ m))) [
      | Less ↦ λ p. ap (λ b. cond b (Some v) (at_name q (e ∷ m))) (at-is q name)
      | Equal ↦ λ p. over q name e.0 v e.1 (at_name q m) (ap is_eq p)
      | Greater ↦ λ p.
          ap (cond (at q e.0) (Some e.1)) (at_name-insert q name v m)
          ∙ exchange (at q e.0) (bytes_eq q name) (apart q name e.0 (ap is_eq p)) (Some e.1) (Some v) (at_name q m)
    ] refl

pub at_name-set : {X : Type 0} (q name : Name) (w : X) (m : MapOf Name X) → IsSome (at_name name m) → at_name q (set_value (at name) m w) ≡ cond (bytes_eq q name) (Some w) (at_name q m)
at_name-set q name w [] there = absurd (false≢true there)
at_name-set q name w (e ∷ m) there =
    elim (at name e.0) as (λ b. at name e.0 ≡ b → IsSome (cond b (Some e.1) (at_name name m)) → at_name q (cond b ((e.0, w) ∷ m) (e ∷ set_value (at name) m w)) ≡ cond (bytes_eq q name) (Some w) (at_name q (e ∷ m))) [
      | true ↦ λ p _. over q name e.0 w e.1 (at_name q m) p
      | false ↦ λ p there.
          ap (cond (at q e.0) (Some e.1)) (at_name-set q name w m there)
          ∙ exchange (at q e.0) (bytes_eq q name) (apart q name e.0 p) (Some e.1) (Some w) (at_name q m)
    ] refl there
