-- A table that no operation touches is the same after them.
use Rattle.std.proofs.Common.{◌≡◌, Bool, true, false, cond, List, [], ◌∷◌, refl, sym, ap, subst, ◌∙◌, Option, eq-eqb}
use Rattle.std.specs.Prelude.{◌&&◌, ◌||◌, Some, None, bytes_eq, is_some, option_map, option_and_then}
use Rattle.std.specs.Ordering.{is_eq, match_ordering}
use Rattle.std.specs.declared.cmp.Ordering.{Ordering}
use Rattle.std.specs.declared.cmp.Ordering.TheVariants.{Less, Equal, Greater}
use Rattle.std.specs.FinMap.{slice_cmp-IsAntisymmetric, nat_cmp-IsAntisymmetric}
use Rattle.std.specs.BTreeMap.{insert_entry, is_at}
use Rattle.std.specs.Map.{lookup, remove_entry}
use Rattle.std.proofs.lemmas.Map.Text.{is_eq-slice_cmp}
use Rattle.std.specs.List.{list_any}
use Rattle.qc_types.specs.declared.names.TableName.{TableName}
use Rattle.qc_sql.specs.declared.tables.RowOp.{RowOp}
use Rattle.qc_sql.specs.declared.tables.RowOp.TheVariants as op
use Rattle.qc_sql.specs.Database.{Name, name_cmp, MapOf, Tables, Database, no_tables, at_name, change_at, change_tables, table_of, tables_of, apply, apply_one, same_table, touches}
use Rattle.qc_sql.specs.Laws.{KeepsUntouched}

-- whether a key is a name
abbrev pub at : Name → Name → Bool
at n k = is_at (name_cmp n) k

equal_is : (r : Ordering) → is_eq r ≡ true → r ≡ Equal
equal_is Less e = absurd cc
equal_is Equal e = refl
equal_is Greater e = absurd cc

pub at_is : (n k : Name) → at n k ≡ true → n ≡ k
at_is n k h = slice_cmp-IsAntisymmetric nat_cmp-IsAntisymmetric n k (equal_is (name_cmp n k) h)

-- a name that isn't at t is at no key that t is at
pub not_both : (t u k : Name) → at u t ≡ false → at u k ≡ true → at t k ≡ false
not_both t u k h e = by (at t k) refl
  where
    by : (b : Bool) → at t k ≡ b → at t k ≡ false
    by false p = p
    by true p = let q : at u t ≡ at u k = ap (at u) (at_is t k p) in absurd cc

pub other_way : (t u : Name) → at t u ≡ false → at u t ≡ false
other_way t u h = by (at u t) refl
  where
    by : (b : Bool) → at u t ≡ b → at u t ≡ false
    by false p = p
    by true p = let q : at t u ≡ at u t = subst (λ (z : Name). at z u ≡ at u z) (at_is u t p) refl in absurd cc

module _ {X : Type 0} where
  pub changed_other : (t u : Name) (f : X → X) (m : MapOf Name X) → at u t ≡ false → at_name t (change_at u f m) ≡ at_name t m
  changed_other t u f [] h = refl
  changed_other t u f (e ∷ m) h =
      elim (at u e.0) as (λ b. at u e.0 ≡ b → lookup (at t) ((cond b (e.0, f e.1) e) ∷ change_at u f m) ≡ lookup (at t) (e ∷ m)) [
        | true ↦ λ p. rw (not_both t u e.0 h p) (changed_other t u f m h)
        | false ↦ λ p. ap (cond (at t e.0) (Some e.1)) (changed_other t u f m h)
      ] refl

  pub changed_same : (t : Name) (f : X → X) (m : MapOf Name X) → at_name t (change_at t f m) ≡ option_map f (at_name t m)
  changed_same t f [] = refl
  changed_same t f (e ∷ m) =
      elim (at t e.0) as (λ b. at t e.0 ≡ b → lookup (at t) ((cond b (e.0, f e.1) e) ∷ change_at t f m) ≡ option_map f (cond b (Some e.1) (lookup (at t) m))) [
        | true ↦ λ p. rw p refl
        | false ↦ λ p. rw p (changed_same t f m)
      ] refl

  pub inserted_other : (t u : Name) (v : X) (m : MapOf Name X) → at u t ≡ false → at_name t (insert_entry name_cmp m u v) ≡ at_name t m
  inserted_other t u v [] h = rw (other_way u t h) refl
  inserted_other t u v (e ∷ m) h =
      elim (name_cmp u e.0) as (λ r. name_cmp u e.0 ≡ r → lookup (at t) (match_ordering r ((u, v) ∷ e ∷ m) ((e.0, v) ∷ m) (e ∷ insert_entry name_cmp m u v)) ≡ lookup (at t) (e ∷ m)) [
        | Less ↦ λ p. rw (other_way u t h) refl
        | Equal ↦ λ p. rw (not_both t u e.0 h (ap is_eq p)) refl
        | Greater ↦ λ p. ap (cond (at t e.0) (Some e.1)) (inserted_other t u v m h)
      ] refl

  removed_other : (t u : Name) (m : MapOf Name X) → at u t ≡ false → at_name t (remove_entry (at u) m) ≡ at_name t m
  removed_other t u [] h = refl
  removed_other t u (e ∷ m) h =
      elim (at u e.0) as (λ b. at u e.0 ≡ b → lookup (at t) (cond b m (e ∷ remove_entry (at u) m)) ≡ lookup (at t) (e ∷ m)) [
        | true ↦ λ p. rw (not_both t u e.0 h p) refl
        | false ↦ λ p. ap (cond (at t e.0) (Some e.1)) (removed_other t u m h)
      ] refl

-- ---- tables

in_other_database : (t : TableName) (db : Name) (g : Tables → Tables) (d : Database) → at db t.db ≡ false → table_of t (change_tables db g d) ≡ table_of t d
in_other_database t db g d h = ap (option_and_then (at_name t.name)) (changed_other t.db db g d h)

in_own_database : (t : TableName) (g : Tables → Tables) (d : Database) → ((ts : Tables) → at_name t.name (g ts) ≡ at_name t.name ts) → table_of t (change_tables t.db g d) ≡ table_of t d
in_own_database t g d h = ap (option_and_then (at_name t.name)) (changed_same t.db g d) ∙ by (tables_of t.db d)
  where
    by : (o : Option Tables) → option_and_then (at_name t.name) (option_map g o) ≡ option_and_then (at_name t.name) o
    by None = refl
    by (Some ts) = h ts

-- a change of one table leaves another
changed_elsewhere : (t u : TableName) (g : Tables → Tables) (d : Database) → same_table t u ≡ false
    → ((ts : Tables) → at u.name t.name ≡ false → at_name t.name (g ts) ≡ at_name t.name ts) → table_of t (change_tables u.db g d) ≡ table_of t d
changed_elsewhere t u g d h keeps = by (bytes_eq t.db u.db) refl
  where
    by : (b : Bool) → bytes_eq t.db u.db ≡ b → table_of t (change_tables u.db g d) ≡ table_of t d
    by false p = in_other_database t u.db g d (other_way t.db u.db (is_eq-slice_cmp t.db u.db ∙ p))
    by true p =
        let names : bytes_eq t.name u.name ≡ false = ap (λ b. b && bytes_eq t.name u.name) (sym p) ∙ h in
        let dbs : t.db ≡ u.db = at_is t.db u.db (is_eq-slice_cmp t.db u.db ∙ p) in
        let apart : at u.name t.name ≡ false = other_way t.name u.name (is_eq-slice_cmp t.name u.name ∙ names) in
        subst (λ (n : Name). table_of t (change_tables n g d) ≡ table_of t d) dbs (in_own_database t g d (λ ts. keeps ts apart))

pub bytes_eq_self : (bytes : Name) → bytes_eq bytes bytes ≡ true
bytes_eq_self [] = refl
bytes_eq_self (b ∷ bs) = rw (eq-eqb b b refl) (bytes_eq_self bs)

pub at_self : (n : Name) → at n n ≡ true
at_self n = is_eq-slice_cmp n n ∙ bytes_eq_self n

-- a new key has its value
inserted_new : {X : Type 0} (n : Name) (v : X) (m : MapOf Name X) → at_name n m ≡ None → at_name n (insert_entry name_cmp m n v) ≡ Some v
inserted_new n v [] h = rw (at_self n) refl
inserted_new n v (e ∷ m) h =
    elim (name_cmp n e.0) as (λ r. name_cmp n e.0 ≡ r → lookup (at n) (match_ordering r ((n, v) ∷ e ∷ m) ((e.0, v) ∷ m) (e ∷ insert_entry name_cmp m n v)) ≡ Some v) [
      | Less ↦ λ p. rw (at_self n) refl
      | Equal ↦ λ p. rw (ap is_eq p) refl
      | Greater ↦ λ p. rw (ap is_eq p) (inserted_new n v m (rw (ap is_eq p) at h))
    ] refl

-- a database that is made has no table
created : (t : TableName) (name : Name) (d : Database) (o : Option Tables) → at_name name d ≡ o
    → table_of t (cond (is_some o) d (insert_entry name_cmp d name no_tables)) ≡ table_of t d
created t name d (Some ts) e = refl
created t name d None e = by (at name t.db) refl
  where
    by : (b : Bool) → at name t.db ≡ b → table_of t (insert_entry name_cmp d name no_tables) ≡ table_of t d
    by false p = ap (option_and_then (at_name t.name)) (inserted_other t.db name no_tables d p)
    by true p =
        let new : tables_of name (insert_entry name_cmp d name no_tables) ≡ Some no_tables = inserted_new name no_tables d e in
        subst (λ (n : Name). option_and_then (at_name t.name) (tables_of n (insert_entry name_cmp d name no_tables)) ≡ option_and_then (at_name t.name) (tables_of n d)) (at_is name t.db p)
        (ap (option_and_then (at_name t.name)) new ∙ sym (ap (option_and_then (at_name t.name)) e))

untouched : (t : TableName) (o : RowOp) (d : Database) → touches t o ≡ false → table_of t (apply_one o d) ≡ table_of t d
untouched t (op.Put u row) d h = changed_elsewhere t u _ d h (λ ts a. changed_other t.name u.name _ ts a)
untouched t (op.Del u key) d h = changed_elsewhere t u _ d h (λ ts a. changed_other t.name u.name _ ts a)
untouched t (op.CreateTable u columns) d h = changed_elsewhere t u _ d h (λ ts a. inserted_other t.name u.name _ ts a)
untouched t (op.DropTable u) d h = changed_elsewhere t u _ d h (λ ts a. removed_other t.name u.name ts a)
untouched t (op.CreateDb name) d h = created t name d (at_name name d) refl
untouched t (op.DropDb name) d h = ap (option_and_then (at_name t.name)) (removed_other t.db name d (other_way t.db name (is_eq-slice_cmp t.db name ∙ h)))

neither : (a b : Bool) → (a || b) ≡ false → (a ≡ false) × (b ≡ false)
neither false b h = (refl, h)
neither true b h = absurd cc

untouched_all : (t : TableName) (os : List RowOp) (d : Database) → list_any (touches t) os ≡ false → table_of t (apply os d) ≡ table_of t d
untouched_all t [] d h = refl
untouched_all t (o ∷ os) d h =
    let parts = neither (touches t o) (list_any (touches t) os) h in
    untouched_all t os (apply_one o d) parts.1 ∙ untouched t o d parts.0

pub keeps_untouched : KeepsUntouched
keeps_untouched = untouched_all
