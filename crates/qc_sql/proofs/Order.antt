-- Operations leave a database in order.
use Rattle.std.proofs.Common.{◌≡◌, Bool, true, false, cond, List, [], ◌∷◌, sym, ap, subst, ◌∙◌, refl, ℤ}
use Rattle.std.specs.Prelude.{is_some}
use Rattle.std.specs.Ordering.{int_cmp, match_ordering, ordering_reverse}
use Rattle.std.specs.declared.cmp.Ordering.{Ordering}
use Rattle.std.specs.declared.cmp.Ordering.TheVariants.{Less, Equal, Greater}
use Rattle.std.specs.List.{AllByRecursion}
use Rattle.std.specs.List.Sorted.{IsStrictlySortedBy}
use Rattle.std.specs.BTreeMap.{insert_entry, is_at}
use Rattle.std.specs.Map.{keys_of, values_of, remove_entry}
use Rattle.std.specs.Cmp.{IsTotalOrder}
use Rattle.std.proofs.lemmas.Cmp.{nat_list_cmp_total, int_cmp_total}
use Rattle.qc_types.specs.declared.names.Value.{Value}
use Rattle.qc_sql.specs.declared.tables.RowOp.{RowOp}
use Rattle.qc_sql.specs.declared.tables.RowOp.TheVariants as op
use Rattle.qc_sql.specs.Database.{Name, name_cmp, MapOf, Table, Tables, Database, no_tables, change_at, key_of, with_row, without_row, tables_of, apply_one}
use Rattle.qc_sql.specs.Order.{RowsRise, AreOrdered, IsOrdered}
use Rattle.qc_sql.specs.Laws.{StaysOrdered}
use Rattle.qc_sql.proofs.Untouched.{at}

-- ---- keys that rise

module _ {K : Type 0} (cmp : K → K → Ordering) (total : IsTotalOrder cmp) where
  back : (a b : K) → cmp a b ≡ Greater → cmp b a ≡ Less
  back a b h = total.antisymm b a ∙ ap ordering_reverse h

  all_more : (a b : K) (ks : List K) → cmp a b ≡ Less → AllByRecursion (λ k. cmp b k ≡ Less) ks → AllByRecursion (λ k. cmp a k ≡ Less) ks
  all_more a b [] p h = tt
  all_more a b (k ∷ ks) p h = (total.trans a b k p h.0, all_more a b ks p h.1)

module _ {K X : Type 0} (cmp : K → K → Ordering) where
  all_inserted : (a u : K) (v : X) (es : List (K × X)) → cmp a u ≡ Less → AllByRecursion (λ k. cmp a k ≡ Less) (keys_of es) → AllByRecursion (λ k. cmp a k ≡ Less) (keys_of (insert_entry cmp es u v))
  all_inserted a u v [] p h = (p, tt)
  all_inserted a u v (e ∷ es) p h =
      elim (cmp u e.0) as (λ r. AllByRecursion (λ k. cmp a k ≡ Less) (keys_of (match_ordering r ((u, v) ∷ e ∷ es) ((e.0, v) ∷ es) (e ∷ insert_entry cmp es u v)))) [
        | Less ↦ (p, h)
        | Equal ↦ (h.0, h.1)
        | Greater ↦ (h.0, all_inserted a u v es p h.1)
      ]

module _ {K X : Type 0} where
  all_removed : (P : K → Type 0) (test : K → Bool) (es : List (K × X)) → AllByRecursion P (keys_of es) → AllByRecursion P (keys_of (remove_entry test es))
  all_removed P test [] h = tt
  all_removed P test (e ∷ es) h =
      elim (test e.0) as (λ b. AllByRecursion P (keys_of (cond b es (e ∷ remove_entry test es)))) [
        | true ↦ h.1
        | false ↦ (h.0, all_removed P test es h.1)
      ]

  pub rises_removed : (cmp : K → K → Ordering) (test : K → Bool) (es : List (K × X)) → IsStrictlySortedBy cmp (keys_of es) → IsStrictlySortedBy cmp (keys_of (remove_entry test es))
  unfolding IsStrictlySortedBy
  rises_removed cmp test [] h = tt
  rises_removed cmp test (e ∷ es) h =
      elim (test e.0) as (λ b. IsStrictlySortedBy cmp (keys_of (cond b es (e ∷ remove_entry test es)))) [
        | true ↦ h.1
        | false ↦ (all_removed (λ k. cmp e.0 k ≡ Less) test es h.0, rises_removed cmp test es h.1)
      ]

module _ {K X : Type 0} (cmp : K → K → Ordering) (total : IsTotalOrder cmp) where
  pub rises_inserted : (u : K) (v : X) (es : List (K × X)) → IsStrictlySortedBy cmp (keys_of es) → IsStrictlySortedBy cmp (keys_of (insert_entry cmp es u v))
  unfolding IsStrictlySortedBy
  rises_inserted u v [] h = (tt, tt)
  rises_inserted u v (e ∷ es) h =
      elim (cmp u e.0) as (λ r. cmp u e.0 ≡ r → IsStrictlySortedBy cmp (keys_of (match_ordering r ((u, v) ∷ e ∷ es) ((e.0, v) ∷ es) (e ∷ insert_entry cmp es u v)))) [
        | Less ↦ λ p. ((p, all_more cmp total u e.0 (keys_of es) p h.0), h)
        | Equal ↦ λ p. (h.0, h.1)
        | Greater ↦ λ p. (all_inserted cmp e.0 u v es (back cmp total u e.0 p) h.0, rises_inserted u v es h.1)
      ] refl

-- ---- values of which something holds

module _ {K X : Type 0} (P : X → Type 0) where
  pub values_inserted : (cmp : K → K → Ordering) (u : K) (v : X) (es : List (K × X)) → P v → AllByRecursion P (values_of es) → AllByRecursion P (values_of (insert_entry cmp es u v))
  values_inserted cmp u v [] k h = (k, tt)
  values_inserted cmp u v (e ∷ es) k h =
      elim (cmp u e.0) as (λ r. AllByRecursion P (values_of (match_ordering r ((u, v) ∷ e ∷ es) ((e.0, v) ∷ es) (e ∷ insert_entry cmp es u v)))) [
        | Less ↦ (k, h)
        | Equal ↦ (k, h.1)
        | Greater ↦ (h.0, values_inserted cmp u v es k h.1)
      ]

  pub values_removed : (test : K → Bool) (es : List (K × X)) → AllByRecursion P (values_of es) → AllByRecursion P (values_of (remove_entry test es))
  values_removed test [] h = tt
  values_removed test (e ∷ es) h =
      elim (test e.0) as (λ b. AllByRecursion P (values_of (cond b es (e ∷ remove_entry test es)))) [
        | true ↦ h.1
        | false ↦ (h.0, values_removed test es h.1)
      ]

module _ {X : Type 0} where
  pub keys_changed : (u : Name) (f : X → X) (m : MapOf Name X) → keys_of (change_at u f m) ≡ keys_of m
  keys_changed u f [] = refl
  keys_changed u f (e ∷ m) =
      elim (at u e.0) as (λ b. keys_of ((cond b (e.0, f e.1) e) ∷ change_at u f m) ≡ keys_of (e ∷ m)) [
        | true ↦ ap (λ ks. e.0 ∷ ks) (keys_changed u f m)
        | false ↦ ap (λ ks. e.0 ∷ ks) (keys_changed u f m)
      ]

  pub values_changed : (P : X → Type 0) (u : Name) (f : X → X) (m : MapOf Name X) → ((x : X) → P x → P (f x)) → AllByRecursion P (values_of m) → AllByRecursion P (values_of (change_at u f m))
  values_changed P u f [] k h = tt
  values_changed P u f (e ∷ m) k h =
      elim (at u e.0) as (λ b. AllByRecursion P (values_of ((cond b (e.0, f e.1) e) ∷ change_at u f m))) [
        | true ↦ (k e.1 h.0, values_changed P u f m k h.1)
        | false ↦ (h.0, values_changed P u f m k h.1)
      ]

-- ---- databases

row_put : (row : List Value) (t : Table) → RowsRise t → RowsRise (with_row row t)
row_put row t h = rises_inserted int_cmp int_cmp_total (key_of t.columns row) row t.rows h

row_gone : (key : ℤ) (t : Table) → RowsRise t → RowsRise (without_row key t)
row_gone key t h = rises_removed int_cmp (is_at (int_cmp key)) t.rows h

no_rows : (t : Table) → t.rows ≡ [] → RowsRise t
unfolding IsStrictlySortedBy
no_rows t h = subst (λ (es : MapOf ℤ (List Value)). IsStrictlySortedBy int_cmp (keys_of es)) (sym h) tt

no_names : AreOrdered no_tables
unfolding IsStrictlySortedBy
no_names = record { names = tt; rows = tt }

table_changed : (u : Name) (f : Table → Table) (ts : Tables) → ((t : Table) → RowsRise t → RowsRise (f t)) → AreOrdered ts → AreOrdered (change_at u f ts)
table_changed u f ts k h = record {
  names = subst (λ (ks : List Name). IsStrictlySortedBy name_cmp ks) (sym (keys_changed u f ts)) h.names;
  rows = values_changed RowsRise u f ts k h.rows;
}

tables_changed : (u : Name) (f : Tables → Tables) (d : Database) → ((ts : Tables) → AreOrdered ts → AreOrdered (f ts)) → IsOrdered d → IsOrdered (change_at u f d)
tables_changed u f d k h = record {
  names = subst (λ (ks : List Name). IsStrictlySortedBy name_cmp ks) (sym (keys_changed u f d)) h.names;
  tables = values_changed AreOrdered u f d k h.tables;
}

table_inserted : (n : Name) (t : Table) (ts : Tables) → RowsRise t → AreOrdered ts → AreOrdered (insert_entry name_cmp ts n t)
table_inserted n t ts k h = record { names = rises_inserted name_cmp nat_list_cmp_total n t ts h.names; rows = values_inserted RowsRise name_cmp n t ts k h.rows }

table_removed : (n : Name) (ts : Tables) → AreOrdered ts → AreOrdered (remove_entry (at n) ts)
table_removed n ts h = record { names = rises_removed name_cmp (at n) ts h.names; rows = values_removed RowsRise (at n) ts h.rows }

pub one_ordered : (o : RowOp) (d : Database) → IsOrdered d → IsOrdered (apply_one o d)
one_ordered (op.Put t row) d h = tables_changed t.db (change_at t.name (with_row row)) d (λ ts k. table_changed t.name (with_row row) ts (row_put row) k) h
one_ordered (op.Del t key) d h = tables_changed t.db (change_at t.name (without_row key)) d (λ ts k. table_changed t.name (without_row key) ts (row_gone key) k) h
one_ordered (op.CreateTable t columns) d h =
    let made : Table = record { columns = columns; rows = [] } in
    tables_changed t.db (λ ts. insert_entry name_cmp ts t.name made) d (λ ts k. table_inserted t.name made ts (no_rows made refl) k) h
one_ordered (op.DropTable t) d h = tables_changed t.db (remove_entry (at t.name)) d (λ ts k. table_removed t.name ts k) h
one_ordered (op.CreateDb name) d h =
    elim (is_some (tables_of name d)) as (λ b. IsOrdered (cond b d (insert_entry name_cmp d name no_tables))) [
      | true ↦ h
      | false ↦ record { names = rises_inserted name_cmp nat_list_cmp_total name no_tables d h.names; tables = values_inserted AreOrdered name_cmp name no_tables d no_names h.tables }
    ]
one_ordered (op.DropDb name) d h = record { names = rises_removed name_cmp (at name) d h.names; tables = values_removed AreOrdered (at name) d h.tables }

pub stays_ordered : StaysOrdered
stays_ordered [] d h = h
stays_ordered (o ∷ ops) d h = stays_ordered ops (apply_one o d) (one_ordered o d h)
