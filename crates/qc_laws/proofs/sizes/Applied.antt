-- A bounded database stays so under operations that store only what is bounded.
use Rattle.std.proofs.Common.{◌≡◌, ℤ, Bool, true, false, cond, List, [], ◌∷◌, refl}
use Rattle.std.specs.Prelude.{is_some}
use Rattle.std.specs.List.{list_all}
use Rattle.std.specs.Ordering.{int_cmp, match_ordering}
use Rattle.std.specs.declared.cmp.Ordering.{Ordering}
use Rattle.std.specs.declared.cmp.Ordering.TheVariants.{Less, Equal, Greater}
use Rattle.std.specs.BTreeMap.{insert_entry, is_at}
use Rattle.std.specs.Map.{remove_entry}
use Rattle.std.proofs.lemmas.Bool.{and_parts, and_from}
use Rattle.qc_types.specs.declared.names.Value.{Value}
use Rattle.qc_sql.specs.declared.tables.RowOp.{RowOp}
use Rattle.qc_sql.specs.declared.tables.RowOp.TheVariants as op
use Rattle.qc_sql.specs.Database.{Name, MapOf, Database, Table, tables_of, name_cmp, key_of, no_tables, change_at, with_row, without_row, apply_one}
use Rattle.qc_laws.specs.sizes.Replies.{are_bounded_columns, is_bounded_row, is_bounded_table, is_bounded_database, is_bounded_operation}
use Rattle.qc_laws.specs.sizes.Laws.{DatabasesStayBounded}
use Rattle.qc_laws.proofs.sizes.Tables.{are_bounded_tables}

-- ---- maps of which each value passes a test

module _ {X : Type 0} (t : X → Bool) where
  abbrev pass : {K : Type 0} → List (K × X) → Bool
  pass m = list_all (λ e. t e.1) m

  changed_pass : (name : Name) (f : X → X) → ((x : X) → t x ≡ true → t (f x) ≡ true) → (m : MapOf Name X) → pass m ≡ true → pass (change_at name f m) ≡ true
  changed_pass name f k [] h = refl
  changed_pass name f k (e ∷ es) h =
      let parts = and_parts (t e.1) (pass es) h in
      and_from (t (cond (is_at (name_cmp name) e.0) (e.0, f e.1) e).1) (pass (change_at name f es)) (by (is_at (name_cmp name) e.0) parts.0) (changed_pass name f k es parts.1)
    where
      by : (b : Bool) → t e.1 ≡ true → t (cond b (e.0, f e.1) e).1 ≡ true
      by true g = k e.1 g
      by false g = g

  inserted_pass : {K : Type 0} (cmp : K → K → Ordering) (m : List (K × X)) (key : K) (x : X) → t x ≡ true → pass m ≡ true → pass (insert_entry cmp m key x) ≡ true
  inserted_pass cmp [] key x g h = and_from (t x) true g refl
  inserted_pass cmp (e ∷ es) key x g h =
      let parts = and_parts (t e.1) (pass es) h in
      by (cmp key e.0) parts.0 parts.1 (inserted_pass cmp es key x g parts.1)
    where
      by : (o : Ordering) → t e.1 ≡ true → pass es ≡ true → pass (insert_entry cmp es key x) ≡ true
          → pass (match_ordering o ((key, x) ∷ e ∷ es) ((e.0, x) ∷ es) (e ∷ insert_entry cmp es key x)) ≡ true
      by Less here later inserted = and_from (t x) (pass (e ∷ es)) g h
      by Equal here later inserted = and_from (t x) (pass es) g later
      by Greater here later inserted = and_from (t e.1) (pass (insert_entry cmp es key x)) here inserted

  removed_pass : {K : Type 0} (test : K → Bool) (m : List (K × X)) → pass m ≡ true → pass (remove_entry test m) ≡ true
  removed_pass test [] h = refl
  removed_pass test (e ∷ es) h =
      let parts = and_parts (t e.1) (pass es) h in
      by (test e.0) parts.0 parts.1 (removed_pass test es parts.1)
    where
      by : (b : Bool) → t e.1 ≡ true → pass es ≡ true → pass (remove_entry test es) ≡ true → pass (cond b es (e ∷ remove_entry test es)) ≡ true
      by true here later removed = later
      by false here later removed = and_from (t e.1) (pass (remove_entry test es)) here removed

-- ---- tables

with_rows : (t : Table) (rows : MapOf ℤ (List Value)) → is_bounded_table t ≡ true → pass is_bounded_row rows ≡ true → is_bounded_table (record { columns = t.columns; rows = rows }) ≡ true
with_rows t rows h g = and_from (are_bounded_columns t.columns) (pass is_bounded_row rows) (and_parts (are_bounded_columns t.columns) (pass is_bounded_row t.rows) h).0 g

rows_pass : (t : Table) → is_bounded_table t ≡ true → pass is_bounded_row t.rows ≡ true
rows_pass t h = (and_parts (are_bounded_columns t.columns) (pass is_bounded_row t.rows) h).1

put_bounded : (row : List Value) → is_bounded_row row ≡ true → (t : Table) → is_bounded_table t ≡ true → is_bounded_table (with_row row t) ≡ true
put_bounded row g t h = with_rows t (insert_entry int_cmp t.rows (key_of t.columns row) row) h (inserted_pass is_bounded_row int_cmp t.rows (key_of t.columns row) row g (rows_pass t h))

deleted_bounded : (key : ℤ) (t : Table) → is_bounded_table t ≡ true → is_bounded_table (without_row key t) ≡ true
deleted_bounded key t h = with_rows t (remove_entry (is_at (int_cmp key)) t.rows) h (removed_pass is_bounded_row (is_at (int_cmp key)) t.rows (rows_pass t h))

-- ---- operations

one_bounded : (o : RowOp) (d : Database) → is_bounded_operation o ≡ true → is_bounded_database d ≡ true → is_bounded_database (apply_one o d) ≡ true
one_bounded (op.Put t row) d g h = changed_pass are_bounded_tables t.db (change_at t.name (with_row row)) (λ tables e. changed_pass is_bounded_table t.name (with_row row) (put_bounded row g) tables e) d h
one_bounded (op.Del t key) d g h = changed_pass are_bounded_tables t.db (change_at t.name (without_row key)) (λ tables e. changed_pass is_bounded_table t.name (without_row key) (deleted_bounded key) tables e) d h
one_bounded (op.CreateTable t columns) d g h =
    changed_pass are_bounded_tables t.db (λ tables. insert_entry name_cmp tables t.name (record { columns = columns; rows = [] }))
    (λ tables e. inserted_pass is_bounded_table name_cmp tables t.name (record { columns = columns; rows = [] }) (and_from (are_bounded_columns columns) true g refl) e) d h
one_bounded (op.DropTable t) d g h = changed_pass are_bounded_tables t.db (remove_entry (is_at (name_cmp t.name))) (λ tables e. removed_pass is_bounded_table (is_at (name_cmp t.name)) tables e) d h
one_bounded (op.CreateDb name) d g h = by (is_some (tables_of name d))
  where
    by : (b : Bool) → is_bounded_database (cond b d (insert_entry name_cmp d name no_tables)) ≡ true
    by true = h
    by false = inserted_pass are_bounded_tables name_cmp d name no_tables refl h
one_bounded (op.DropDb name) d g h = removed_pass are_bounded_tables (is_at (name_cmp name)) d h

pub databases_stay_bounded : DatabasesStayBounded
databases_stay_bounded [] d g h = h
databases_stay_bounded (o ∷ os) d g h =
    let parts = and_parts (is_bounded_operation o) (list_all is_bounded_operation os) g in
    databases_stay_bounded os (apply_one o d) parts.1 (one_bounded o d parts.0 h)
