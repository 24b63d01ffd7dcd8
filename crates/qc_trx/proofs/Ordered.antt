-- The columns that operations leave to a table of a database in order, and the rows that they write.
use Rattle.std.proofs.Common.{◌≡◌, Bool, true, false, cond, List, [], ◌∷◌, ◌++◌, refl, sym, ap, subst, ◌∙◌, Option, ◌⊎◌, inl, inr, ℤ, append_assoc}
use Rattle.std.specs.Prelude.{Some, None, bytes_eq, is_some, option_map, option_and_then, ◌&&◌, Result, Ok}
use Rattle.std.specs.Ordering.{is_eq, match_ordering, ordering_reverse}
use Rattle.std.specs.declared.cmp.Ordering.{Ordering}
use Rattle.std.specs.declared.cmp.Ordering.TheVariants.{Less, Equal, Greater}
use Rattle.std.specs.List.{AllByRecursion}
use Rattle.std.specs.BTreeMap.{insert_entry, is_at}
use Rattle.std.specs.List.Sorted.{IsStrictlySortedBy}
use Rattle.std.specs.Map.{keys_of, values_of, lookup, remove_entry}
use Rattle.std.proofs.lemmas.Cmp.{nat_list_cmp_total}
use Rattle.std.proofs.lemmas.Map.Text.{is_eq-slice_cmp}
use Rattle.qc_types.specs.declared.names.TableName.{TableName}
use Rattle.qc_sql.specs.declared.tables.Column.{Column}
use Rattle.qc_sql.specs.declared.tables.RowOp.{RowOp}
use Rattle.qc_sql.specs.declared.tables.RowOp.TheVariants as op
use Rattle.qc_sql.specs.Database.{Name, name_cmp, MapOf, Table, Tables, Database, no_tables, empty_database, at_name, change_at, change_tables, change_table, with_row, without_row, table_of, tables_of, apply, apply_one, same_table, columns_of}
use Rattle.qc_sql.specs.Order.{AreOrdered, IsOrdered}
use Rattle.qc_sql.proofs.Order.{one_ordered, stays_ordered}
use Rattle.qc_sql.proofs.Untouched.{at, at_is, at_self, changed_same}
use Rattle.qc_model.specs.Journal.{Journal, operations, database_after, present}
use Rattle.qc_model.specs.Licence.{ops_fit, op_fits, takes_row}
use Rattle.qc_model.specs.Conflicts.{key_in}
use Rattle.qc_types.specs.declared.names.Value.{Value}
use Rattle.qc_table.specs.Fitting.{fitting}
use Rattle.qc_table.proofs.Fits.{fitted}
use Rattle.qc_trx.specs.declared.progress.Snapshot.{Snapshot}
use Rattle.qc_trx.specs.declared.writes.OwnRow.{OwnRow}
use Rattle.qc_trx.specs.Progresses.{current, IsSeen}
use Rattle.qc_trx.specs.Writes.{columns_left, key_by, own_row, own_rows, row_left, rows_left}
use Rattle.qc_trx.proofs.Columns.{both_true, bytes_same, same_is, put_columns, del_columns, untouched}

-- ---- maps in order

module _ {X : Type 0} where
  none_in : (n : Name) (es : MapOf Name X) → AllByRecursion (λ k. name_cmp n k ≡ Less) (keys_of es) → at_name n es ≡ None
  none_in n [] h = refl
  none_in n (f ∷ es) h = let p : name_cmp n f.0 ≡ Less = h.0 in rw (ap is_eq p) (none_in n es h.1)

  -- a name that is taken out is gone
  gone : (n : Name) (es : MapOf Name X) → IsStrictlySortedBy name_cmp (keys_of es) → at_name n (remove_entry (at n) es) ≡ None
  unfolding IsStrictlySortedBy
  gone n [] h = refl
  gone n (e ∷ es) h =
      elim (at n e.0) as (λ b. at n e.0 ≡ b → lookup (at n) (cond b es (e ∷ remove_entry (at n) es)) ≡ None) [
        | true ↦ λ p. subst (λ (m : Name). at_name m es ≡ None) (sym (at_is n e.0 p)) (none_in e.0 es h.0)
        | false ↦ λ p. rw p (gone n es h.1)
      ] refl

  -- a name that is put in has its value
  inserted_here : (n : Name) (v : X) (es : MapOf Name X) → at_name n (insert_entry name_cmp es n v) ≡ Some v
  inserted_here n v [] = rw (at_self n) refl
  inserted_here n v (e ∷ es) =
      elim (name_cmp n e.0) as (λ r. name_cmp n e.0 ≡ r → lookup (at n) (match_ordering r ((n, v) ∷ e ∷ es) ((e.0, v) ∷ es) (e ∷ insert_entry name_cmp es n v)) ≡ Some v) [
        | Less ↦ λ p. rw (at_self n) refl
        | Equal ↦ λ p. rw (ap is_eq p) refl
        | Greater ↦ λ p. rw (ap is_eq p) (inserted_here n v es)
      ] refl

-- ---- the columns that are left

-- a table that isn't there, or that has these columns
abbrev Left : Option (List Column) → Option (List Column) → Type 0
Left found left = (found ≡ None) ⊎ (found ≡ left)

abbrev shown : Option Table → Option (List Column)
shown o = option_map (λ (x : Table). x.columns) o

stays : (t : TableName) (d e : Database) (left : Option (List Column)) → columns_of t e ≡ columns_of t d → Left (columns_of t d) left → Left (columns_of t e) left
stays t d e left same (inl h) = inl (same ∙ h)
stays t d e left same (inr h) = inr (same ∙ h)

made_columns : (t : TableName) (columns : List Column) (d : Database) → Left (columns_of t (apply_one (op.CreateTable t columns) d)) (Some columns)
made_columns t columns d = by (tables_of t.db d) (changed_same t.db (λ (ts : Tables). insert_entry name_cmp ts t.name (record { columns = columns; rows = [] })) d)
  where
    by : (o : Option Tables) → tables_of t.db (apply_one (op.CreateTable t columns) d) ≡ option_map (λ (ts : Tables). insert_entry name_cmp ts t.name (record { columns = columns; rows = [] })) o → Left (columns_of t (apply_one (op.CreateTable t columns) d)) (Some columns)
    by None h = inl (ap (λ (o : Option Tables). shown (option_and_then (at_name t.name) o)) h)
    by (Some ts) h = inr (ap (λ (o : Option Tables). shown (option_and_then (at_name t.name) o)) h ∙ ap shown (inserted_here t.name (record { columns = columns; rows = [] }) ts))

ordered_there : (n : Name) (e : Database) (ts : Tables) → AllByRecursion AreOrdered (values_of e) → at_name n e ≡ Some ts → AreOrdered ts
ordered_there n [] ts k p = absurd cc
ordered_there n (x ∷ e) ts k p = by (at n x.0) refl (ordered_there n e ts k.1)
  where
    by : (b : Bool) → at n x.0 ≡ b → (at_name n e ≡ Some ts → AreOrdered ts) → AreOrdered ts
    by true q later = let same : Some x.1 ≡ Some ts = rw q at p in let is : x.1 ≡ ts = cc in subst (λ (z : Tables). AreOrdered z) is k.0
    by false q later = let rest : at_name n e ≡ Some ts = rw q at p in later rest

dropped_table : (t : TableName) (d : Database) → IsOrdered d → columns_of t (apply_one (op.DropTable t) d) ≡ None
dropped_table t d h = ap (λ (o : Option Tables). shown (option_and_then (at_name t.name) o)) (changed_same t.db (remove_entry (at t.name)) d) ∙ by (tables_of t.db d) refl
  where
    by : (o : Option Tables) → tables_of t.db d ≡ o → shown (option_and_then (at_name t.name) (option_map (remove_entry (at t.name)) o)) ≡ None
    by None p = refl
    by (Some ts) p = ap shown (gone t.name ts (ordered_there t.db d ts h.tables p).names)

dropped_database : (t : TableName) (d : Database) → IsOrdered d → columns_of t (apply_one (op.DropDb t.db) d) ≡ None
dropped_database t d h = ap (λ (o : Option Tables). shown (option_and_then (at_name t.name) o)) (gone t.db d h.names)

pub one_left : (t : TableName) (o : RowOp) (d : Database) (left : Option (List Column)) → IsOrdered d → Left (columns_of t d) left → Left (columns_of t (apply_one o d)) (columns_left t (o ∷ []) left)
one_left t (op.Put u row) d left h k = stays t d (apply_one (op.Put u row) d) left (put_columns t u row d) k
one_left t (op.Del u key) d left h k = stays t d (apply_one (op.Del u key) d) left (del_columns t u key d) k
one_left t (op.CreateTable u columns) d left h k = by (same_table t u) refl
  where
    by : (b : Bool) → same_table t u ≡ b → Left (columns_of t (apply_one (op.CreateTable u columns) d)) (cond (same_table t u) (Some columns) left)
    by true p = rw p (subst (λ (v : TableName). Left (columns_of t (apply_one (op.CreateTable v columns) d)) (Some columns)) (same_is t u p) (made_columns t columns d))
    by false p = rw p (stays t d (apply_one (op.CreateTable u columns) d) left (untouched t (op.CreateTable u columns) d p) k)
one_left t (op.DropTable u) d left h k = by (same_table t u) refl
  where
    by : (b : Bool) → same_table t u ≡ b → Left (columns_of t (apply_one (op.DropTable u) d)) left
    by true p = inl (subst (λ (v : TableName). columns_of t (apply_one (op.DropTable v) d) ≡ None) (same_is t u p) (dropped_table t d h))
    by false p = stays t d (apply_one (op.DropTable u) d) left (untouched t (op.DropTable u) d p) k
one_left t (op.CreateDb name) d left h k = stays t d (apply_one (op.CreateDb name) d) left (untouched t (op.CreateDb name) d refl) k
one_left t (op.DropDb name) d left h k = by (bytes_eq t.db name) refl
  where
    by : (b : Bool) → bytes_eq t.db name ≡ b → Left (columns_of t (apply_one (op.DropDb name) d)) left
    by true p = inl (subst (λ (n : Name). columns_of t (apply_one (op.DropDb n) d) ≡ None) (bytes_same t.db name p) (dropped_database t d h))
    by false p = stays t d (apply_one (op.DropDb name) d) left (untouched t (op.DropDb name) d p) k

pub left_more : (t : TableName) (done : List RowOp) (o : RowOp) (left : Option (List Column)) → columns_left t (done ++ o ∷ []) left ≡ columns_left t (o ∷ []) (columns_left t done left)
left_more t [] o left = refl
left_more t (op.Put u row ∷ done) o left = left_more t done o left
left_more t (op.Del u key ∷ done) o left = left_more t done o left
left_more t (op.CreateTable u columns ∷ done) o left = left_more t done o (cond (same_table t u) (Some columns) left)
left_more t (op.DropTable u ∷ done) o left = left_more t done o left
left_more t (op.CreateDb name ∷ done) o left = left_more t done o left
left_more t (op.DropDb name ∷ done) o left = left_more t done o left

-- ---- the rows that operations write

key_left : (o : Option Table) (left : Option (List Column)) (row : List Value) → takes_row o row ≡ true → Left (shown o) left → key_by left row ≡ key_in o row
key_left None left row f h = absurd cc
key_left (Some x) left row f (inl e) = absurd cc
key_left (Some x) left row f (inr e) = rw (← e) refl

row_is : (done : List RowOp) (o : RowOp) (d e : Database) → ((t : TableName) → Left (columns_of t e) (columns_left t done (columns_of t d))) → op_fits o e ≡ true → row_left done o d ≡ own_row o e
row_is done (op.Put t row) d e h f = ap (λ (k : ℤ). Some (record { table = t; key = k })) (key_left (table_of t e) (columns_left t done (columns_of t d)) row f (h t))
row_is done (op.Del t key) d e h f = refl
row_is done (op.CreateTable t columns) d e h f = refl
row_is done (op.DropTable t) d e h f = refl
row_is done (op.CreateDb name) d e h f = refl
row_is done (op.DropDb name) d e h f = refl

rows_from : (done os : List RowOp) (d e : Database) → IsOrdered e → ((t : TableName) → Left (columns_of t e) (columns_left t done (columns_of t d))) → ops_fit os e ≡ true → rows_left done os d ≡ own_rows os e
rows_from done [] d e ord h f = refl
rows_from done (o ∷ os) d e ord h f =
    let parts = both_true (op_fits o e) (ops_fit os (apply_one o e)) f in
    let here : row_left done o d ≡ own_row o e = row_is done o d e h parts.0 in
    let on = λ (t : TableName). subst (λ (left : Option (List Column)). Left (columns_of t (apply_one o e)) left) (sym (left_more t done o (columns_of t d))) (one_left t o e (columns_left t done (columns_of t d)) ord (h t)) in
    let there : rows_left (done ++ o ∷ []) os d ≡ own_rows os (apply_one o e) = rows_from (done ++ o ∷ []) os d (apply_one o e) (one_ordered o e ord) on parts.1 in
    cc

pub rows_are : (os : List RowOp) (d : Database) → IsOrdered d → ops_fit os d ≡ true → rows_left [] os d ≡ own_rows os d
rows_are os d ord f = rows_from [] os d d ord (λ t. inr refl) f

-- ---- more operations

pub apply_more : (xs ys : List RowOp) (d : Database) → apply (xs ++ ys) d ≡ apply ys (apply xs d)
apply_more [] ys d = refl
apply_more (x ∷ xs) ys d = apply_more xs ys (apply_one x d)

pub fit_more : (xs ys : List RowOp) (d : Database) → ops_fit xs d ≡ true → ops_fit ys (apply xs d) ≡ true → ops_fit (xs ++ ys) d ≡ true
fit_more [] ys d h k = k
fit_more (x ∷ xs) ys d h k =
    let parts = both_true (op_fits x d) (ops_fit xs (apply_one x d)) h in
    rw parts.0 (fit_more xs ys (apply_one x d) parts.1 k)

own_more : (xs ys : List RowOp) (d : Database) → own_rows (xs ++ ys) d ≡ own_rows xs d ++ own_rows ys (apply xs d)
own_more [] ys d = refl
own_more (x ∷ xs) ys d = ap (λ rows. own_row x d ∷ rows) (own_more xs ys (apply_one x d))

pub seen_more : (s : Snapshot) (own ops : List RowOp) (rows more : List (Option OwnRow)) (next : Database) → IsSeen s own rows → ops_fit ops (apply own s.origin) ≡ true
    → fitting (apply ops (current s)) ≡ Ok next → more ≡ rows_left [] ops (current s) → IsSeen (record { place = s.place; origin = s.origin; changed = Some next }) (own ++ ops) (rows ++ more)
seen_more s own ops rows more next h fits made noted = record {
  fits = fit_more own ops s.origin h.fits fits;
  made = (fitted (apply ops (current s)) next made).1 ∙ (ap (apply ops) h.made ∙ sym (apply_more own ops s.origin));
  ordered = h.ordered;
  noted =
      let back : more ≡ own_rows ops (apply own s.origin) = noted ∙ (ap (rows_left [] ops) h.made ∙ rows_are ops (apply own s.origin) (stays_ordered own s.origin h.ordered) fits) in
      let prefix_is = h.noted in
      let whole = own_more own ops s.origin in
      cc;
}
