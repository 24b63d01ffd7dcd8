-- What operations write, and what they leave of columns and rows that they don't write.
use Rattle.std.proofs.Common.{◌≡◌, ℤ, Bool, true, false, List, [], ◌∷◌, ◌++◌, refl, sym, ap, ◌∙◌, subst, Option, Some, None, true≢false}
use Rattle.std.specs.Prelude.{◌&&◌, ◌||◌, bytes_eq, option_map, option_and_then}
use Rattle.std.specs.List.{list_any}
use Rattle.std.specs.Ordering.{int_cmp, is_eq}
use Rattle.std.specs.BTreeMap.{is_at}
use Rattle.std.specs.Map.{lookup}
use Rattle.std.proofs.lemmas.Bool.{and_parts, or_parts, or_from}
use Rattle.qc_types.specs.declared.names.TableName.{TableName}
use Rattle.qc_types.specs.declared.names.Value.{Value}
use Rattle.qc_sql.specs.declared.tables.Column.{Column}
use Rattle.qc_sql.specs.declared.tables.RowOp.{RowOp}
use Rattle.qc_sql.specs.declared.tables.RowOp.TheVariants as op
use Rattle.qc_sql.specs.Database.{Name, Table, Database, table_of, key_of, with_row, without_row, apply_one, same_table, touches, columns_of, row_of}
use Rattle.qc_sql.proofs.Untouched.{keeps_untouched}
use Rattle.qc_model.specs.Conflicts.{key_in, written_by, all_written, changes_form, is_row}
use Rattle.qc_laws.specs.fits.Laws.{FormsStay, RowsStay}
use Rattle.qc_laws.proofs.fits.Maps.{row_gone_other, row_put_other, keys_back}
use Rattle.qc_laws.proofs.fits.Columns.{name_is}
use Rattle.qc_laws.proofs.fits.Tables.{table_changed}

-- ---- tables by name

abbrev named : Name → Name → TableName
named db name = record { db = db; name = name }

pub same_table_is : (t u : TableName) → same_table t u ≡ true → t ≡ u
same_table_is t u h =
    let parts = and_parts (bytes_eq t.db u.db) (bytes_eq t.name u.name) h in
    ap (λ n. named n t.name) (name_is t.db u.db parts.0) ∙ ap (named u.db) (name_is t.name u.name parts.1)

untouched : (t : TableName) (o : RowOp) (d : Database) → touches t o ≡ false → table_of t (apply_one o d) ≡ table_of t d
untouched t o d h = keeps_untouched t (o ∷ []) d (or_from (touches t o) false h refl)

-- ---- columns

abbrev pub columns_in : Option Table → Option (List Column)
columns_in o = option_map (λ table. table.columns) o

abbrev pub row_in : ℤ → Option Table → Option (List Value)
row_in key o = option_and_then (λ table. lookup (is_at (int_cmp key)) table.rows) o

-- an operation on rows keeps the columns
same_columns : (t u : TableName) (f : Table → Table) (o : RowOp) (d : Database) → ((x : Table) → (f x).columns ≡ x.columns) → (same_table t u ≡ false → table_of t (apply_one o d) ≡ table_of t d)
    → table_of u (apply_one o d) ≡ option_map f (table_of u d) → columns_of t (apply_one o d) ≡ columns_of t d
same_columns t u f o d keeps apart changed = by (same_table t u) refl
  where
    kept : (x : Option Table) → columns_in (option_map f x) ≡ columns_in x
    kept None = refl
    kept (Some x) = ap (λ (c : List Column). Some c) (keeps x)

    by : (b : Bool) → same_table t u ≡ b → columns_of t (apply_one o d) ≡ columns_of t d
    by false p = ap columns_in (apart p)
    by true p = subst (λ (v : TableName). columns_of v (apply_one o d) ≡ columns_of v d) (sym (same_table_is t u p)) (ap columns_in changed ∙ kept (table_of u d))

first_none : (b : Bool) → (b || false) ≡ false → b ≡ false
first_none b h = (or_parts b false h).0

pub one_keeps_columns : (t : TableName) (o : RowOp) (d : Database) → list_any (changes_form t) (written_by o d) ≡ false → columns_of t (apply_one o d) ≡ columns_of t d
one_keeps_columns t (op.Put u row) d h = same_columns t u (with_row row) (op.Put u row) d (λ x. refl) (untouched t (op.Put u row) d) (table_changed u (with_row row) d)
one_keeps_columns t (op.Del u key) d h = same_columns t u (without_row key) (op.Del u key) d (λ x. refl) (untouched t (op.Del u key) d) (table_changed u (without_row key) d)
one_keeps_columns t (op.CreateTable u columns) d h = ap columns_in (untouched t (op.CreateTable u columns) d (first_none (same_table t u) h))
one_keeps_columns t (op.DropTable u) d h = ap columns_in (untouched t (op.DropTable u) d (first_none (same_table t u) h))
one_keeps_columns t (op.CreateDb name) d h = ap columns_in (untouched t (op.CreateDb name) d refl)
one_keeps_columns t (op.DropDb name) d h = ap columns_in (untouched t (op.DropDb name) d (first_none (bytes_eq t.db name) h))

-- ---- rows

-- another row that is written
other_key : (b : Bool) (key j : ℤ) → b ≡ true → ((b && is_eq (int_cmp key j)) || false) ≡ false → is_at (int_cmp j) key ≡ false
other_key true key j p h = keys_back key j (first_none (is_eq (int_cmp key j)) h)
other_key false key j p h = absurd (true≢false (sym p))

pub one_keeps_row : (t : TableName) (key : ℤ) (o : RowOp) (d : Database) → list_any (changes_form t) (written_by o d) ≡ false → list_any (is_row t key) (written_by o d) ≡ false → row_of t key (apply_one o d) ≡ row_of t key d
one_keeps_row t key (op.Put u row) d h g = by (same_table t u) refl
  where
    kept : (x : Option Table) → is_at (int_cmp (key_in x row)) key ≡ false → row_in key (option_map (with_row row) x) ≡ row_in key x
    kept None p = refl
    kept (Some x) p = row_put_other key (key_of x.columns row) row x.rows p

    by : (b : Bool) → same_table t u ≡ b → row_of t key (apply_one (op.Put u row) d) ≡ row_of t key d
    by false p = ap (row_in key) (untouched t (op.Put u row) d p)
    by true p =
        subst (λ (v : TableName). row_of v key (apply_one (op.Put u row) d) ≡ row_of v key d) (sym (same_table_is t u p))
        (ap (row_in key) (table_changed u (with_row row) d) ∙ kept (table_of u d) (other_key (same_table t u) key (key_in (table_of u d) row) p g))
one_keeps_row t key (op.Del u j) d h g = by (same_table t u) refl
  where
    kept : (x : Option Table) → is_at (int_cmp j) key ≡ false → row_in key (option_map (without_row j) x) ≡ row_in key x
    kept None p = refl
    kept (Some x) p = row_gone_other key j x.rows p

    by : (b : Bool) → same_table t u ≡ b → row_of t key (apply_one (op.Del u j) d) ≡ row_of t key d
    by false p = ap (row_in key) (untouched t (op.Del u j) d p)
    by true p =
        subst (λ (v : TableName). row_of v key (apply_one (op.Del u j) d) ≡ row_of v key d) (sym (same_table_is t u p))
        (ap (row_in key) (table_changed u (without_row j) d) ∙ kept (table_of u d) (other_key (same_table t u) key j p g))
one_keeps_row t key (op.CreateTable u columns) d h g = ap (row_in key) (untouched t (op.CreateTable u columns) d (first_none (same_table t u) h))
one_keeps_row t key (op.DropTable u) d h g = ap (row_in key) (untouched t (op.DropTable u) d (first_none (same_table t u) h))
one_keeps_row t key (op.CreateDb name) d h g = ap (row_in key) (untouched t (op.CreateDb name) d refl)
one_keeps_row t key (op.DropDb name) d h g = ap (row_in key) (untouched t (op.DropDb name) d (first_none (bytes_eq t.db name) h))

-- ---- lists of operations

pub any_parts : {A : Type 0} (test : A → Bool) (xs ys : List A) → list_any test (xs ++ ys) ≡ false → (list_any test xs ≡ false) × (list_any test ys ≡ false)
any_parts test [] ys h = (refl, h)
any_parts test (x ∷ xs) ys h =
    let parts = or_parts (test x) (list_any test (xs ++ ys)) h in
    let rest = any_parts test xs ys parts.1 in
    (or_from (test x) (list_any test xs) parts.0 rest.0, rest.1)

pub forms_stay : FormsStay
forms_stay t [] d h = refl
forms_stay t (o ∷ os) d h =
    let parts = any_parts (changes_form t) (written_by o d) (all_written os (apply_one o d)) h in
    forms_stay t os (apply_one o d) parts.1 ∙ one_keeps_columns t o d parts.0

pub rows_stay : RowsStay
rows_stay t key [] d h g = refl
rows_stay t key (o ∷ os) d h g =
    let forms = any_parts (changes_form t) (written_by o d) (all_written os (apply_one o d)) h in
    let rows = any_parts (is_row t key) (written_by o d) (all_written os (apply_one o d)) g in
    rows_stay t key os (apply_one o d) forms.1 rows.1 ∙ one_keeps_row t key o d forms.0 rows.0
