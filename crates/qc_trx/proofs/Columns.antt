-- A commit that doesn't change the form of a table leaves its columns, and so the keys of the rows that it puts there.
use Rattle.std.proofs.Common.{◌≡◌, ℤ, Bool, true, false, cond, List, [], ◌∷◌, ◌++◌, refl, sym, ap, subst, ◌∙◌, Option, append_assoc}
use Rattle.std.specs.Prelude.{◌&&◌, ◌||◌, Some, None, bytes_eq, option_map, option_and_then}
use Rattle.std.specs.Ordering.{is_eq, int_cmp}
use Rattle.std.specs.List.{list_any}
use Rattle.std.proofs.lemmas.Map.Text.{is_eq-slice_cmp}
use Rattle.qc_types.specs.declared.names.TableName.{TableName}
use Rattle.qc_types.specs.declared.names.Value.{Value}
use Rattle.qc_sql.specs.declared.tables.Column.{Column}
use Rattle.qc_sql.specs.declared.tables.RowOp.{RowOp}
use Rattle.qc_sql.specs.declared.tables.RowOp.TheVariants as op
use Rattle.qc_sql.specs.Database.{Name, Database, Table, Tables, at_name, change_at, change_tables, change_table, with_row, without_row, table_of, tables_of, key_of, apply, apply_one, same_table, touches, columns_of}
use Rattle.qc_sql.proofs.Untouched.{keeps_untouched, changed_same, at_is}
use Rattle.qc_model.specs.Conflicts.{Written, Row, Form, Whole, key_in, written_by, all_written, changes_form, is_row}
use Rattle.qc_trx.specs.Writes.{key_by, written_on}

-- ---- tests

pub either_false : (a b : Bool) → (a || b) ≡ false → (a ≡ false) × (b ≡ false)
either_false false b h = (refl, h)
either_false true b h = absurd cc

pub both_true : (a b : Bool) → (a && b) ≡ true → (a ≡ true) × (b ≡ true)
both_true true b h = (refl, h)
both_true false b h = absurd cc

pub or_assoc : (a b c : Bool) → ((a || b) || c) ≡ (a || (b || c))
or_assoc true b c = refl
or_assoc false b c = refl

pub or_false : (b : Bool) → (b || false) ≡ b
or_false true = refl
or_false false = refl

pub any_append : {X : Type 0} (test : X → Bool) (xs ys : List X) → list_any test (xs ++ ys) ≡ (list_any test xs || list_any test ys)
any_append test [] ys = refl
any_append test (x ∷ xs) ys = ap (λ b. test x || b) (any_append test xs ys) ∙ sym (or_assoc (test x) (list_any test xs) (list_any test ys))

pub any_of_one : {X : Type 0} (test : X → Bool) (x : X) → list_any test (x ∷ []) ≡ test x
any_of_one test x = or_false (test x)

pub bytes_same : (a b : Name) → bytes_eq a b ≡ true → a ≡ b
bytes_same a b h = at_is a b (is_eq-slice_cmp a b ∙ h)

abbrev named : Name → Name → TableName
named db name = record { db = db; name = name }

pub same_is : (t u : TableName) → same_table t u ≡ true → t ≡ u
same_is t u h =
    let parts = both_true (bytes_eq t.db u.db) (bytes_eq t.name u.name) h in
    ap (λ (n : Name). named n t.name) (bytes_same t.db u.db parts.0) ∙ ap (λ (n : Name). named u.db n) (bytes_same t.name u.name parts.1)

-- ---- one operation

pub untouched : (t : TableName) (o : RowOp) (d : Database) → touches t o ≡ false → columns_of t (apply_one o d) ≡ columns_of t d
untouched t o d h = ap (option_map (λ (x : Table). x.columns)) (keeps_untouched t (o ∷ []) d (any_of_one (touches t) o ∙ h))

-- a change of a table's rows leaves its columns
rows_changed : (t : TableName) (f : Table → Table) (d : Database) → ((x : Table) → (f x).columns ≡ x.columns) → columns_of t (change_table t f d) ≡ columns_of t d
rows_changed t f d keeps = ap (λ (o : Option Tables). option_map (λ (x : Table). x.columns) (option_and_then (at_name t.name) o)) (changed_same t.db (change_at t.name f) d) ∙ by (tables_of t.db d)
  where
    by_table : (o : Option Table) → option_map (λ (x : Table). x.columns) (option_map f o) ≡ option_map (λ (x : Table). x.columns) o
    by_table None = refl
    by_table (Some x) = ap (λ (cs : List Column). Some cs) (keeps x)

    by : (o : Option Tables) → option_map (λ (x : Table). x.columns) (option_and_then (at_name t.name) (option_map (change_at t.name f) o)) ≡ option_map (λ (x : Table). x.columns) (option_and_then (at_name t.name) o)
    by None = refl
    by (Some ts) = ap (option_map (λ (x : Table). x.columns)) (changed_same t.name f ts) ∙ by_table (at_name t.name ts)

pub put_columns : (t u : TableName) (row : List Value) (d : Database) → columns_of t (apply_one (op.Put u row) d) ≡ columns_of t d
put_columns t u row d = by (same_table t u) refl
  where
    by : (b : Bool) → same_table t u ≡ b → columns_of t (apply_one (op.Put u row) d) ≡ columns_of t d
    by false h = untouched t (op.Put u row) d h
    by true h = subst (λ (v : TableName). columns_of t (apply_one (op.Put v row) d) ≡ columns_of t d) (same_is t u h) (rows_changed t (with_row row) d (λ x. refl))

pub del_columns : (t u : TableName) (key : ℤ) (d : Database) → columns_of t (apply_one (op.Del u key) d) ≡ columns_of t d
del_columns t u key d = by (same_table t u) refl
  where
    by : (b : Bool) → same_table t u ≡ b → columns_of t (apply_one (op.Del u key) d) ≡ columns_of t d
    by false h = untouched t (op.Del u key) d h
    by true h = subst (λ (v : TableName). columns_of t (apply_one (op.Del v key) d) ≡ columns_of t d) (same_is t u h) (rows_changed t (without_row key) d (λ x. refl))

pub one_keeps : (t : TableName) (o : RowOp) (d : Database) → list_any (changes_form t) (written_by o d) ≡ false → columns_of t (apply_one o d) ≡ columns_of t d
one_keeps t (op.Put u row) d h = put_columns t u row d
one_keeps t (op.Del u key) d h = del_columns t u key d
one_keeps t (op.CreateTable u columns) d h = untouched t (op.CreateTable u columns) d (sym (or_false (same_table t u)) ∙ h)
one_keeps t (op.DropTable u) d h = untouched t (op.DropTable u) d (sym (or_false (same_table t u)) ∙ h)
one_keeps t (op.CreateDb name) d h = untouched t (op.CreateDb name) d refl
one_keeps t (op.DropDb name) d h = untouched t (op.DropDb name) d (sym (or_false (bytes_eq t.db name)) ∙ h)

-- ---- a commit

-- the same forms change on any database
pub one_form : (t : TableName) (o : RowOp) (d e : Database) → list_any (changes_form t) (written_by o d) ≡ list_any (changes_form t) (written_by o e)
one_form t (op.Put u row) d e = refl
one_form t (op.Del u key) d e = refl
one_form t (op.CreateTable u columns) d e = refl
one_form t (op.DropTable u) d e = refl
one_form t (op.CreateDb name) d e = refl
one_form t (op.DropDb name) d e = refl

pub same_forms : (t : TableName) (os : List RowOp) (d e : Database) → list_any (changes_form t) (all_written os d) ≡ list_any (changes_form t) (written_on os e)
same_forms t [] d e = refl
same_forms t (o ∷ os) d e =
    let prefix_is = any_append (changes_form t) (written_by o d) (all_written os (apply_one o d)) in
    let back = any_append (changes_form t) (written_by o e) (written_on os e) in
    let here = one_form t o d e in
    let there = same_forms t os (apply_one o d) e in
    cc

pub all_keep : (t : TableName) (os : List RowOp) (d : Database) → list_any (changes_form t) (all_written os d) ≡ false → columns_of t (apply os d) ≡ columns_of t d
all_keep t [] d h = refl
all_keep t (o ∷ os) d h =
    let parts = either_false (list_any (changes_form t) (written_by o d)) (list_any (changes_form t) (all_written os (apply_one o d))) (sym (any_append (changes_form t) (written_by o d) (all_written os (apply_one o d))) ∙ h) in
    all_keep t os (apply_one o d) parts.1 ∙ one_keeps t o d parts.0

-- the key of a row, by the columns of its table
pub key_is : (o : Option Table) (row : List Value) → key_in o row ≡ key_by (option_map (λ x. x.columns) o) row
key_is None row = refl
key_is (Some x) row = refl

-- on the same columns the same row is put
put_row : (t u : TableName) (key : ℤ) (row : List Value) (d e : Database) → columns_of t d ≡ columns_of t e → is_row t key (Row u (key_in (table_of u d) row)) ≡ is_row t key (Row u (key_in (table_of u e) row))
put_row t u key row d e h = by (same_table t u) refl
  where
    by : (b : Bool) → same_table t u ≡ b → is_row t key (Row u (key_in (table_of u d) row)) ≡ is_row t key (Row u (key_in (table_of u e) row))
    by false p = rw p refl
    by true p =
        let columns : columns_of u d ≡ columns_of u e = subst (λ (v : TableName). columns_of v d ≡ columns_of v e) (same_is t u p) h in
        let keys : key_in (table_of u d) row ≡ key_in (table_of u e) row = key_is (table_of u d) row ∙ (ap (λ (cs : Option (List Column)). key_by cs row) columns ∙ sym (key_is (table_of u e) row)) in
        ap (λ (k : ℤ). is_row t key (Row u k)) keys

one_row : (t : TableName) (key : ℤ) (o : RowOp) (d e : Database) → columns_of t d ≡ columns_of t e → list_any (is_row t key) (written_by o d) ≡ list_any (is_row t key) (written_by o e)
one_row t key (op.Put u row) d e h = ap (λ b. b || false) (put_row t u key row d e h)
one_row t key (op.Del u k) d e h = refl
one_row t key (op.CreateTable u columns) d e h = refl
one_row t key (op.DropTable u) d e h = refl
one_row t key (op.CreateDb name) d e h = refl
one_row t key (op.DropDb name) d e h = refl

-- where the form stays, the same rows are written on a database whose table has the same columns
pub same_rows : (t : TableName) (key : ℤ) (os : List RowOp) (d e : Database) → columns_of t d ≡ columns_of t e → list_any (changes_form t) (all_written os d) ≡ false
    → list_any (is_row t key) (all_written os d) ≡ list_any (is_row t key) (written_on os e)
same_rows t key [] d e h quiet = refl
same_rows t key (o ∷ os) d e h quiet =
    let parts = either_false (list_any (changes_form t) (written_by o d)) (list_any (changes_form t) (all_written os (apply_one o d))) (sym (any_append (changes_form t) (written_by o d) (all_written os (apply_one o d))) ∙ quiet) in
    let here = one_row t key o d e h in
    let there = same_rows t key os (apply_one o d) e (one_keeps t o d parts.0 ∙ h) parts.1 in
    let prefix_is = any_append (is_row t key) (written_by o d) (all_written os (apply_one o d)) in
    let back = any_append (is_row t key) (written_by o e) (written_on os e) in
    cc
