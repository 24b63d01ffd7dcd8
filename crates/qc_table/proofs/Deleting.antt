-- Operations that take rows out of one table.
use Rattle.std.proofs.Common.{◌≡◌, ℕ, ◌+◌, ◌<◌, ◌≤◌, ℤ, pos, true, List, [], ◌∷◌, map, length, drop, ap, sym, ◌∙◌, subst, arith}
use Rattle.std.specs.List.{list_all}
use Rattle.std.proofs.lemmas.List.{drop_all, drop_more}
use Rattle.std.proofs.lemmas.Slice.Eq.{bytes_eq-Decides}
use Rattle.qc_types.specs.declared.names.TableName.{TableName}
use Rattle.qc_sql.specs.declared.tables.RowOp.{RowOp}
use Rattle.qc_sql.specs.declared.tables.RowOp.TheVariants as op
use Rattle.qc_sql.specs.Database.{Name, Database, Table, apply, apply_one, change_table, table_of, without_row}
use Rattle.qc_model.specs.Licence.{has_row, ops_fit}
use Rattle.qc_table.specs.Dels.{is_taken_from, key_at, key_taken, without_rows}
use Rattle.qc_table.proofs.Putting.{table_same, table_twice}
use Rattle.qc_table.proofs.Rows.{both}

abbrev table_name : Name → Name → TableName
table_name db name = record { db = db; name = name }

-- an operation that takes a row out of the table
pub a_del : (t : TableName) (o : RowOp) → is_taken_from t o ≡ true → o ≡ op.Del t (key_taken o)
a_del t (op.Put u row) h = absurd cc
a_del t (op.Del u key) h =
    let parts = both _ _ h in
    let db : t.db ≡ u.db = (bytes_eq-Decides t.db u.db).0 parts.0 in
    let name : t.name ≡ u.name = (bytes_eq-Decides t.name u.name).0 parts.1 in
    let same : u ≡ t = ap (λ n. table_name n u.name) (sym db) ∙ ap (table_name t.db) (sym name) in
    ap (λ n. op.Del n key) same
a_del t (op.CreateTable u columns) h = absurd cc
a_del t (op.DropTable u) h = absurd cc
a_del t (op.CreateDb name) h = absurd cc
a_del t (op.DropDb name) h = absurd cc

-- they take the rows out of the table, one after another
pub dels_make : (t : TableName) (ops : List RowOp) (d : Database) → list_all (is_taken_from t) ops ≡ true → apply ops d ≡ change_table t (without_rows (map key_taken ops)) d
dels_make t [] d all = sym (table_same t d)
dels_make t (o ∷ ops) d all =
    let each = both _ _ all in
    let one : apply_one o d ≡ change_table t (without_row (key_taken o)) d = ap (λ p. apply_one p d) (a_del t o each.0) in
    ap (apply ops) one ∙ (dels_make t ops (change_table t (without_row (key_taken o)) d) each.1 ∙ table_twice t (without_rows (map key_taken ops)) (without_row (key_taken o)) d)

-- the first row is there, where the operations fit
pub first_there : (t : TableName) (ops : List RowOp) (d : Database) → list_all (is_taken_from t) ops ≡ true → 0 < length ops → ops_fit ops d ≡ true → (key : ℤ) × (has_row (table_of t d) key ≡ true)
first_there t [] d all some fits = absurd (omega arith)
first_there t (o ∷ ops) d all some fits =
    let del = a_del t o (both _ _ all).0 in
    let key = key_taken o in
    (key, (both (has_row (table_of t d) key) (ops_fit ops (change_table t (without_row key) d)) (subst (λ p. ops_fit (p ∷ ops) d ≡ true) del fits)).0)

-- one row more is taken out
pub next_del : (keys : List ℤ) (i : ℕ) (key : ℤ) (t t' all : Table) → i < length keys → key ≡ key_at keys i → t' ≡ without_row key t → without_rows (drop i keys) t ≡ all → without_rows (drop (i + 1) keys) t' ≡ all
next_del keys i key t t' all low read is before =
    let split : drop i keys ≡ key_at keys i ∷ drop (i + 1) keys = drop_more keys i (pos 0) low in
    ap (without_rows (drop (i + 1) keys)) (is ∙ ap (λ (k : ℤ). without_row k t) read) ∙ (sym (ap (λ (ks : List ℤ). without_rows ks t) split) ∙ before)

pub all_del : (keys : List ℤ) (i : ℕ) (t all : Table) → length keys ≤ i → without_rows (drop i keys) t ≡ all → t ≡ all
all_del keys i t all past before = sym (ap (λ (ks : List ℤ). without_rows ks t) (drop_all i keys past)) ∙ before
