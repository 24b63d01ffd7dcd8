-- Operations that put rows into one table.
use Rattle.std.proofs.Common.{◌≡◌, ℕ, ◌+◌, ◌<◌, ℤ, pos, Bool, true, false, cond, List, [], ◌∷◌, ◌++◌, map, length, get_or, take, drop, zero, suc, refl, ap, sym, ◌∙◌, subst, arith, add-one, Option, Some, append_assoc}
use Rattle.std.specs.Prelude.{◌&&◌, option_map, sum_by, Result, Ok, Err, IsOk, OnOk, is_err}
use Rattle.std.specs.List.{list_all}
use Rattle.std.specs.BTreeMap.{is_at}
use Rattle.std.proofs.lemmas.List.{get_or-map}
use Rattle.std.proofs.lemmas.List.Sums.{sum_by-take-drop, sum_by-drop_more}
use Rattle.std.proofs.Math.Seq.{drop-cons}
use Rattle.std.proofs.Math.ListN.{get_or-map as get_or-map-of}
use Rattle.std.proofs.lemmas.Slice.Eq.{bytes_eq-Decides}
use Rattle.qc_types.specs.declared.memory.NoMemory.{NoMemory}
use Rattle.qc_types.specs.declared.names.TableName.{TableName}
use Rattle.qc_types.specs.declared.names.Value.{Value}
use Rattle.qc_types.specs.declared.names.Value.TheVariants as value
use Rattle.qc_sql.specs.declared.tables.Column.{Column}
use Rattle.qc_sql.specs.declared.tables.RowOp.{RowOp}
use Rattle.qc_sql.specs.declared.tables.RowOp.TheVariants as op
use Rattle.qc_sql.specs.Database.{Name, MapOf, Database, Table, Tables, name_cmp, apply, apply_one, at_name, change_at, key_of, change_table, table_of, with_row}
use Rattle.qc_sql.proofs.Untouched.{changed_same}
use Rattle.qc_model.specs.Licence.{ops_fit, row_fits, takes_row}
use Rattle.qc_table.specs.Changes.{rise_behind, stands_behind}
use Rattle.qc_table.specs.Puts.{is_put_into, put_at, row_put, values_at, with_rows}
use Rattle.qc_table.specs.Views.{value_at}
use Rattle.qc_table.proofs.InPlace.{change_at-same}
use Rattle.qc_table.proofs.Rows.{both}

-- ---- the operations

abbrev table_name : Name → Name → TableName
table_name db name = record { db = db; name = name }

-- an operation that puts a row into the table
pub a_put : (t : TableName) (o : RowOp) → is_put_into t o ≡ true → o ≡ op.Put t (row_put o)
a_put t (op.Put u row) h =
    let parts = both _ _ h in
    let db : t.db ≡ u.db = (bytes_eq-Decides t.db u.db).0 parts.0 in
    let name : t.name ≡ u.name = (bytes_eq-Decides t.name u.name).0 parts.1 in
    let same : u ≡ t = ap (λ n. table_name n u.name) (sym db) ∙ ap (table_name t.db) (sym name) in
    ap (λ n. op.Put n row) same
a_put t (op.Del u key) h = absurd cc
a_put t (op.CreateTable u columns) h = absurd cc
a_put t (op.DropTable u) h = absurd cc
a_put t (op.CreateDb name) h = absurd cc
a_put t (op.DropDb name) h = absurd cc

pub put_there : (t : TableName) (ops : List RowOp) (i : ℕ) (o : RowOp) → list_all (is_put_into t) ops ≡ true → i < length ops → o ≡ get_or ops i o → o ≡ op.Put t (row_put o)
put_there t [] i o all low is = absurd (omega arith)
put_there t (p ∷ ops) zero o all low is = a_put t o (subst (λ q. is_put_into t q ≡ true) (sym is) (both _ _ all).0)
put_there t (p ∷ ops) (suc i) o all low is = put_there t ops i o (both _ _ all).1 (omega arith) is

pub row_read : (ops : List RowOp) (i : ℕ) (o : RowOp) → i < length ops → o ≡ get_or ops i o → put_at (map row_put ops) i ≡ row_put o
row_read ops i o low is = get_or-map row_put ops i o [] low ∙ ap row_put (sym is)

-- ---- values that are changed twice

module _ {X : Type 0} where
  change_with : (name : Name) (f g : X → X) (m : MapOf Name X) → ((x : X) → f x ≡ g x) → change_at name f m ≡ change_at name g m
  change_with name f g [] same = refl
  change_with name f g (e ∷ m) same =
      elim (is_at (name_cmp name) e.0) as (λ b. (cond b (e.0, f e.1) e) ∷ change_at name f m ≡ (cond b (e.0, g e.1) e) ∷ change_at name g m) [
        | true ↦ rw (same e.1) (ap (λ rest. (e.0, g e.1) ∷ rest) (change_with name f g m same))
        | false ↦ ap (λ rest. e ∷ rest) (change_with name f g m same)
      ]

  change_twice : (name : Name) (f g : X → X) (m : MapOf Name X) → change_at name f (change_at name g m) ≡ change_at name (λ x. f (g x)) m
  change_twice name f g [] = refl
  change_twice name f g (e ∷ m) =
      elim (is_at (name_cmp name) e.0) as (λ b. is_at (name_cmp name) e.0 ≡ b → change_at name f ((cond b (e.0, g e.1) e) ∷ change_at name g m) ≡ (cond b (e.0, f (g e.1)) e) ∷ change_at name (λ x. f (g x)) m) [
        | true ↦ λ p. rw p (ap (λ rest. (e.0, f (g e.1)) ∷ rest) (change_twice name f g m))
        | false ↦ λ p. rw p (ap (λ rest. e ∷ rest) (change_twice name f g m))
      ] refl

pub table_twice : (t : TableName) (f g : Table → Table) (d : Database) → change_table t f (change_table t g d) ≡ change_table t (λ v. f (g v)) d
table_twice t f g d = change_twice t.db (change_at t.name f) (change_at t.name g) d ∙ change_with t.db _ _ d (change_twice t.name f g)

pub table_same : (t : TableName) (d : Database) → change_table t (λ v. v) d ≡ d
table_same t d = change_with t.db (change_at t.name (λ v. v)) (λ ts. ts) d (change_at-same t.name) ∙ change_at-same t.db d

-- ---- what they make

-- they put their rows into the table, one after another
pub puts_make : (t : TableName) (ops : List RowOp) (d : Database) → list_all (is_put_into t) ops ≡ true → apply ops d ≡ change_table t (with_rows (map row_put ops)) d
puts_make t [] d all = sym (table_same t d)
puts_make t (o ∷ ops) d all =
    let each = both _ _ all in
    let one : apply_one o d ≡ change_table t (with_row (row_put o)) d = ap (λ p. apply_one p d) (a_put t o each.0) in
    ap (apply ops) one ∙ (puts_make t ops (change_table t (with_row (row_put o)) d) each.1 ∙ table_twice t (with_rows (map row_put ops)) (with_row (row_put o)) d)

-- the first row is taken, where the operations fit
pub first_taken : (t : TableName) (ops : List RowOp) (d : Database) → list_all (is_put_into t) ops ≡ true → 0 < length ops → ops_fit ops d ≡ true → (row : List Value) × (takes_row (table_of t d) row ≡ true)
first_taken t [] d all some fits = absurd (omega arith)
first_taken t (o ∷ ops) d all some fits =
    let put = a_put t o (both _ _ all).0 in
    let row = row_put o in
    (row, (both (takes_row (table_of t d) row) (ops_fit ops (change_table t (with_row row) d)) (subst (λ p. ops_fit (p ∷ ops) d ≡ true) put fits)).0)

-- each row fits, where the operations do
pub puts_fit : (t : TableName) (ops : List RowOp) (d : Database) (ts : Tables) (v : Table) → list_all (is_put_into t) ops ≡ true → at_name t.db d ≡ Some ts → at_name t.name ts ≡ Some v → ops_fit ops d ≡ true
    → list_all (row_fits v.columns) (map row_put ops) ≡ true
puts_fit t [] d ts v all found there fits = refl
puts_fit t (o ∷ ops) d ts v all found there fits =
    let each = both _ _ all in
    let put = a_put t o each.0 in
    let row = row_put o in
    let parts = both (takes_row (table_of t d) row) (ops_fit ops (change_table t (with_row row) d)) (subst (λ p. ops_fit (p ∷ ops) d ≡ true) put fits) in
    let one : row_fits v.columns row ≡ true = rw (found, there) at parts.0 in
    let found' : at_name t.db (change_table t (with_row row) d) ≡ Some (change_at t.name (with_row row) ts) = changed_same t.db (change_at t.name (with_row row)) d ∙ ap (option_map (change_at t.name (with_row row))) found in
    let there' : at_name t.name (change_at t.name (with_row row) ts) ≡ Some (with_row row v) = changed_same t.name (with_row row) ts ∙ ap (option_map (with_row row)) there in
    rw (one) (puts_fit t ops (change_table t (with_row row) d) (change_at t.name (with_row row) ts) (with_row row v) each.1 found' there' parts.1)

-- ---- values of their rows

pub value_read : (rows : List (List Value)) (j i : ℕ) → get_or (values_at j rows) i value.Null ≡ value_at (put_at rows i) j
value_read rows j i = get_or-map-of (λ (row : List Value). value_at row j) rows i []

pub values_length : (j : ℕ) (rows : List (List Value)) → length (values_at j rows) ≡ length rows
values_length j [] = refl
values_length j (row ∷ rows) = ap suc (values_length j rows)

-- one more of them
module _ {X : Type 0} where
  take_one : (i : ℕ) (xs : List X) (d : X) → i < length xs → take (suc i) xs ≡ take i xs ++ get_or xs i d ∷ []
  take_one i [] d low = absurd (omega arith)
  take_one zero (x ∷ xs) d low = refl
  take_one (suc i) (x ∷ xs) d low = ap (λ rest. x ∷ rest) (take_one i xs d (omega arith))

  take_more : (i : ℕ) (xs : List X) (d : X) → i < length xs → take (i + 1) xs ≡ take i xs ++ get_or xs i d ∷ []
  take_more i xs d low = ap (λ n. take n xs) (add-one i) ∙ take_one i xs d low

  pub drop_more : (i : ℕ) (xs : List X) (d : X) → i < length xs → drop i xs ≡ get_or xs i d ∷ drop (i + 1) xs
  drop_more i xs d low = drop-cons xs i d low ∙ ap (λ n. get_or xs i d ∷ drop n xs) (sym (add-one i))

-- one more value behind those that are put
pub put_more : {X : Type 0} (old new all : List X) (i : ℕ) (x d : X) → i < length all → x ≡ get_or all i d → new ≡ old ++ take i all → new ++ x ∷ [] ≡ old ++ take (i + 1) all
put_more old new all i x d low is so =
    ap (λ l. l ++ x ∷ []) so ∙ (append_assoc old (take i all) (x ∷ []) ∙ ap (λ l. old ++ l) (ap (λ y. take i all ++ y ∷ []) is ∙ sym (take_more i all d low)))

pub sum_more : {X : Type 0} (f : X → ℕ) (xs : List X) (i : ℕ) (d : X) → i < length xs → sum_by f (take (i + 1) xs) ≡ sum_by f (take i xs) + f (get_or xs i d)
sum_more f xs i d low = omega (arith, sum_by-take-drop f xs i, sum_by-take-drop f xs (i + 1), sum_by-drop_more f xs i d low)

-- ---- their keys

pub key_read : (columns : List Column) (rows : List (List Value)) (i : ℕ) → i < length rows → get_or (map (key_of columns) rows) i (pos 0) ≡ key_of columns (put_at rows i)
key_read columns rows i low = get_or-map (key_of columns) rows i [] (pos 0) low

pub keys_length : (columns : List Column) (rows : List (List Value)) → length (map (key_of columns) rows) ≡ length rows
keys_length columns [] = refl
keys_length columns (row ∷ rows) = ap suc (keys_length columns rows)

-- whether the keys from an index on rise behind the last one: the first of them stands behind it, and the others rise behind that
pub rise_step : (last : Option ℤ) (ks : List ℤ) (i : ℕ) (k : ℤ) (b : Bool) → i < length ks → get_or ks i (pos 0) ≡ k → b ≡ stands_behind last k → rise_behind last (drop i ks) ≡ (b && rise_behind (Some k) (drop (i + 1) ks))
rise_step last ks i k b low read is = ap (rise_behind last) (drop_more i ks (pos 0) low ∙ ap (λ j. j ∷ drop (i + 1) ks) read) ∙ ap (λ c. c && rise_behind (Some k) (drop (i + 1) ks)) (sym is)

-- ---- what can't fail

pub done : {X : Type 0} (r : Result X NoMemory) (P : Type 0) → IsOk r → OnOk r P → P
done (Ok x) P ok h = h
done (Err e) P ok h = absurd cc

pub fails : {X : Type 0} (r : Result X NoMemory) → IsOk r → is_err r ≡ true → ⊥
fails (Ok x) ok h = absurd cc
fails (Err e) ok h = absurd cc

pub on_ok : {X : Type 0} (r : Result X NoMemory) (P Q : Type 0) → (P → Q) → OnOk r P → OnOk r Q
on_ok (Ok x) P Q f h = f h
on_ok (Err e) P Q f h = h
