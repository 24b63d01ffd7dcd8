-- INSERT goes by places: values of tuples, and rows.
use Rattle.std.proofs.Common.{◌≡◌, ℕ, ℤ, ◌+◌, ◌<◌, ◌≤◌, Bool, true, false, List, [], ◌∷◌, ◌++◌, length, map, drop, get_or, zero, suc, refl, ap, sym, ◌∙◌, Some, None, Ok, Err, Result, append_assoc, if◌then◌else◌, cond}
use Rattle.std.specs.Prelude.{◌||◌, ◌&&◌, ◌==◌, not, nat_lt, codes, Option, option_map, is_some, find, bytes_eq}
use Rattle.std.specs.Ordering.{int_cmp, is_eq}
use Rattle.std.specs.List.{list_any}
use Rattle.std.proofs.lemmas.List.{append-nil}
use Rattle.qc_types.specs.declared.names.TableName.{TableName}
use Rattle.qc_types.specs.declared.names.Value.{Value}
use Rattle.qc_types.specs.declared.names.Value.TheVariants as value
use Rattle.qc_types.specs.declared.sql_error.SqlError.{SqlError}
use Rattle.qc_sql.specs.declared.tables.Column.{Column}
use Rattle.qc_sql.specs.declared.tables.RowOp.{RowOp}
use Rattle.qc_sql.specs.declared.tables.RowOp.TheVariants as op
use Rattle.qc_sql.specs.Database.{Name, key_of}
use Rattle.qc_sql.specs.Rows.{◌>>=◌, Bound, refuse_if, is_null}
use Rattle.qc_sql.specs.Errors.{wrong_value_count, duplicate_entry, table_full, not_supported, null_column, too_long, value_needed}
use Rattle.qc_sql.specs.Effects.{is_other_sort, is_too_long, may_be_null, stored, given_values, labelled, value_named, whole_row, has_key, new_rows, lacking, refuse_lacking}
use Rattle.qc_write.specs.Inserts.{place_of, places, value_checked, values_checked, value_from, row_from, row_validated, puts, rows_validated}
use Rattle.qc_resolve.proofs.Steps.{rest_at}

-- ---- columns that are lacking

by_place : (b : Bool) (o : Option ℕ) → (b || is_some o) ≡ is_some (if b then Some 0 else option_map suc o)
by_place true o = refl
by_place false None = refl
by_place false (Some i) = refl

-- a column is named where it has a place
pub is_placed : (name : Name) (named : List Column) → list_any (λ d. bytes_eq d.name name) named ≡ is_some (place_of name named)
is_placed name [] = refl
is_placed name (c ∷ cs) = ap (λ b. bytes_eq c.name name || b) (is_placed name cs) ∙ by_place (bytes_eq c.name name) (place_of name cs)

abbrev lacks : List Column → Column → Bool
lacks named c = not (may_be_null c) && not (list_any (λ d. bytes_eq d.name c.name) named)

pub lacks_it : (named columns : List Column) (i : ℕ) (c : Column) → i < length columns → c ≡ get_or columns i c → (not (may_be_null c) && not (is_some (place_of c.name named))) ≡ true
    → refuse_lacking (lacking (drop i columns) named) ≡ Err (value_needed c.name)
lacks_it named columns i c h e k =
    ap (λ cs. refuse_lacking (lacking cs named)) (rest_at columns i c h e)
    ∙ (let t : lacks named c ≡ true = ap (λ b. not (may_be_null c) && not b) (is_placed c.name named) ∙ k in rw t refl)

pub lacks_no : (named columns : List Column) (i : ℕ) (c : Column) → i < length columns → c ≡ get_or columns i c → (not (may_be_null c) && not (is_some (place_of c.name named))) ≡ false
    → refuse_lacking (lacking (drop i columns) named) ≡ refuse_lacking (lacking (drop (i + 1) columns) named)
lacks_no named columns i c h e k =
    ap (λ cs. refuse_lacking (lacking cs named)) (rest_at columns i c h e)
    ∙ (let t : lacks named c ≡ false = ap (λ b. not (may_be_null c) && not b) (is_placed c.name named) ∙ k in rw t refl)

-- ---- the row of a tuple

none_from : (o : Option ℕ) → value_from [] o ≡ value.Null
none_from None = refl
none_from (Some i) = refl

from_next : (v : Value) (vs : List Value) (o : Option ℕ) → value_from vs o ≡ value_from (v ∷ vs) (option_map suc o)
from_next v vs None = refl
from_next v vs (Some i) = refl

either : (b : Bool) (v w : Value) (vs : List Value) (o : Option ℕ) → w ≡ value_from vs o → (if b then v else w) ≡ value_from (v ∷ vs) (if b then Some 0 else option_map suc o)
either true v w vs o h = refl
either false v w vs o h = h ∙ from_next v vs o

-- the value under a name stands at the name's place
value_is : (name : Name) (named : List Column) (tuple : List Value) → value_named name (labelled named tuple) ≡ value_from tuple (place_of name named)
value_is name [] tuple = refl
value_is name (c ∷ cs) [] = sym (none_from (place_of name (c ∷ cs)))
value_is name (c ∷ cs) (v ∷ vs) = either (bytes_eq c.name name) v (value_named name (labelled cs vs)) vs (place_of name cs) (value_is name cs vs)

row_is : (named columns : List Column) (tuple : List Value) → whole_row columns (labelled named tuple) ≡ row_from tuple (places named columns)
row_is named [] tuple = refl
row_is named (c ∷ cs) tuple = λ j. value_is c.name named tuple j ∷ row_is named cs tuple j

-- ---- the values of a tuple

abbrev Step : Type 0
Step = Result (Unit {0}) SqlError

put_first : {A : Type 0} (x : A) (xs : List A) (r : Step) → ((r >>= λ _. Ok xs) >>= λ ys. Ok (x ∷ ys)) ≡ (r >>= λ _. Ok (x ∷ xs))
put_first x xs (Ok u) = refl
put_first x xs (Err e) = refl

value_given : (r s t : Step) (name : Name) (v : Value) (rest : Step) (given : List (Name × Value)) (all : Result (List (Name × Value)) SqlError) → all ≡ (rest >>= λ _. Ok given)
    → (r >>= λ _. (s >>= λ _. t >>= λ _. Ok v) >>= λ w. all >>= λ ws. Ok ((name, w) ∷ ws))
    ≡ (((r >>= λ _. (s >>= λ _. t >>= λ _. Ok v) >>= λ _. Ok (tt {0})) >>= λ _. rest) >>= λ _. Ok ((name, v) ∷ given))
value_given (Err e) s t name v rest given all h = refl
value_given (Ok u) (Err e) t name v rest given all h = refl
value_given (Ok u) (Ok w) (Err e) name v rest given all h = refl
value_given (Ok u) (Ok w) (Ok x) name v rest given all h = ap (λ r. r >>= λ ws. Ok ((name, v) ∷ ws)) h ∙ put_first (name, v) given rest

-- values that are checked are given as they are
given_is : (named : List Column) (tuple : List Value) → given_values named tuple ≡ (values_checked named tuple >>= λ _. Ok (labelled named tuple))
given_is [] vs = refl
given_is (c ∷ cs) [] = refl
given_is (c ∷ cs) (v ∷ vs) =
    value_given (refuse_if (is_other_sort c.kind v) (not_supported (codes "mixed value"))) (refuse_if (is_null v && not (may_be_null c)) (null_column c.name)) (refuse_if (is_too_long c.kind v) (too_long c.name))
    c.name v (values_checked cs vs) (labelled cs vs) (given_values cs vs) (given_is cs vs)

-- ---- the rows of the tuples

key_steps : {B C : Type 0} (t u : Step) (row : B) (next : B → Result C SqlError) → (t >>= λ _. u >>= λ _. next row) ≡ (((t >>= λ _. u) >>= λ _. Ok row) >>= next)
key_steps (Err e) u row next = refl
key_steps (Ok a) (Err e) row next = refl
key_steps (Ok a) (Ok b) row next = refl

row_steps : {A B C : Type 0} (r s : Step) (t : B → Step) (u : Step) (x : A) (row : B) (k : A → Result C SqlError) (next : B → Result C SqlError) → k x ≡ (t row >>= λ _. u >>= λ _. next row)
    → (r >>= λ _. (s >>= λ _. Ok x) >>= k) ≡ (((r >>= λ _. s >>= λ _. Ok row) >>= λ y. (t y >>= λ _. u) >>= λ _. Ok y) >>= next)
row_steps (Err e) s t u x row k next h = refl
row_steps (Ok a) (Err e) t u x row k next h = refl
row_steps (Ok a) (Ok b) t u x row k next h = h ∙ key_steps (t row) u row next

abbrev later_rows : Bound → List Column → List ℤ → ℕ → List (List Value) → List Value → Result (List (List Value)) SqlError
later_rows b named keys n tuples row = new_rows b.name b.table named (key_of b.table.columns row ∷ keys) (n + 1) tuples >>= λ rows. Ok (row ∷ rows)

-- the rows from a tuple on
pub rows_at : (b : Bound) (named : List Column) (keys : List ℤ) (seen : ℤ → Bool) (n : ℕ) (tuple : List Value) (tuples : List (List Value)) → ((q : ℤ) → seen q ≡ list_any (λ k. is_eq (int_cmp k q)) keys)
    → new_rows b.name b.table named keys n (tuple ∷ tuples) ≡ (row_validated b named seen n tuple >>= later_rows b named keys n tuples)
rows_at b named keys seen n tuple tuples same =
    let columns = b.table.columns in
    let wrong = refuse_if (not (length tuple == length named)) (wrong_value_count n) in
    let full = refuse_if (nat_lt 1048576 (length b.table.rows + n)) (table_full b.name) in
    let next : List Value → Result (List (List Value)) SqlError = later_rows b named keys n tuples in
    let of_row : List Value → Result (List (List Value)) SqlError =
    λ row. refuse_if (has_key b.table (key_of columns row) || list_any (λ k. is_eq (int_cmp k (key_of columns row))) keys) (duplicate_entry (key_of columns row)) >>= λ _. full >>= λ _. next row in
    let of_given : List (Name × Value) → Result (List (List Value)) SqlError = λ given. of_row (whole_row columns given) in
    let row = row_from tuple (places named columns) in
    let key = key_of columns row in
    ap (λ (g : Result (List (Name × Value)) SqlError). wrong >>= λ _. g >>= of_given) (given_is named tuple)
    ∙ row_steps wrong (values_checked named tuple) (λ (r : List Value). refuse_if (has_key b.table (key_of columns r) || seen (key_of columns r)) (duplicate_entry (key_of columns r))) full (labelled named tuple) row of_given next
    (ap of_row (row_is named columns tuple) ∙ ap (λ (taken : Bool). refuse_if (has_key b.table key || taken) (duplicate_entry key) >>= λ _. full >>= λ _. next row) (sym (same key)))

put_before : (t : TableName) (ops : List RowOp) (row : List Value) (r : Result (List (List Value)) SqlError)
    → ((r >>= λ rows. Ok (row ∷ rows)) >>= λ rows. Ok (ops ++ puts t rows)) ≡ (r >>= λ rows. Ok ((ops ++ op.Put t row ∷ []) ++ puts t rows))
put_before t ops row (Ok rows) = ap Ok (sym (append_assoc ops (op.Put t row ∷ []) (puts t rows)))
put_before t ops row (Err e) = refl

abbrev pub rows_on : Bound → List Column → List ℤ → ℕ → List (List Value) → List RowOp → Result (List RowOp) SqlError
rows_on b named keys n tuples ops = new_rows b.name b.table named keys n tuples >>= λ rows. Ok (ops ++ puts b.name rows)

module _ (b : Bound) (named : List Column) (keys : List ℤ) (seen : ℤ → Bool) (same : (q : ℤ) → seen q ≡ list_any (λ k. is_eq (int_cmp k q)) keys)
    (tuples : List (List Value)) (i : ℕ) (tuple : List Value) (h : i < length tuples) (e : tuple ≡ get_or tuples i tuple) (ops : List RowOp) where
  at_tuple : (n : ℕ) → rows_on b named keys n (drop i tuples) ops ≡ ((row_validated b named seen n tuple >>= later_rows b named keys n (drop (i + 1) tuples)) >>= λ rows. Ok (ops ++ puts b.name rows))
  at_tuple n =
      ap (λ (ts : List (List Value)). rows_on b named keys n ts ops) (rest_at tuples i tuple h e)
      ∙ ap (λ (r : Result (List (List Value)) SqlError). r >>= λ rows. Ok (ops ++ puts b.name rows)) (rows_at b named keys seen n tuple (drop (i + 1) tuples) same)

  pub row_refused : (n : ℕ) (error : SqlError) → row_validated b named seen n tuple ≡ Err error → rows_on b named keys n (drop i tuples) ops ≡ Err error
  row_refused n error k = at_tuple n ∙ ap (λ (r : Result (List Value) SqlError). (r >>= later_rows b named keys n (drop (i + 1) tuples)) >>= λ rows. Ok (ops ++ puts b.name rows)) k

  pub row_put : (n : ℕ) (row : List Value) → row_validated b named seen n tuple ≡ Ok row
      → rows_on b named keys n (drop i tuples) ops ≡ rows_on b named (key_of b.table.columns row ∷ keys) (n + 1) (drop (i + 1) tuples) (ops ++ op.Put b.name row ∷ [])
  row_put n row k =
      at_tuple n
      ∙ ap (λ (r : Result (List Value) SqlError). (r >>= later_rows b named keys n (drop (i + 1) tuples)) >>= λ rows. Ok (ops ++ puts b.name rows)) k
      ∙ put_before b.name ops row (new_rows b.name b.table named (key_of b.table.columns row ∷ keys) (n + 1) (drop (i + 1) tuples))

pub rows_ended : (b : Bound) (named : List Column) (keys : List ℤ) (n : ℕ) (tuples : List (List Value)) (ops : List RowOp) (i : ℕ) → drop i tuples ≡ [] → rows_on b named keys n (drop i tuples) ops ≡ Ok ops
rows_ended b named keys n tuples ops i h = ap (λ (ts : List (List Value)). rows_on b named keys n ts ops) h ∙ ap Ok (append-nil ops)
