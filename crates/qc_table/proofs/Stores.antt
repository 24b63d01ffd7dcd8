-- Rows by their columns.
use Rattle.std.proofs.Common.{◌≡◌, ℕ, ◌+◌, ◌<◌, ◌≤◌, ℤ, List, [], ◌∷◌, ◌++◌, map, length, get_or, zero, suc, refl, sym, ap, ◌∙◌, arith, subst, Option, Some, None, ◌⊎◌, inl, inr, length-append}
use Rattle.std.specs.Prelude.{zip, IfSome}
use Rattle.std.specs.List.{slice_get, AllByRecursion}
use Rattle.std.specs.Map.{keys_of}
use Rattle.std.proofs.lemmas.List.FromFn.{fill_by_all, length-map-range_with_len, get_or-map-range_with_len}
use Rattle.std.proofs.lemmas.Map.Made.{keys_of-zip}
use Rattle.qc_types.specs.declared.names.Value.{Value}
use Rattle.qc_types.specs.declared.names.Value.TheVariants as value
use Rattle.qc_sql.specs.declared.tables.Column.{Column}
use Rattle.qc_sql.specs.declared.tables.Kind.{Kind}
use Rattle.qc_sql.specs.Database.{MapOf, is_int}
use Rattle.qc_table.specs.declared.cells.Cells.{Cells}
use Rattle.qc_table.specs.Stored.{values_of, is_ints, cell_values, row_of, rows_of, column_of, IsCells, IsColumn, IsStore, IsFilled, AreFilled}
use Rattle.qc_table.specs.Views.{kind_at, row_at, value_at}
use Rattle.qc_table.proofs.Rows.{column_shows}

values_zipped : (ks : List ℤ) (vs : List (List Value)) → length vs ≡ length ks → map (λ (e : ℤ × List Value). e.1) (zip ks vs) ≡ vs
values_zipped [] [] same = refl
values_zipped [] (v ∷ vs) same = absurd (omega (arith, same))
values_zipped (k ∷ ks) [] same = absurd (omega (arith, same))
values_zipped (k ∷ ks) (v ∷ vs) same = let rest : length vs ≡ length ks = omega (arith, same) in ap (λ l. v ∷ l) (values_zipped ks vs rest)

zipped : (rows : MapOf ℤ (List Value)) → zip (keys_of rows) (map (λ (e : ℤ × List Value). e.1) rows) ≡ rows
zipped [] = refl
zipped (e ∷ rows) = ap (λ l. e ∷ l) (zipped rows)

-- ---- reading

pub keys_read : (w : ℕ) (keys : List ℤ) (cs : List Cells) → keys_of (rows_of w keys cs) ≡ keys
keys_read w keys cs = keys_of-zip keys _ (length-map-range_with_len (row_of w cs) 0 (length keys))

length_keys : (rows : MapOf ℤ (List Value)) → length (keys_of rows) ≡ length rows
length_keys [] = refl
length_keys (e ∷ rows) = ap suc (length_keys rows)

pub rows_length : (w : ℕ) (keys : List ℤ) (cs : List Cells) → length (rows_of w keys cs) ≡ length keys
rows_length w keys cs = sym (length_keys (rows_of w keys cs)) ∙ ap length (keys_read w keys cs)

from_zero : (i : ℕ) → 0 + i ≡ i
from_zero i = omega arith

row_read : (w : ℕ) (keys : List ℤ) (cs : List Cells) (i : ℕ) → i < length keys → row_at (rows_of w keys cs) i ≡ row_of w cs i
row_read w keys cs i low =
    ap (λ vs. get_or vs i []) (values_zipped keys _ (length-map-range_with_len (row_of w cs) 0 (length keys)))
    ∙ get_or-map-range_with_len (row_of w cs) 0 (length keys) i i [] low (from_zero i)

cell_read : (w : ℕ) (cs : List Cells) (i j : ℕ) → j < w → value_at (row_of w cs i) j ≡ value_at (cell_values cs j) i
cell_read w cs i j low = get_or-map-range_with_len (λ j. value_at (cell_values cs j) i) 0 w j j value.Null low (from_zero j)

-- the value of a row is that of the column
pub value_read : (w : ℕ) (keys : List ℤ) (cs : List Cells) (i j : ℕ) → i < length keys → j < w → value_at (row_at (rows_of w keys cs) i) j ≡ value_at (cell_values cs j) i
value_read w keys cs i j low within = ap (λ r. value_at r j) (row_read w keys cs i low) ∙ cell_read w cs i j within

pub column_length : (j : ℕ) (rows : MapOf ℤ (List Value)) → length (column_of j rows) ≡ length rows
column_length j [] = refl
column_length j (e ∷ rows) = ap suc (column_length j rows)

pub column_read : (w : ℕ) (keys : List ℤ) (cs : List Cells) (j : ℕ) → j < w → length (cell_values cs j) ≡ length keys → column_of j (rows_of w keys cs) ≡ cell_values cs j
column_read w keys cs j within same =
    let rows = rows_of w keys cs in
    let f = λ (k : ℕ). value_at (cell_values cs j) k in
    fill_by_all f (column_of j rows) (length keys) value.Null (column_length j rows ∙ rows_length w keys cs) (λ k low. column_shows rows k j ∙ value_read w keys cs k j low within)
    ∙ sym (fill_by_all f (cell_values cs j) (length keys) value.Null same (λ k low. refl))

pub cell_is : (cs : List Cells) (j : ℕ) (c : Cells) → slice_get cs j ≡ Some c → cell_values cs j ≡ values_of c
cell_is [] j c is = absurd cc
cell_is (d ∷ cs) zero c is = let same : d ≡ c = cc in ap values_of same
cell_is (d ∷ cs) (suc j) c is = cell_is cs j c is

cell_there : (cs : List Cells) (j : ℕ) → j < length cs → (c : Cells) × (slice_get cs j ≡ Some c)
cell_there [] j low = absurd (omega arith)
cell_there (d ∷ cs) zero low = (d, refl)
cell_there (d ∷ cs) (suc j) low = cell_there cs j (omega arith)

-- ---- making

filled_values : (o : Option Kind) (vs : List Value) (c : Cells) → IsFilled o vs c → values_of c ≡ vs
filled_values None vs c f = absurd f
filled_values (Some k) vs c f = f.1

filled_column : (o : Option Kind) (vs : List Value) (c : Cells) (n : ℕ) → IsFilled o vs c → length vs ≡ n → IsColumn o n c
filled_column None vs c n f same = absurd f
filled_column (Some k) vs c n f same = (f.0, ap length f.1 ∙ same, f.2)

pub store_filled : (columns : List Column) (rows : MapOf ℤ (List Value)) (cs : List Cells) → AreFilled columns rows (length columns) cs → IsStore columns (length (keys_of rows)) cs
store_filled columns rows cs f = (f.0, λ j c is. filled_column (kind_at columns j) (column_of j rows) c (length (keys_of rows)) (f.1 j c is) (column_length j rows ∙ sym (length_keys rows)))

row_wide : (w : ℕ) (rows : MapOf ℤ (List Value)) (i : ℕ) → AllByRecursion (λ e. length e.1 ≡ w) rows → i < length rows → length (row_at rows i) ≡ w
row_wide w [] i wide low = absurd (omega arith)
row_wide w (e ∷ rows) zero wide low = wide.0
row_wide w (e ∷ rows) (suc i) wide low = row_wide w rows i wide.1 (omega arith)

values_length : (rows : MapOf ℤ (List Value)) → length (map (λ (e : ℤ × List Value). e.1) rows) ≡ length rows
values_length [] = refl
values_length (e ∷ rows) = ap suc (values_length rows)

-- the rows whose columns these are
pub rows_filled : (columns : List Column) (rows : MapOf ℤ (List Value)) (cs : List Cells) → AreFilled columns rows (length columns) cs → AllByRecursion (λ e. length e.1 ≡ length columns) rows
    → rows_of (length columns) (keys_of rows) cs ≡ rows
rows_filled columns rows cs f wide =
    let w = length columns in
    let cell = λ (i j : ℕ) (low : j < w).
    (let there = cell_there cs j (omega (arith, f.0)) in
    sym (column_shows rows i j) ∙ ap (λ vs. value_at vs i) (sym (filled_values (kind_at columns j) (column_of j rows) there.0 (f.1 j there.0 there.1)) ∙ sym (cell_is cs j there.0 there.1))) in
    let row = λ (i : ℕ) (low : i < length (keys_of rows)).
    fill_by_all (λ j. value_at (cell_values cs j) i) (row_at rows i) w value.Null (row_wide w rows i wide (omega (arith, length_keys rows))) (cell i) in
    ap (zip (keys_of rows)) (sym (fill_by_all (row_of w cs) (map (λ (e : ℤ × List Value). e.1) rows) (length (keys_of rows)) [] (values_length rows ∙ sym (length_keys rows)) row)) ∙ zipped rows

pushed_at : (cs : List Cells) (c d : Cells) (j : ℕ) → slice_get (cs ++ c ∷ []) j ≡ Some d → (slice_get cs j ≡ Some d) ⊎ ((j ≡ length cs) × (c ≡ d))
pushed_at [] c d zero is = inr (refl, cc)
pushed_at [] c d (suc j) is = absurd cc
pushed_at (x ∷ cs) c d zero is = inl is
pushed_at (x ∷ cs) c d (suc j) is = elim (pushed_at cs c d j is) [ inl h ↦ inl h | inr h ↦ inr (ap suc h.0, h.1) ]

pub fill_more : (columns : List Column) (rows : MapOf ℤ (List Value)) (n : ℕ) (cs : List Cells) (c : Cells) → AreFilled columns rows n cs → IsFilled (kind_at columns n) (column_of n rows) c → AreFilled columns rows (n + 1) (cs ++ c ∷ [])
fill_more columns rows n cs c f one = (
  omega (arith, f.0, length-append cs (c ∷ [])),
  λ j d is. elim (pushed_at cs c d j is) [
    | inl h ↦ f.1 j d h
    | inr h ↦
        let at : n ≡ j = omega (arith, f.0, h.0) in
        subst (λ i. IsFilled (kind_at columns i) (column_of i rows) d) at (subst (IsFilled (kind_at columns n) (column_of n rows)) h.1 one)
  ],
)

pub none_filled : (columns : List Column) (rows : MapOf ℤ (List Value)) → AreFilled columns rows 0 []
none_filled columns rows = (refl, λ j c is. absurd cc)

-- ---- a column that is there

pub column_ready : (o : Option Kind) (n : ℕ) (c : Cells) → IsColumn o n c → IsCells c
column_ready None n c h = absurd h
column_ready (Some k) n c h = h.0

pub column_full : (o : Option Kind) (n : ℕ) (c : Cells) → IsColumn o n c → length (values_of c) ≡ n
column_full None n c h = absurd h
column_full (Some k) n c h = h.1

pub column_kind : (o : Option Kind) (n : ℕ) (c : Cells) → IsColumn o n c → IfSome o (λ k. is_ints c ≡ is_int k)
column_kind None n c h = absurd h
column_kind (Some k) n c h = h.2

pub column_shown : (columns : List Column) (keys : List ℤ) (cs : List Cells) (j : ℕ) (c : Cells) → IsStore columns (length keys) cs → j < length columns → slice_get cs j ≡ Some c → values_of c ≡ column_of j (rows_of (length columns) keys cs)
column_shown columns keys cs j c store within at =
    let is = cell_is cs j c at in
    sym (column_read (length columns) keys cs j within (ap length is ∙ column_full (kind_at columns j) (length keys) c (store.1 j c at)) ∙ is)

pub all_filled : (columns : List Column) (rows : MapOf ℤ (List Value)) (n : ℕ) (cs : List Cells) → AreFilled columns rows n cs → length columns ≤ n → n ≤ length columns → AreFilled columns rows (length columns) cs
all_filled columns rows n cs f low high =
    let same : n ≡ length columns = omega arith in
    subst (λ m. AreFilled columns rows m cs) same f
