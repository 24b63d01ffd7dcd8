-- Columns in a window, and masks of the rows that pass.
use Rattle.std.proofs.Common.{◌≡◌, ℕ, ℤ, pos, zero, suc, ◌+◌, ◌-◌, ◌*◌, ◌/◌, ◌%◌, ◌^◌, ◌<◌, ◌≤◌, nat_lt, nat_eq, Bool, true, false, cond, not, true≢false, List, [], ◌∷◌, ◌++◌, length, map, take, drop, get_or, set, replicate, Some, None, refl, sym, ap, ◌∙◌, subst, arith, append-nil}
use Rattle.std.specs.Prelude.{◌&&◌, ◌||◌, ◌==◌, int_lt}
use Rattle.std.specs.Int.{bit_at}
use Rattle.std.specs.List.{AllByRecursion, list_all}
use Rattle.std.specs.Ordering.{int_cmp, is_gt, is_lt, ordering_reverse}
use Rattle.std.specs.declared.cmp.Ordering.{Ordering}
use Rattle.std.specs.declared.cmp.Ordering.TheVariants.{Less, Equal, Greater}
use Rattle.std.proofs.lemmas.Bool.{ltb-true, ltb-false}
use Rattle.std.proofs.lemmas.Bool.Decides.{nat_tests}
use Rattle.std.proofs.lemmas.Cmp.{int_cmp_total}
use Rattle.std.proofs.lemmas.List.{drop-map, get_or-drop, get_or-map, get_or-replicate, get_or-set_other, get_or-set_same, get_or-take, get_or_default, get_or_past, length-drop, length-map, length-replicate, length-take, take-map, take_all, take_more}
use Rattle.std.proofs.Math.ListN.{drop_of_length-le}
use Rattle.std.proofs.lemmas.List.Folds.{list_all-append}
use Rattle.std.proofs.lemmas.Option.{same_Some}
use Rattle.std.proofs.lemmas.Nat.Bits.{bit_at-suc, bit_at_lowest, bit_at-zero, bit_at_ones, bit_at_ones_above}
use Rattle.qc_types.specs.declared.names.Value.{Value}
use Rattle.qc_types.specs.declared.names.Value.TheVariants as value
use Rattle.qc_sql.specs.declared.statements.Op.{Op}
use Rattle.qc_sql.specs.declared.statements.Op.TheVariants as op
use Rattle.qc_sql.specs.declared.tables.Column.{Column}
use Rattle.qc_sql.specs.declared.tables.Kind.TheVariants as kind
use Rattle.qc_sql.specs.Database.{Table, key_value}
use Rattle.qc_sql.specs.Rows.{Combination, Truth, both, compared, holds_by, is_null, is_true}
use Rattle.qc_model.specs.Licence.{kind_fits, row_fits, value_fits}
use Rattle.qc_model.specs.Sound.{IsRow, IsSoundTable}
use Rattle.qc_lane.specs.Lanes.{is_set, stands, words_for, EndsAt}
use Rattle.qc_lane.proofs.BitSteps.{not_greater}
use Rattle.qc_table.specs.Bits.{bit_of}
use Rattle.qc_table.specs.Views.{ColumnValues, IsNulls, column_values, kind_at, row_at}
use Rattle.qc_table.specs.Views as views
use Rattle.qc_resolve.specs.declared.formula.Formula.{Formula}
use Rattle.qc_resolve.specs.declared.formula.Formula.TheVariants as formula
use Rattle.qc_resolve.specs.declared.formula.Place.{Place}
use Rattle.qc_resolve.specs.declared.test.Test.{Test}
use Rattle.qc_resolve.specs.Meaning.{truth, value_at}
use Rattle.qc_eval.specs.declared.window.Lane.{Lane}
use Rattle.qc_eval.specs.declared.window.Window.{Window}
use Rattle.qc_eval.specs.Lanes.{Entries, IsLane, IsMask, IsNumeric, IsWindow, Leaves, cells_of, number_of, relation, window_rows}
use Rattle.qc_eval.specs.Walk.{Keeping, passes}

-- ---- bits of words

same_bit : (k w : ℕ) → bit_of w k ≡ (bit_at w k == 1)
same_bit zero w = ap (λ n. n == 1) (sym (bit_at_lowest w))
same_bit (suc k) w = same_bit k (w / 2) ∙ ap (λ n. n == 1) (sym (bit_at-suc w k))

-- the bits that tell of NULL, as bits of a mask
null_is_set : (words : List ℕ) (values : List Value) → IsNulls words values → (i : ℕ) → i < length values → is_set words i ≡ is_null (get_or values i value.Null)
null_is_set words values n i low =
    sym (same_bit (i % 64) (get_or words (i / 64) 0)) ∙ n.bits i ∙ ap is_null (get_or_default values i (value.Int (pos 0)) value.Null low)

-- a part of some words has the bits of the values in it
part_is_set : (words : List ℕ) (word count i : ℕ) → i < count → is_set (take (words_for count) (drop word words)) i ≡ is_set words (64 * word + i)
part_is_set words word count i low =
    let row : (64 * word + i) / 64 ≡ word + i / 64 = omega arith in
    let place : (64 * word + i) % 64 ≡ i % 64 = omega arith in
    let within : i / 64 < (count + 63) / 64 = omega (arith, low) in
    let here : get_or (take (words_for count) (drop word words)) (i / 64) 0 ≡ get_or words (word + i / 64) 0 = get_or-take (words_for count) (drop word words) (i / 64) 0 within ∙ get_or-drop word words (i / 64) 0 in
    ap (λ n. bit_at n (i % 64) == 1) (here ∙ ap (λ k. get_or words k 0) (sym row))
    ∙ ap (λ k. bit_at (get_or words ((64 * word + i) / 64) 0) k == 1) (sym place)

-- ---- values of a column of numbers

both_hold : (a b : Bool) → (a && b) ≡ true → (a ≡ true) × (b ≡ true)
both_hold true b h = (refl, h)
both_hold false b h = absurd (true≢false (sym h))

numeric_fits : (d : Column) (v : Value) → d.kind ≡ kind.Int → value_fits d v ≡ true → IsNumeric v
numeric_fits d value.Null k h = tt
numeric_fits d (value.Int n) k h = tt
numeric_fits d (value.Str t) k h =
    let no : kind_fits kind.Int (value.Str t) ≡ true = ap (λ kd. kind_fits kd (value.Str t)) (sym k) ∙ (both_hold (kind_fits d.kind (value.Str t)) (not ((d.not_null || d.primary) && is_null (value.Str t))) h).0 in
    absurd (true≢false (sym no))

numeric_in_row : (cs : List Column) (vs : List Value) (k : ℕ) → kind_at cs k ≡ Some kind.Int → row_fits cs vs ≡ true → IsNumeric (views.value_at vs k)
numeric_in_row [] vs k is fits = absurd cc
numeric_in_row (d ∷ cs) [] k is fits = absurd (true≢false (sym fits))
numeric_in_row (d ∷ cs) (v ∷ vs) zero is fits = numeric_fits d v (same_Some d.kind kind.Int is) (both_hold (value_fits d v) (row_fits cs vs) fits).0
numeric_in_row (d ∷ cs) (v ∷ vs) (suc k) is fits = numeric_in_row cs vs k is (both_hold (value_fits d v) (row_fits cs vs) fits).1

numeric_column : (cs : List Column) (k : ℕ) → kind_at cs k ≡ Some kind.Int → (es : Entries) → AllByRecursion (IsRow cs) es → AllByRecursion IsNumeric (map (λ e. views.value_at e.1 k) es)
numeric_column cs k is [] h = tt
numeric_column cs k is (e ∷ es) h = (numeric_in_row cs e.1 k is h.0.0, numeric_column cs k is es h.1)

all_take : {X : Type 0} (P : X → Type 0) (n : ℕ) (xs : List X) → AllByRecursion P xs → AllByRecursion P (take n xs)
all_take P zero xs h = tt
all_take P (suc n) [] h = tt
all_take P (suc n) (x ∷ xs) h = (h.0, all_take P n xs h.1)

all_drop : {X : Type 0} (P : X → Type 0) (n : ℕ) (xs : List X) → AllByRecursion P xs → AllByRecursion P (drop n xs)
all_drop P zero xs h = h
all_drop P (suc n) [] h = tt
all_drop P (suc n) (x ∷ xs) h = all_drop P n xs h.1

one_of_all : {X : Type 0} (P : X → Type 0) (xs : List X) (i : ℕ) (d : X) → AllByRecursion P xs → i < length xs → P (get_or xs i d)
one_of_all P [] i d h low = absurd (omega arith)
one_of_all P (x ∷ xs) zero d h low = h.0
one_of_all P (x ∷ xs) (suc i) d h low = one_of_all P xs i d h.1 (omega arith)

-- ---- a column in a window

window_length : (t : Table) (w : Window) → IsWindow t w → length (window_rows t w) ≡ w.count
window_length t w within = length-take w.count (drop (64 * w.word) t.rows) ∙ (let long = length-drop (64 * w.word) t.rows in omega (arith, within, long))

pub lane_is : (t : Table) (w : Window) (column : ℕ) (lane : Lane) (values : List ℤ) (nulls : List ℕ) (shown : ColumnValues) → IsSoundTable t → kind_at t.columns column ≡ Some kind.Int → IsWindow t w
    → shown ≡ column_values t column → values ≡ map key_value shown.values → IsNulls nulls shown.values
    → lane.values.now ≡ take w.count (drop (64 * w.word) values) → lane.nulls.now ≡ take (words_for w.count) (drop w.word nulls)
    → IsLane (map (λ e. views.value_at e.1 column) (window_rows t w)) lane
lane_is t w column lane values nulls shown sound of_numbers within view shows tells takes_values takes_nulls = plain
  where
    taken : take w.count (drop (64 * w.word) (map (λ (e : ℤ × List Value). views.value_at e.1 column) t.rows)) ≡ map (λ (e : ℤ × List Value). views.value_at e.1 column) (window_rows t w)
    taken = ap (take w.count) (drop-map (λ (e : ℤ × List Value). views.value_at e.1 column) (64 * w.word) t.rows) ∙ take-map (λ (e : ℤ × List Value). views.value_at e.1 column) w.count (drop (64 * w.word) t.rows)

    shown_cells : shown.values ≡ map (λ (e : ℤ × List Value). views.value_at e.1 column) t.rows
    shown_cells = ap (λ (v : ColumnValues). v.values) view

    many : length (map (λ (e : ℤ × List Value). views.value_at e.1 column) (window_rows t w)) ≡ w.count
    many = length-map (window_rows t w) (λ (e : ℤ × List Value). views.value_at e.1 column) ∙ window_length t w within

    all_many : length shown.values ≡ length t.rows
    all_many = ap length shown_cells ∙ length-map t.rows (λ (e : ℤ × List Value). views.value_at e.1 column)

    nulls_long : length nulls ≡ (length t.rows + 63) / 64
    nulls_long = tells.count ∙ ap (λ n. (n + 63) / 64) all_many

    long : length (take (words_for w.count) (drop w.word nulls)) ≡ words_for w.count
    long = length-take (words_for w.count) (drop w.word nulls) ∙ (let rest = length-drop w.word nulls in omega (arith, within, nulls_long, rest))

    plain : IsLane (map (λ (e : ℤ × List Value). views.value_at e.1 column) (window_rows t w)) lane
    plain = record {
      values = takes_values ∙ ap (λ vs. take w.count (drop (64 * w.word) vs)) (shows ∙ ap (map key_value) shown_cells)
          ∙ ap (take w.count) (drop-map key_value (64 * w.word) (map (λ (e : ℤ × List Value). views.value_at e.1 column) t.rows))
          ∙ take-map key_value w.count (drop (64 * w.word) (map (λ (e : ℤ × List Value). views.value_at e.1 column) t.rows))
          ∙ ap (map key_value) taken;
      words = ap length takes_nulls ∙ long ∙ ap words_for (sym many);
      nulls = λ i low.
          (let there : i < w.count = omega (arith, low, many) in
          let inside : 64 * w.word + i < length shown.values = omega (arith, there, within, all_many) in
          ap (λ ws. is_set ws i) takes_nulls ∙ part_is_set nulls w.word w.count i there ∙ null_is_set nulls shown.values tells (64 * w.word + i) inside
          ∙ ap is_null (ap (λ vs. get_or vs (64 * w.word + i) value.Null) shown_cells
          ∙ sym (get_or-take w.count (drop (64 * w.word) (map (λ (e : ℤ × List Value). views.value_at e.1 column) t.rows)) i value.Null there ∙ get_or-drop (64 * w.word) (map (λ (e : ℤ × List Value). views.value_at e.1 column) t.rows) i value.Null)
          ∙ ap (λ vs. get_or vs i value.Null) taken));
      numeric = subst (AllByRecursion IsNumeric) taken (all_take IsNumeric w.count (drop (64 * w.word) (map (λ (e : ℤ × List Value). views.value_at e.1 column) t.rows)) (all_drop IsNumeric (64 * w.word) (map (λ (e : ℤ × List Value). views.value_at e.1 column) t.rows) (numeric_column t.columns column of_numbers t.rows sound.rows)));
    }

-- where a place is of the only table
pub lane_at : (t : Table) (w : Window) (p : Place) (lane : Lane) → p.slot ≡ 0 → IsLane (map (λ e. views.value_at e.1 p.column) (window_rows t w)) lane → IsLane (cells_of (value_at p) (window_rows t w)) lane
lane_at t w p lane only h = subst (λ cells. IsLane cells lane) (λ j. map (λ (e : ℤ × List Value). get_or (get_or (e.1 ∷ []) (sym only j) []) p.column value.Null) (window_rows t w)) h

-- ---- relations of numbers

pub lt_is : (m n : ℤ) → int_lt m n ≡ is_lt (int_cmp m n)
lt_is m n = by (int_lt m n) (int_lt n m)
  where
    by : (a b : Bool) → a ≡ is_lt (cond a Less (cond b Greater Equal))
    by true b = refl
    by false true = refl
    by false false = refl

turned : (r : Ordering) → is_gt (ordering_reverse r) ≡ is_lt r
turned Less = refl
turned Equal = refl
turned Greater = refl

pub gt_is : (m n : ℤ) → int_lt n m ≡ is_gt (int_cmp m n)
gt_is m n = lt_is n m ∙ sym (turned (int_cmp n m)) ∙ ap is_gt (sym (int_cmp_total.antisymm m n))

relation_holds : (o : Op) (m n : ℤ) → stands (relation o) m n ≡ holds_by o (int_cmp m n)
relation_holds op.Eq m n = refl
relation_holds op.Ne m n = refl
relation_holds op.Lt m n = lt_is m n
relation_holds op.Le m n = not_greater m n ∙ ap not (gt_is m n)
relation_holds op.Gt m n = gt_is m n
relation_holds op.Ge m n = not_greater n m ∙ ap not (lt_is m n)

value_stands : (o : Op) (v : Value) (n : ℤ) → IsNumeric v → (not (is_null v) && stands (relation o) (key_value v) n) ≡ is_true (compared o v (value.Int n))
value_stands o value.Null n h = refl
value_stands o (value.Int m) n h = relation_holds o m n
value_stands o (value.Str t) n h = absurd h

-- ---- masks

in_turn : (a n h : Bool) → ((n && h) && a) ≡ (a && (n && h))
in_turn true true true = refl
in_turn true true false = refl
in_turn true false h = refl
in_turn false true true = refl
in_turn false true false = refl
in_turn false false h = refl

-- a comparison of a column, taken into a mask
pub narrowed : (cells : List Value) (lane : Lane) (o : Op) (n : ℤ) (old other new : List ℕ) → IsLane cells lane
    → ((i : ℕ) → is_set other i ≡ (nat_lt i (length lane.values.now) && (not (is_set lane.nulls.now i) && stands (relation o) (get_or lane.values.now i (pos 0)) n)))
    → ((i : ℕ) → is_set new i ≡ (is_set other i && is_set old i))
    → (i : ℕ) → is_set new i ≡ (is_set old i && (nat_lt i (length cells) && is_true (compared o (get_or cells i value.Null) (value.Int n))))
narrowed cells lane o n old other new l compares joins i =
    joins i ∙ ap (λ b. b && is_set old i) (compares i ∙ ap (λ m. nat_lt i m && (not (is_set lane.nulls.now i) && stands (relation o) (get_or lane.values.now i (pos 0)) n)) many ∙ by (nat_lt i (length cells)) refl)
    ∙ in_turn (is_set old i) (nat_lt i (length cells)) (is_true (compared o (get_or cells i value.Null) (value.Int n)))
  where
    many : length lane.values.now ≡ length cells
    many = ap length l.values ∙ length-map cells key_value

    by : (b : Bool) → nat_lt i (length cells) ≡ b → (b && (not (is_set lane.nulls.now i) && stands (relation o) (get_or lane.values.now i (pos 0)) n)) ≡ (b && is_true (compared o (get_or cells i value.Null) (value.Int n)))
    by false e = refl
    by true e =
        let low : i < length cells = ltb-true i (length cells) e in
        let here : get_or lane.values.now i (pos 0) ≡ key_value (get_or cells i value.Null) = ap (λ vs. get_or vs i (pos 0)) l.values ∙ get_or-map key_value cells i value.Null (pos 0) low in
        (λ j. not (l.nulls i low j) && stands (relation o) (here j) n)
        ∙ value_stands o (get_or cells i value.Null) n (one_of_all IsNumeric cells i value.Null l.numeric low)

cell_at : (g : Combination → Value) (rows : Entries) (i : ℕ) → i < length rows → get_or (cells_of g rows) i value.Null ≡ g (row_at rows i ∷ [])
cell_at g [] i low = absurd (omega arith)
cell_at g (e ∷ es) zero low = refl
cell_at g (e ∷ es) (suc i) low = cell_at g es i (omega arith)

-- what is left by the values of a column is left by the rows
pub leaves_cells : (g : Combination → Value) (q : Value → Bool) (rows : Entries) (old new : List ℕ)
    → ((i : ℕ) → is_set new i ≡ (is_set old i && (nat_lt i (length (cells_of g rows)) && q (get_or (cells_of g rows) i value.Null)))) → Leaves rows (λ c. q (g c)) old new
leaves_cells g q rows old new h i =
    h i ∙ ap (λ b. is_set old i && b) (ap (λ m. nat_lt i m && q (get_or (cells_of g rows) i value.Null)) (length-map rows (λ e. g (e.1 ∷ []))) ∙ by (nat_lt i (length rows)) refl)
  where
    by : (b : Bool) → nat_lt i (length rows) ≡ b → (b && q (get_or (cells_of g rows) i value.Null)) ≡ (b && q (g (row_at rows i ∷ [])))
    by false e = refl
    by true e = ap q (cell_at g rows i (ltb-true i (length rows) e))

pub leaves_alike : (rows : Entries) (p q : Keeping) (old new : List ℕ) → ((c : Combination) → p c ≡ q c) → Leaves rows p old new → Leaves rows q old new
leaves_alike rows p q old new same h i = h i ∙ ap (λ b. is_set old i && (nat_lt i (length rows) && b)) (same (row_at rows i ∷ []))

gathered : (a n p q : Bool) → ((a && (n && p)) && (n && q)) ≡ (a && (n && (p && q)))
gathered false n p q = refl
gathered true false p q = refl
gathered true true p q = refl

-- one thing after another
pub leaves_both : (rows : Entries) (p q : Keeping) (a b c : List ℕ) → Leaves rows p a b → Leaves rows q b c → Leaves rows (λ x. p x && q x) a c
leaves_both rows p q a b c u v i =
    v i ∙ ap (λ m. m && (nat_lt i (length rows) && q (row_at rows i ∷ []))) (u i) ∙ gathered (is_set a i) (nat_lt i (length rows)) (p (row_at rows i ∷ [])) (q (row_at rows i ∷ []))

pub true_both : (s t : Truth) → (is_true s && is_true t) ≡ is_true (both s t)
true_both None None = refl
true_both None (Some true) = refl
true_both None (Some false) = refl
true_both (Some true) None = refl
true_both (Some true) (Some true) = refl
true_both (Some true) (Some false) = refl
true_both (Some false) t = refl

-- no test yet
pub leaves_first : (rows : Entries) (mask : List ℕ) → ((i : ℕ) → length rows ≤ i → is_set mask i ≡ false) → Leaves rows (λ c. passes c []) mask mask
leaves_first rows mask ends i = by (nat_lt i (length rows)) refl
  where
    unchanged : (b : Bool) → b ≡ (b && true)
    unchanged true = refl
    unchanged false = refl

    by : (b : Bool) → nat_lt i (length rows) ≡ b → is_set mask i ≡ (is_set mask i && (nat_lt i (length rows) && true))
    by true e = unchanged (is_set mask i) ∙ ap (λ n. is_set mask i && (n && true)) (sym e)
    by false e = (let none = ends i (ltb-false i (length rows) e) in none ∙ ap (λ b. b && (nat_lt i (length rows) && true)) (sym none))

-- one test more
pub leaves_more : (rows : Entries) (tests : List Test) (k : ℕ) (t : Test) (a b c : List ℕ) → k < length tests → t ≡ get_or tests k t
    → Leaves rows (λ x. passes x (take k tests)) a b → Leaves rows (λ x. is_true (truth x t)) b c → Leaves rows (λ x. passes x (take (k + 1) tests)) a c
leaves_more rows tests k t a b c low is u v =
    leaves_alike rows (λ x. passes x (take k tests) && is_true (truth x t)) (λ x. passes x (take (k + 1) tests)) a c more (leaves_both rows (λ x. passes x (take k tests)) (λ x. is_true (truth x t)) a b c u v)
  where
    last : (p b : Bool) → (p && b) ≡ (p && (b && true))
    last true true = refl
    last true false = refl
    last false b = refl

    more : (x : Combination) → (passes x (take k tests) && is_true (truth x t)) ≡ passes x (take (k + 1) tests)
    more x =
        last (passes x (take k tests)) (is_true (truth x t))
        ∙ sym (ap (list_all (λ u. is_true (truth x u))) (take_more tests k t low ∙ ap (λ u. take k tests ++ u ∷ []) (sym is))
        ∙ list_all-append (λ u. is_true (truth x u)) (take k tests) (t ∷ []))

-- from a mask of all rows
pub mask_left : (rows : Entries) (keep : Keeping) (count : ℕ) (full mask : List ℕ) → length rows ≡ count → length mask ≡ words_for count → ((i : ℕ) → is_set full i ≡ nat_lt i count) → Leaves rows keep full mask → IsMask rows keep mask
mask_left rows keep count full mask many long all h = record {
  words = long ∙ ap words_for (sym many);
  bits = λ i. h i ∙ ap (λ b. b && (nat_lt i (length rows) && keep (row_at rows i ∷ []))) (all i ∙ ap (nat_lt i) (sym many)) ∙ twice (nat_lt i (length rows)) (keep (row_at rows i ∷ []));
}
  where
    twice : (n k : Bool) → (n && (n && k)) ≡ (n && k)
    twice true k = refl
    twice false k = refl

pub mask_ends : (rows : Entries) (keep : Keeping) (mask : List ℕ) → IsMask rows keep mask → EndsAt mask (length rows)
mask_ends rows keep mask m i past =
    let none : nat_lt i (length rows) ≡ false = grind (arith, nat_tests) in
    m.bits i ∙ ap (λ b. b && keep (row_at rows i ∷ [])) none

pub window_many : (t : Table) (w : Window) → IsWindow t w → length (window_rows t w) ≡ w.count
window_many t w within = window_length t w within

-- ---- more on lanes and words

pub number_is : (f : Formula) (n : ℤ) → number_of f ≡ Some n → f ≡ formula.Literal (value.Int n)
number_is (formula.Literal (value.Int m)) n e = ap (λ k. formula.Literal (value.Int k)) (same_Some m n e)
number_is (formula.Literal value.Null) n e = absurd cc
number_is (formula.Literal (value.Str t)) n e = absurd cc
number_is (formula.Column p) n e = absurd cc
number_is (formula.Folded k) n e = absurd cc
number_is (formula.Present' _ fs) n e = absurd cc
number_is (formula.Length' _ fs) n e = absurd cc
number_is (formula.Concat' _ fs) n e = absurd cc

pub lane_many : (cells : List Value) (lane : Lane) → IsLane cells lane → length lane.values.now ≡ length cells
lane_many cells lane l = ap length l.values ∙ length-map cells key_value

pub lane_words : (cells : List Value) (lane : Lane) → IsLane cells lane → length lane.nulls.now ≡ words_for (length lane.values.now)
lane_words cells lane l = l.words ∙ ap words_for (sym (lane_many cells lane l))

-- a column in a window has a number for each row
pub lane_count : (t : Table) (w : Window) (g : Combination → Value) (lane : Lane) → IsWindow t w → IsLane (cells_of g (window_rows t w)) lane → length lane.values.now ≡ w.count
lane_count t w g lane within l = lane_many (cells_of g (window_rows t w)) lane l ∙ length-map (window_rows t w) (λ e. g (e.1 ∷ [])) ∙ window_length t w within

pub word_bit : (words : List ℕ) (k j : ℕ) → j < 64 → is_set words (64 * k + j) ≡ (bit_at (get_or words k 0) j == 1)
word_bit words k j low =
    let row : (64 * k + j) / 64 ≡ k = omega (arith, low) in
    let place : (64 * k + j) % 64 ≡ j = omega (arith, low) in
    ap (λ n. bit_at (get_or words n 0) ((64 * k + j) % 64) == 1) row ∙ ap (λ n. bit_at (get_or words k 0) n == 1) place

no_bit : (k : ℕ) → (bit_at 0 k == 1) ≡ false
no_bit k = ap (λ n. n == 1) (bit_at-zero k)

pub past_words : (words : List ℕ) (j : ℕ) → 64 * length words ≤ j → is_set words j ≡ false
past_words words j far = ap (λ n. bit_at n (j % 64) == 1) (get_or_past words (j / 64) 0 (omega (arith, far))) ∙ no_bit (j % 64)

-- what is left in a vector through a slice of it
pub written_back : (len : ℕ) (left all : List ℕ) → length left ≡ length all → length all ≡ len → take len (left ++ drop (length left) all) ≡ left
written_back len left all kept many =
    let none : length all ≤ length left = omega (arith, kept) in
    ap (λ rest. take len (left ++ rest)) (drop_of_length-le all none) ∙ ap (take len) (append-nil left) ∙ take_all len left (omega (arith, kept, many))

-- ---- a mask of all rows

all_ones : (i : ℕ) → (bit_at 18446744073709551615 (i % 64) == 1) ≡ true
all_ones i = ap (λ n. n == 1) (bit_at_ones 64 (i % 64) (omega arith))

is_below : (a b : ℕ) → a < b → nat_lt a b ≡ true
is_below a b h = grind (arith, nat_tests)

pub isnt_below : (a b : ℕ) → b ≤ a → nat_lt a b ≡ false
isnt_below a b h = grind (arith, nat_tests)

full_word : (n i : ℕ) → i / 64 < n → is_set (replicate n 18446744073709551615) i ≡ true
full_word n i low = ap (λ w. bit_at w (i % 64) == 1) (get_or-replicate n (i / 64) 18446744073709551615 0 low) ∙ all_ones i

past_full : (n i : ℕ) → n ≤ i / 64 → is_set (replicate n 18446744073709551615) i ≡ false
past_full n i far =
    let long = length-replicate {A = ℕ} n 18446744073709551615 in
    ap (λ w. bit_at w (i % 64) == 1) (get_or_past (replicate n 18446744073709551615) (i / 64) 0 (omega (arith, far, long))) ∙ no_bit (i % 64)

pub full_whole : (count n : ℕ) → n ≡ count / 64 → count % 64 ≡ 0 → (i : ℕ) → is_set (replicate n 18446744073709551615) i ≡ nat_lt i count
full_whole count n many none i = by (nat_lt (i / 64) n) refl
  where
    by : (b : Bool) → nat_lt (i / 64) n ≡ b → is_set (replicate n 18446744073709551615) i ≡ nat_lt i count
    by true e = let low = ltb-true (i / 64) n e in full_word n i low ∙ sym (is_below i count (omega (arith, low, many)))
    by false e = let far = ltb-false (i / 64) n e in past_full n i far ∙ sym (isnt_below i count (omega (arith, far, many, none)))

pub full_part : (count n last : ℕ) → n ≡ count / 64 + 1 → last ≡ 2 ^ (count % 64) - 1 → (i : ℕ) → is_set (set (replicate n 18446744073709551615) (count / 64) last) i ≡ nat_lt i count
full_part count n last many is i = by (nat_eq (i / 64) (count / 64)) refl
  where
    long : length {A = ℕ} (replicate n 18446744073709551615) ≡ n
    long = length-replicate {A = ℕ} n 18446744073709551615

    in_last : (b : Bool) → i / 64 ≡ count / 64 → nat_lt (i % 64) (count % 64) ≡ b → (bit_at (2 ^ (count % 64) - 1) (i % 64) == 1) ≡ nat_lt i count
    in_last true same e = let low = ltb-true (i % 64) (count % 64) e in ap (λ n. n == 1) (bit_at_ones (count % 64) (i % 64) low) ∙ sym (is_below i count (omega (arith, low, same)))
    in_last false same e = let far = ltb-false (i % 64) (count % 64) e in ap (λ n. n == 1) (bit_at_ones_above (count % 64) (i % 64) far) ∙ sym (isnt_below i count (omega (arith, far, same)))

    other : (b : Bool) → (i / 64 ≡ count / 64 → ⊥) → nat_lt (i / 64) n ≡ b → is_set (replicate n 18446744073709551615) i ≡ nat_lt i count
    other true apart e =
        let low = ltb-true (i / 64) n e in
        let before : i / 64 < count / 64 = omega (arith, low, many, apart) in
        full_word n i low ∙ sym (is_below i count (omega (arith, before)))
    other false apart e = let far = ltb-false (i / 64) n e in past_full n i far ∙ sym (isnt_below i count (omega (arith, far, many)))

    by : (b : Bool) → nat_eq (i / 64) (count / 64) ≡ b → is_set (set (replicate n 18446744073709551615) (count / 64) last) i ≡ nat_lt i count
    by true e =
        let same : i / 64 ≡ count / 64 = grind (arith, nat_tests) in
        ap (λ k. bit_at (get_or (set (replicate n 18446744073709551615) (count / 64) last) k 0) (i % 64) == 1) same
        ∙ ap (λ w. bit_at w (i % 64) == 1) (get_or-set_same (replicate n 18446744073709551615) (count / 64) last 0 (omega (arith, long, many)) ∙ is)
        ∙ in_last (nat_lt (i % 64) (count % 64)) same refl
    by false e =
        let apart : i / 64 ≡ count / 64 → ⊥ = λ s. grind (arith, nat_tests) in
        ap (λ w. bit_at w (i % 64) == 1) (get_or-set_other (replicate n 18446744073709551615) (count / 64) (i / 64) last 0 apart) ∙ other (nat_lt (i / 64) n) apart refl
