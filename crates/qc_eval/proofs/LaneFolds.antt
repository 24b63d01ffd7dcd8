-- What aggregates give over the rows of a window that a mask has.
use Rattle.std.proofs.Common.{◌≡◌, ℕ, ℤ, pos, zero, suc, ◌+◌, ◌*◌, ◌<◌, ◌≤◌, min, nat_lt, Bool, true, false, cond, not, true≢false, List, [], ◌∷◌, ◌++◌, length, map, filter, take, drop, get_or, refl, sym, ap, ◌∙◌, subst, arith}
use Rattle.std.specs.Prelude.{◌&&◌, ◌+ℤ◌, ◌<ℤ◌, int_lt, if◌then◌else◌}
use Rattle.std.specs.Int.{int_min, int_max}
use Rattle.std.specs.List.{AllByRecursion, flat_map}
use Rattle.std.specs.Ordering.{int_cmp, is_lt, is_gt, MatchOrdering}
use Rattle.std.specs.Cmp.{int_ranks}
use Rattle.std.specs.declared.cmp.Ordering.{Ordering}
use Rattle.std.specs.declared.cmp.Ordering.TheVariants.{Less, Equal, Greater}
use Rattle.std.proofs.lemmas.Bool.Decides.{nat_tests}
use Rattle.std.proofs.lemmas.List.{get_or-drop, get_or-take, length-drop, length-map, length-take, map-append, take-append-drop}
use Rattle.std.proofs.lemmas.List.Elements.{filter-append}
use Rattle.qc_types.specs.declared.names.Value.{Value}
use Rattle.qc_types.specs.declared.names.Value.TheVariants as value
use Rattle.qc_sql.specs.Database.{Table, key_value}
use Rattle.qc_sql.specs.Rows.{Combination, best, is_null, non_null, sum_of, sum_value}
use Rattle.qc_lane.specs.Lanes.{greatest, is_set, least, masked_from, or_greater, or_smaller, total, words_for, EndsAt}
use Rattle.qc_table.specs.Views.{int_value, row_at}
use Rattle.qc_resolve.specs.declared.test.Test.{Test}
use Rattle.qc_resolve.specs.Meaning.{all_combinations}
use Rattle.qc_eval.specs.declared.range.RowRange.{RowRange}
use Rattle.qc_eval.specs.declared.window.Lane.{Lane}
use Rattle.qc_eval.specs.declared.window.Window.{Window}
use Rattle.qc_eval.specs.Folds.{higher, lower}
use Rattle.qc_eval.specs.Lanes.{Entries, AreMasks, IsLane, IsMask, IsNumeric, IsWindow, cells_of, picked, picked_from, seen, singles, window_rows}
use Rattle.qc_eval.specs.Ranges.{LeavesOut}
use Rattle.qc_eval.specs.Walk.{Keeping, passes, passes_all}
use Rattle.qc_eval.proofs.LaneSteps.{lt_is, mask_ends, window_many}

-- ---- the rows that a mask has

picked_kept : (keep : Keeping) (g : Combination → Value) (mask : List ℕ) (k : ℕ) (rows : Entries) → ((i : ℕ) → i < length rows → is_set mask (k + i) ≡ keep (row_at rows i ∷ [])) → picked_from k mask (cells_of g rows) ≡ map g (filter keep (singles rows))
picked_kept keep g mask k [] h = refl
picked_kept keep g mask k (e ∷ es) h =
    let at : k ≡ k + 0 = omega arith in
    by (is_set mask k) (keep (e.1 ∷ [])) (ap (is_set mask) at ∙ h 0 (omega arith))
    (picked_kept keep g mask (k + 1) es (λ i low. let next : k + 1 + i ≡ k + suc i = omega arith in ap (is_set mask) next ∙ h (suc i) (omega arith)))
  where
    by : (a b : Bool) → a ≡ b → picked_from (k + 1) mask (cells_of g es) ≡ map g (filter keep (singles es))
        → (if a then g (e.1 ∷ []) ∷ picked_from (k + 1) mask (cells_of g es) else picked_from (k + 1) mask (cells_of g es)) ≡ map g (if b then (e.1 ∷ []) ∷ filter keep (singles es) else filter keep (singles es))
    by true true s rest = ap (λ vs. g (e.1 ∷ []) ∷ vs) rest
    by false false s rest = rest
    by true false s rest = absurd (true≢false s)
    by false true s rest = absurd (true≢false (sym s))

pub picked_by_mask : (keep : Keeping) (g : Combination → Value) (mask : List ℕ) (rows : Entries) → IsMask rows keep mask → picked mask (cells_of g rows) ≡ map g (filter keep (singles rows))
picked_by_mask keep g mask rows m =
    picked_kept keep g mask 0 rows (λ i low.
    let at : 0 + i ≡ i = omega arith in
    let there : nat_lt i (length rows) ≡ true = grind (arith, nat_tests) in
    ap (is_set mask) at ∙ m.bits i ∙ ap (λ b. b && keep (row_at rows i ∷ [])) there)

-- the values there
pub seen_by_mask : (keep : Keeping) (g : Combination → Value) (mask : List ℕ) (rows : Entries) → IsMask rows keep mask → seen mask (cells_of g rows) ≡ non_null g (filter keep (singles rows))
seen_by_mask keep g mask rows m = ap (filter (λ v. not (is_null v))) (picked_by_mask keep g mask rows m)

pub many_by_mask : (keep : Keeping) (mask : List ℕ) (rows : Entries) → IsMask rows keep mask → length (picked mask (cells_of (λ c. value.Null) rows)) ≡ length (filter keep (singles rows))
many_by_mask keep mask rows m = ap length (picked_by_mask keep (λ c. value.Null) mask rows m) ∙ length-map (filter keep (singles rows)) (λ c. value.Null)

-- as many of the numbers as of the cells
pub masked_many : (mask : List ℕ) (k : ℕ) (cells : List Value) → length (masked_from k mask (map key_value cells)) ≡ length (picked_from k mask cells)
masked_many mask k [] = refl
masked_many mask k (c ∷ cs) = by (is_set mask k) (masked_many mask (k + 1) cs)
  where
    by : (b : Bool) → length (masked_from (k + 1) mask (map key_value cs)) ≡ length (picked_from (k + 1) mask cs)
        → length (if b then key_value c ∷ masked_from (k + 1) mask (map key_value cs) else masked_from (k + 1) mask (map key_value cs)) ≡ length (if b then c ∷ picked_from (k + 1) mask cs else picked_from (k + 1) mask cs)
    by true rest = ap suc rest
    by false rest = rest

-- ---- the numbers of a column that are there

-- a NULL's bit is cleared, and another's stays
abbrev Clears : ℕ → List ℕ → List ℕ → List Value → Type 0
Clears k mask other cells = (i : ℕ) → i < length cells → is_set other (k + i) ≡ (is_set mask (k + i) && not (is_null (get_or cells i value.Null)))

there_from : (mask other : List ℕ) (k : ℕ) (cells : List Value) → AllByRecursion IsNumeric cells → Clears k mask other cells
    → map value.Int (masked_from k other (map key_value cells)) ≡ filter (λ v. not (is_null v)) (picked_from k mask cells)
there_from mask other k [] n h = refl
there_from mask other k (c ∷ cs) n h =
    let at : k ≡ k + 0 = omega arith in
    by c n.0 (is_set other k) (is_set mask k) (ap (is_set other) at ∙ h 0 (omega arith) ∙ ap (λ j. is_set mask j && not (is_null c)) (sym at))
    (there_from mask other (k + 1) cs n.1 (λ i low. let next : k + 1 + i ≡ k + suc i = omega arith in ap (is_set other) next ∙ h (suc i) (omega arith) ∙ ap (λ j. is_set mask j && not (is_null (get_or cs i value.Null))) (sym next)))
  where
    by : (v : Value) → IsNumeric v → (a b : Bool) → a ≡ (b && not (is_null v)) → map value.Int (masked_from (k + 1) other (map key_value cs)) ≡ filter (λ v. not (is_null v)) (picked_from (k + 1) mask cs)
        → map value.Int (if a then key_value v ∷ masked_from (k + 1) other (map key_value cs) else masked_from (k + 1) other (map key_value cs)) ≡ filter (λ v. not (is_null v)) (if b then v ∷ picked_from (k + 1) mask cs else picked_from (k + 1) mask cs)
    by value.Null q false true s rest = rest
    by value.Null q false false s rest = rest
    by value.Null q true true s rest = absurd (true≢false s)
    by value.Null q true false s rest = absurd (true≢false s)
    by (value.Int m) q true true s rest = ap (λ vs. value.Int m ∷ vs) rest
    by (value.Int m) q false false s rest = rest
    by (value.Int m) q true false s rest = absurd (true≢false s)
    by (value.Int m) q false true s rest = absurd (true≢false (sym s))
    by (value.Str t) q a b s rest = absurd q

-- the numbers whose bit is left are the values that are there
pub numbers_seen : (cells : List Value) (lane : Lane) (mask other : List ℕ) → IsLane cells lane → ((i : ℕ) → is_set other i ≡ (is_set mask i && not (is_set lane.nulls.now i)))
    → map value.Int (masked_from 0 other lane.values.now) ≡ seen mask cells
numbers_seen cells lane mask other l h =
    ap (λ vs. map value.Int (masked_from 0 other vs)) l.values
    ∙ there_from mask other 0 cells l.numeric (λ i low. let at : 0 + i ≡ i = omega arith in ap (is_set other) at ∙ h i ∙ ap (λ b. is_set mask i && not b) (l.nulls i low) ∙ ap (λ j. is_set mask j && not (is_null (get_or cells i value.Null))) (sym at))

-- how many
pub numbers_many : (cells : List Value) (lane : Lane) (mask other : List ℕ) → IsLane cells lane → ((i : ℕ) → is_set other i ≡ (is_set mask i && not (is_set lane.nulls.now i)))
    → length (masked_from 0 other lane.values.now) ≡ length (seen mask cells)
numbers_many cells lane mask other l h = sym (length-map (masked_from 0 other lane.values.now) value.Int) ∙ ap length (numbers_seen cells lane mask other l h)

-- what ends a mask ends another that has no further bits
pub still_ends : (mask other nulls : List ℕ) (n : ℕ) → ((i : ℕ) → is_set other i ≡ (is_set mask i && not (is_set nulls i))) → EndsAt mask n → EndsAt other n
still_ends mask other nulls n h ends i past = h i ∙ ap (λ b. b && not (is_set nulls i)) (ends i past)

-- ---- sums

sum_total : (xs : List ℤ) → sum_of (map value.Int xs) ≡ total xs
sum_total [] = refl
sum_total (x ∷ xs) = ap (λ n. x +ℤ n) (sum_total xs)

pub sum_some : (xs : List ℤ) → (length xs ≡ 0 → ⊥) → sum_value (map value.Int xs) ≡ value.Int (total xs)
sum_some [] some = absurd (some refl)
sum_some (x ∷ xs) some = ap value.Int (sum_total (x ∷ xs))

pub sum_none : (xs : List ℤ) → length xs ≡ 0 → sum_value (map value.Int xs) ≡ value.Null
sum_none [] none = refl
sum_none (x ∷ xs) none = absurd (omega (arith, none))

-- ---- the least and the greatest

pub least_best : (xs : List ℤ) → best lower (map value.Int xs) ≡ int_value (least xs)
least_best [] = refl
least_best (x ∷ []) = refl
least_best (x ∷ y ∷ ys) = ap (λ r. if lower r (value.Int x) then r else value.Int x) (least_best (y ∷ ys)) ∙ pick (or_smaller y (least ys))
  where
    by : (r : ℤ) (b : Bool) → (if b then value.Int r else value.Int x) ≡ value.Int (cond b r x)
    by r true = refl
    by r false = refl

    pick : (r : ℤ) → (if lower (value.Int r) (value.Int x) then value.Int r else value.Int x) ≡ value.Int (int_min x r)
    pick r = ap (λ b. if b then value.Int r else value.Int x) (sym (lt_is r x)) ∙ by r (int_lt r x)

pub greatest_best : (xs : List ℤ) → best higher (map value.Int xs) ≡ int_value (greatest xs)
greatest_best [] = refl
greatest_best (x ∷ []) = refl
greatest_best (x ∷ y ∷ ys) = ap (λ r. if higher r (value.Int x) then r else value.Int x) (greatest_best (y ∷ ys)) ∙ pick (or_greater y (greatest ys))
  where
    by : (r : ℤ) (o : Ordering) → MatchOrdering o (r <ℤ x) (r ≡ x) (x <ℤ r) → (if is_gt o then value.Int r else value.Int x) ≡ value.Int (cond (is_lt o) x r)
    by r Less h = refl
    by r Equal h = ap value.Int (sym h)
    by r Greater h = refl

    pick : (r : ℤ) → (if higher (value.Int r) (value.Int x) then value.Int r else value.Int x) ≡ value.Int (int_max x r)
    pick r = by r (int_cmp r x) (int_ranks r x) ∙ ap (λ b. value.Int (cond b x r)) (sym (lt_is r x))

-- ---- the window of a table

pub one_table : (rows : Entries) → flat_map (λ entry. map (λ c. entry.1 ∷ c) ([] ∷ [])) rows ≡ singles rows
one_table [] = refl
one_table (e ∷ es) = ap (λ cs. (e.1 ∷ []) ∷ cs) (one_table es)

none_kept : (keep : Keeping) (rows : Entries) → ((i : ℕ) → i < length rows → keep (row_at rows i ∷ []) ≡ false) → filter keep (singles rows) ≡ []
none_kept keep [] h = refl
none_kept keep (e ∷ es) h = by (keep (e.1 ∷ [])) (h 0 (omega arith)) (none_kept keep es (λ i low. h (suc i) (omega arith)))
  where
    by : (b : Bool) → b ≡ false → filter keep (singles es) ≡ [] → (if b then (e.1 ∷ []) ∷ filter keep (singles es) else filter keep (singles es)) ≡ []
    by true s rest = absurd (true≢false s)
    by false s rest = rest

row_of_entry : (rows : Entries) (i : ℕ) (d : ℤ × List Value) → i < length rows → row_at rows i ≡ (get_or rows i d).1
row_of_entry [] i d low = absurd (omega arith)
row_of_entry (e ∷ es) zero d low = refl
row_of_entry (e ∷ es) (suc i) d low = row_of_entry es i d (omega arith)

filter_parts : (keep : Keeping) (n : ℕ) (rows : Entries) → filter keep (singles rows) ≡ filter keep (singles (take n rows)) ++ filter keep (singles (drop n rows))
filter_parts keep n rows =
    ap (λ es. filter keep (singles es)) (sym (take-append-drop n rows))
    ∙ ap (filter keep) (map-append (λ (e : ℤ × List Value). e.1 ∷ []) (take n rows) (drop n rows))
    ∙ filter-append keep (singles (take n rows)) (singles (drop n rows))

pub row_taken : (n : ℕ) (rows : Entries) (i : ℕ) → i < length (take n rows) → row_at (take n rows) i ≡ row_at rows i
row_taken n rows i low =
    let long = length-take n rows in
    let inside : i < n = omega (arith, low, long) in
    let there : i < length rows = omega (arith, low, long) in
    row_of_entry (take n rows) i (pos 0, []) low ∙ ap (λ (e : ℤ × List Value). e.1) (get_or-take n rows i (pos 0, []) inside) ∙ sym (row_of_entry rows i (pos 0, []) there)

pub row_dropped : (n : ℕ) (rows : Entries) (i : ℕ) → i < length (drop n rows) → row_at (drop n rows) i ≡ row_at rows (n + i)
row_dropped n rows i low =
    let long = length-drop n rows in
    let there : n + i < length rows = omega (arith, low, long) in
    row_of_entry (drop n rows) i (pos 0, []) low ∙ ap (λ (e : ℤ × List Value). e.1) (get_or-drop n rows i (pos 0, [])) ∙ sym (row_of_entry rows (n + i) (pos 0, []) there)

nothing_after : (xs : List Combination) → xs ++ [] ≡ xs
nothing_after [] = refl
nothing_after (x ∷ xs) = ap (λ ys. x ∷ ys) (nothing_after xs)

-- no row outside of the window is kept
in_window : (keep : Keeping) (t : Table) (w : Window) (r : RowRange) → LeavesOut (length t.rows) (λ i. keep (row_at t.rows i ∷ [])) r → 64 * w.word ≤ r.from → 64 * w.word + w.count ≡ min r.to (length t.rows)
    → filter keep (singles t.rows) ≡ filter keep (singles (window_rows t w))
in_window keep t w r out from to =
    filter_parts keep (64 * w.word) t.rows
    ∙ ap (λ cs. cs ++ filter keep (singles (drop (64 * w.word) t.rows))) front
    ∙ filter_parts keep w.count (drop (64 * w.word) t.rows)
    ∙ ap (λ cs. filter keep (singles (window_rows t w)) ++ cs) back
    ∙ nothing_after (filter keep (singles (window_rows t w)))
  where
    front : filter keep (singles (take (64 * w.word) t.rows)) ≡ []
    front = none_kept keep (take (64 * w.word) t.rows) (λ i low.
        let long = length-take (64 * w.word) t.rows in
        ap (λ row. keep (row ∷ [])) (row_taken (64 * w.word) t.rows i low) ∙ out.before i (omega (arith, low, long)) (omega (arith, low, long, from)))

    back : filter keep (singles (drop w.count (drop (64 * w.word) t.rows))) ≡ []
    back = none_kept keep (drop w.count (drop (64 * w.word) t.rows)) (λ i low.
        let long = length-drop w.count (drop (64 * w.word) t.rows) in
        let all = length-drop (64 * w.word) t.rows in
        ap (λ row. keep (row ∷ [])) (row_dropped w.count (drop (64 * w.word) t.rows) i low ∙ row_dropped (64 * w.word) t.rows (w.count + i) (omega (arith, low, long)))
        ∙ out.behind (64 * w.word + (w.count + i)) (omega (arith, low, long, all)) (omega (arith, low, long, all, to)))

pub two_levels : (filters : List (List Test)) → length filters ≡ 2 → length (get_or filters 0 []) ≡ 0 → (c : Combination) → passes_all filters c ≡ passes c (get_or filters 1 [])
two_levels [] two none c = absurd (omega (arith, two))
two_levels (a ∷ []) two none c = absurd (omega (arith, two))
two_levels ([] ∷ b ∷ []) two none c = last (passes c b)
  where
    last : (p : Bool) → (p && true) ≡ p
    last true = refl
    last false = refl
two_levels ((t ∷ ts) ∷ b ∷ []) two none c = absurd (omega (arith, none))
two_levels (a ∷ b ∷ d ∷ rest) two none c = absurd (omega (arith, two))

filter_same : (p q : Keeping) (cs : List Combination) → ((c : Combination) → p c ≡ q c) → filter p cs ≡ filter q cs
filter_same p q cs same = λ j. filter (λ c. same c j) cs

-- the kept combinations of the only table are the rows of the window that pass
pub kept_in_window : (ts : List Table) (t : Table) (filters : List (List Test)) (w : Window) (r : RowRange) → ts ≡ t ∷ [] → length filters ≡ 2 → length (get_or filters 0 []) ≡ 0
    → LeavesOut (length t.rows) (λ i. passes_all filters (row_at t.rows i ∷ [])) r → 64 * w.word ≤ r.from → 64 * w.word + w.count ≡ min r.to (length t.rows)
    → filter (passes_all filters) (all_combinations ts) ≡ filter (λ c. passes c (get_or filters 1 [])) (singles (window_rows t w))
kept_in_window ts t filters w r alone two none out from to =
    ap (λ us. filter (passes_all filters) (all_combinations us)) alone
    ∙ ap (filter (passes_all filters)) (one_table t.rows)
    ∙ in_window (passes_all filters) t w r out from to
    ∙ filter_same (passes_all filters) (λ c. passes c (get_or filters 1 [])) (singles (window_rows t w)) (two_levels filters two none)

-- ---- what each aggregate gives

pub sum_nothing : (cells : List Value) (lane : Lane) (mask other : List ℕ) → IsLane cells lane → ((i : ℕ) → is_set other i ≡ (is_set mask i && not (is_set lane.nulls.now i))) → length (masked_from 0 other lane.values.now) ≡ 0
    → value.Null ≡ sum_value (seen mask cells)
sum_nothing cells lane mask other l h none = sym (sum_none (masked_from 0 other lane.values.now) none) ∙ ap sum_value (numbers_seen cells lane mask other l h)

pub sum_something : (cells : List Value) (lane : Lane) (mask other : List ℕ) → IsLane cells lane → ((i : ℕ) → is_set other i ≡ (is_set mask i && not (is_set lane.nulls.now i))) → (length (masked_from 0 other lane.values.now) ≡ 0 → ⊥)
    → value.Int (total (masked_from 0 other lane.values.now)) ≡ sum_value (seen mask cells)
sum_something cells lane mask other l h some = sym (sum_some (masked_from 0 other lane.values.now) some) ∙ ap sum_value (numbers_seen cells lane mask other l h)

pub least_seen : (cells : List Value) (lane : Lane) (mask other : List ℕ) → IsLane cells lane → ((i : ℕ) → is_set other i ≡ (is_set mask i && not (is_set lane.nulls.now i)))
    → int_value (least (masked_from 0 other lane.values.now)) ≡ best lower (seen mask cells)
least_seen cells lane mask other l h = sym (least_best (masked_from 0 other lane.values.now)) ∙ ap (best lower) (numbers_seen cells lane mask other l h)

pub greatest_seen : (cells : List Value) (lane : Lane) (mask other : List ℕ) → IsLane cells lane → ((i : ℕ) → is_set other i ≡ (is_set mask i && not (is_set lane.nulls.now i)))
    → int_value (greatest (masked_from 0 other lane.values.now)) ≡ best higher (seen mask cells)
greatest_seen cells lane mask other l h = sym (greatest_best (masked_from 0 other lane.values.now)) ∙ ap (best higher) (numbers_seen cells lane mask other l h)

pub count_masked : (mask : List ℕ) (cells : List Value) (n : ℕ) → ((xs : List ℤ) → length mask ≡ words_for (length xs) → EndsAt mask (length xs) → n ≡ length (masked_from 0 mask xs)) → length mask ≡ words_for (length cells) → EndsAt mask (length cells) → n ≡ length (picked mask cells)
count_masked mask cells n counts words ends =
    counts (map key_value cells) (words ∙ ap words_for (sym (length-map cells key_value))) (subst (EndsAt mask) (sym (length-map cells key_value)) ends) ∙ masked_many mask 0 cells

-- the only one of some tables
pub only_one : (ts : List Table) (t : Table) → length ts ≡ 1 → t ≡ get_or ts 0 t → ts ≡ t ∷ []
only_one [] t one is = absurd (omega (arith, one))
only_one (u ∷ []) t one is = ap (λ x. x ∷ []) (sym is)
only_one (u ∷ v ∷ ts) t one is = absurd (omega (arith, one))

pub many_in_window : (t : Table) (w : Window) (g : Combination → Value) → IsWindow t w → length (cells_of g (window_rows t w)) ≡ w.count
many_in_window t w g within = length-map (window_rows t w) (λ e. g (e.1 ∷ [])) ∙ window_many t w within

pub window_masks : (t : Table) (w : Window) (keep : Keeping) (mask other : List ℕ) → IsWindow t w → length t.rows ≤ 1048576 → IsMask (window_rows t w) keep mask → length other ≡ words_for w.count → AreMasks w.count mask other
window_masks t w keep mask other within few m long = record {
  few = omega (arith, within, few);
  words = m.words ∙ ap words_for (window_many t w within);
  room = long;
  ends = subst (EndsAt mask) (window_many t w within) (mask_ends (window_rows t w) keep mask m);
}
