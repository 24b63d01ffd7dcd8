-- Rows that a test keeps, by their indexes.
use Rattle.std.proofs.Common.{◌≡◌, ℕ, ℤ, pos, zero, suc, ◌+◌, ◌-◌, ◌<◌, ◌≤◌, min, Bool, true, false, cond, List, [], ◌∷◌, ◌++◌, length, map, filter, get_or, refl, sym, ap, ◌∙◌, subst, arith, append-nil}
use Rattle.std.specs.List.{AllByRecursion, range_with_len}
use Rattle.std.specs.List.Sorted.{IsStrictlyIncreasing}
use Rattle.std.proofs.lemmas.List.{map-id}
use Rattle.std.proofs.lemmas.List.FromFn.{length-range_with_len, get_or-range_with_len, fill_by_all, filter_of_map_range_with_len_more}
use Rattle.std.proofs.lemmas.List.Kept.{IsStrictlyIncreasing-filter}
use Rattle.qc_types.specs.declared.names.Value.{Value}
use Rattle.qc_sql.specs.Database.{Table}
use Rattle.qc_sql.specs.Effects.{matching}
use Rattle.qc_table.specs.Views.{row_at}
use Rattle.qc_resolve.proofs.Fits.{all_filter}
use Rattle.qc_eval.specs.declared.range.RowRange.{RowRange}
use Rattle.qc_eval.specs.Chosen.{AreRows, chosen}
use Rattle.qc_eval.specs.Entries.{entry_at, kept_indexes}
use Rattle.qc_eval.specs.Ranges.{LeavesOut, no_table}
use Rattle.qc_eval.specs.Walk.{Keeping, passes, passes_all}
use Rattle.qc_eval.proofs.Ranges.{leaves_alike}
use Rattle.qc_eval.proofs.Walks.{chosen_none, fails_all}
use Rattle.qc_resolve.specs.declared.test.Test.{Test}

abbrev Entry : Type 0
Entry = ℤ × List Value

-- ---- entries by index

-- the row at an index is that of its entry
pub row_of_entry : (rows : List Entry) (i : ℕ) → row_at rows i ≡ (entry_at rows i).1
row_of_entry [] i = refl
row_of_entry (e ∷ es) zero = refl
row_of_entry (e ∷ es) (suc i) = row_of_entry es i

all_entries : (rows : List Entry) → rows ≡ map (entry_at rows) (range_with_len 0 (length rows))
all_entries rows = fill_by_all (entry_at rows) rows (length rows) (pos 0, []) refl (λ k h. refl)

mapped_kept : (f : ℕ → Entry) (q : Entry → Bool) (is : List ℕ) → map f (filter (λ i. q (f i)) is) ≡ filter q (map f is)
mapped_kept f q [] = refl
mapped_kept f q (i ∷ is) = by (q (f i)) (mapped_kept f q is)
  where
    by : (b : Bool) → map f (filter (λ i. q (f i)) is) ≡ filter q (map f is)
        → map f (cond b (i ∷ filter (λ i. q (f i)) is) (filter (λ i. q (f i)) is)) ≡ cond b (f i ∷ filter q (map f is)) (filter q (map f is))
    by true rest = ap (λ es. f i ∷ es) rest
    by false rest = rest

-- the indexes stand for the entries that the test keeps
pub kept_entries : (keep : Keeping) (t : Table) → map (entry_at t.rows) (kept_indexes keep t.rows (length t.rows)) ≡ matching t keep
kept_entries keep t =
    mapped_kept (entry_at t.rows) (λ e. keep (e.1 ∷ [])) (range_with_len 0 (length t.rows))
    ∙ ap (filter (λ (e : Entry). keep (e.1 ∷ []))) (sym (all_entries t.rows))

-- ---- indexes

below : (a n m : ℕ) → a + n ≤ m → AllByRecursion (λ i. i < m) (range_with_len a n)
below a zero m h = tt
below a (suc n) m h = (omega arith, below (a + 1) n m (omega arith))

pub kept_within : (keep : Keeping) (rows : List Entry) → AllByRecursion (λ i. i < length rows) (kept_indexes keep rows (length rows))
kept_within keep rows = all_filter (λ i. i < length rows) (λ i. keep ((entry_at rows i).1 ∷ [])) (range_with_len 0 (length rows)) (below 0 (length rows) (length rows) (omega arith))

range_rises : (n : ℕ) → IsStrictlyIncreasing (range_with_len 0 n)
range_rises n = λ k h.
    let long = length-range_with_len 0 n in
    let here : get_or (range_with_len 0 n) k 0 ≡ 0 + k = get_or-range_with_len 0 n k 0 (omega (arith, long)) in
    let next : get_or (range_with_len 0 n) (k + 1) 0 ≡ 0 + (k + 1) = get_or-range_with_len 0 n (k + 1) 0 (omega (arith, long)) in
    omega (arith, here, next)

pub kept_rising : (keep : Keeping) (rows : List Entry) → IsStrictlyIncreasing (kept_indexes keep rows (length rows))
kept_rising keep rows = IsStrictlyIncreasing-filter (λ i. keep ((entry_at rows i).1 ∷ [])) (range_with_len 0 (length rows)) (range_rises (length rows))

-- ---- one row more

pub kept_more : (keep : Keeping) (rows : List Entry) (n : ℕ)
    → kept_indexes keep rows (n + 1) ≡ kept_indexes keep rows n ++ cond (keep ((entry_at rows n).1 ∷ [])) (n ∷ []) []
kept_more keep rows n =
    let p : ℕ → Bool = λ i. keep ((entry_at rows i).1 ∷ []) in
    ap (filter p) (sym (map-id (range_with_len 0 (n + 1)))) ∙ filter_of_map_range_with_len_more p (λ i. i) 0 n n (omega arith)
    ∙ ap (λ is. filter p is ++ cond (p n) (n ∷ []) []) (map-id (range_with_len 0 n))

-- what a test says of the only table's row, by the row's entry
said : (keep : Keeping) (t : Table) (ts : List Table) (i : ℕ) (b : Bool) → ts ≡ t ∷ [] → b ≡ keep (chosen ts (i ∷ [])) → b ≡ keep ((entry_at t.rows i).1 ∷ [])
said keep t ts i b alone is = is ∙ ap (λ us. keep (chosen us (i ∷ []))) alone ∙ ap (λ row. keep (row ∷ [])) (row_of_entry t.rows i)

pub row_kept : (keep : Keeping) (t : Table) (ts : List Table) (i : ℕ) (kept more : List ℕ) → ts ≡ t ∷ [] → true ≡ keep (chosen ts (i ∷ []))
    → kept ≡ kept_indexes keep t.rows i → more ≡ kept ++ i ∷ [] → more ≡ kept_indexes keep t.rows (i + 1)
row_kept keep t ts i kept more alone is so_far put =
    put ∙ (λ n. so_far n ++ cond (said keep t ts i true alone is n) (i ∷ []) []) ∙ sym (kept_more keep t.rows i)

pub row_left : (keep : Keeping) (t : Table) (ts : List Table) (i : ℕ) (kept : List ℕ) → ts ≡ t ∷ [] → false ≡ keep (chosen ts (i ∷ []))
    → kept ≡ kept_indexes keep t.rows i → kept ≡ kept_indexes keep t.rows (i + 1)
row_left keep t ts i kept alone is so_far =
    so_far ∙ sym (append-nil (kept_indexes keep t.rows i)) ∙ (λ n. kept_indexes keep t.rows i ++ cond (said keep t ts i false alone is n) (i ∷ []) []) ∙ sym (kept_more keep t.rows i)

pub row_there : (t : Table) (ts : List Table) (i : ℕ) → ts ≡ t ∷ [] → i < length t.rows → AreRows ts (i ∷ [])
row_there t ts i alone h = subst (λ us. AreRows us (i ∷ [])) (sym alone) (h, tt)

-- ---- rows outside of a range

pub kept_none : (keep : Keeping) (rows : List Entry) (i n : ℕ) → ((k : ℕ) → i ≤ k → k < i + n → keep (row_at rows k ∷ []) ≡ false) → kept_indexes keep rows (i + n) ≡ kept_indexes keep rows i
kept_none keep rows i zero none = let same : i + 0 ≡ i = omega arith in ap (kept_indexes keep rows) same
kept_none keep rows i (suc n) none =
    let same : i + suc n ≡ i + n + 1 = omega arith in
    ap (kept_indexes keep rows) same ∙ kept_more keep rows (i + n)
    ∙ ap (λ b. kept_indexes keep rows (i + n) ++ cond b ((i + n) ∷ []) []) (ap (λ row. keep (row ∷ [])) (sym (row_of_entry rows (i + n))) ∙ none (i + n) (omega arith) (omega arith))
    ∙ append-nil (kept_indexes keep rows (i + n)) ∙ kept_none keep rows i n (λ k low high. none k low (omega arith))

-- the rows before a range are passed
pub none_before : (keep : Keeping) (rows : List Entry) (r : RowRange) (n : ℕ) → LeavesOut (length rows) (λ i. keep (row_at rows i ∷ [])) r → n ≤ length rows → n ≤ r.from → [] ≡ kept_indexes keep rows n
none_before keep rows r n out within low =
    let same : n ≡ 0 + n = omega arith in
    sym (ap (kept_indexes keep rows) same ∙ kept_none keep rows 0 n (λ k least most. out.before k (omega arith) (omega arith)))

-- the rows behind it add nothing
pub none_behind : (keep : Keeping) (rows : List Entry) (r : RowRange) (row : ℕ) (kept : List ℕ) → LeavesOut (length rows) (λ i. keep (row_at rows i ∷ [])) r → row ≤ length rows → min (length rows) r.to ≤ row
    → kept ≡ kept_indexes keep rows row → kept ≡ kept_indexes keep rows (length rows)
none_behind keep rows r row kept out low behind so_far =
    let whole : row + (length rows - row) ≡ length rows = omega (arith, low) in
    so_far ∙ sym (kept_none keep rows row (length rows - row) (λ k least most. out.behind k (omega arith) (omega arith))) ∙ ap (kept_indexes keep rows) whole

-- what keeps the same
pub kept_alike : (f g : Keeping) (rows : List Entry) (n : ℕ) → ((c : List (List Value)) → f c ≡ g c) → kept_indexes f rows n ≡ kept_indexes g rows n
kept_alike f g rows n same = λ j. filter (λ i. same ((entry_at rows i).1 ∷ []) j) (range_with_len 0 n)

-- ---- the only table

-- a row that fails the tests of one row isn't kept
pub fails_one : (ts : List Table) (filters : List (List Test)) (tests : List Test) (r : RowRange) → length filters ≡ 2 → tests ≡ get_or filters 1 []
    → LeavesOut (length (get_or ts 0 no_table).rows) (λ i. passes (chosen ts [] ++ row_at (get_or ts 0 no_table).rows i ∷ []) tests) r
    → LeavesOut (length (get_or ts 0 no_table).rows) (λ i. passes_all filters (row_at (get_or ts 0 no_table).rows i ∷ [])) r
fails_one ts filters tests r two same h =
    leaves_alike (length (get_or ts 0 no_table).rows) (length (get_or ts 0 no_table).rows) (λ i. passes (chosen ts [] ++ row_at (get_or ts 0 no_table).rows i ∷ []) tests) (λ i. passes_all filters (row_at (get_or ts 0 no_table).rows i ∷ [])) r refl each h
  where
    each : (i : ℕ) → i < length (get_or ts 0 no_table).rows → passes (chosen ts [] ++ row_at (get_or ts 0 no_table).rows i ∷ []) tests ≡ false → passes_all filters (row_at (get_or ts 0 no_table).rows i ∷ []) ≡ false
    each i there e =
        fails_all (passes (row_at (get_or ts 0 no_table).rows i ∷ [])) filters 1 [] (omega (arith, two))
        ((λ j. passes (sym (chosen_none ts) j ++ row_at (get_or ts 0 no_table).rows i ∷ []) (sym same j)) ∙ e)

pub only_range : (keep : Keeping) (t : Table) (ts : List Table) (r : RowRange) → ts ≡ t ∷ [] → LeavesOut (length (get_or ts 0 no_table).rows) (λ i. keep (row_at (get_or ts 0 no_table).rows i ∷ [])) r → LeavesOut (length t.rows) (λ i. keep (row_at t.rows i ∷ [])) r
only_range keep t ts r alone h = subst (λ us. LeavesOut (length (get_or us 0 no_table).rows) (λ i. keep (row_at (get_or us 0 no_table).rows i ∷ [])) r) alone h
