-- A column found by its place is the one that `rows` finds.
use Rattle.std.proofs.Common.{◌≡◌, ℕ, ◌+◌, Bool, true, false, cond, List, [], ◌∷◌, ◌++◌, map, filter, refl, ap, sym, ◌∙◌, subst, Result, Ok, Err}
use Rattle.std.specs.Prelude.{Option, Some, None}
use Rattle.std.specs.List.{AllByRecursion}
use Rattle.std.proofs.lemmas.List.{map-append}
use Rattle.qc_types.specs.declared.sql_error.SqlError.{SqlError}
use Rattle.qc_sql.specs.declared.tables.Column.{Column}
use Rattle.qc_sql.specs.declared.statements.ColumnName.{ColumnName}
use Rattle.qc_sql.specs.Database.{Name}
use Rattle.qc_sql.specs.Rows.{Bound, Found, columns_from, all_columns, has_name, only_one, find_column, ◌>>=◌}
use Rattle.qc_resolve.specs.Columns.{Spot, found_at, spots_from, all_spots, is_meant, scan, known, find_spot}
use Rattle.qc_resolve.specs.Fit.{IsFit, FitsAt}
use Rattle.qc_resolve.specs.Meaning.{value_at}
use Rattle.qc_sql.specs.Rows.{Combination}
use Rattle.qc_resolve.proofs.Fits.{all_filter}

from_same : (b : Bound) (slot i : ℕ) (cs : List Column) → map found_at (spots_from b slot i cs) ≡ columns_from b slot i cs
from_same b slot i [] = refl
from_same b slot i (c ∷ cs) = λ j. record { bound = b; column = c; value_in = value_at (record { slot = slot; column = i }) } ∷ from_same b slot (i + 1) cs j

pub all_same : (slot : ℕ) (bs : List Bound) → map found_at (all_spots slot bs) ≡ all_columns slot bs
all_same slot [] = refl
all_same slot (b ∷ bs) = map-append found_at (spots_from b slot 0 b.table.columns) (all_spots (slot + 1) bs) ∙ (λ j. from_same b slot 0 b.table.columns j ++ all_same (slot + 1) bs j)

meant_same_at : (s : Spot) (ss : List Spot) (fs : List Found) (b : Bool) → fs ≡ map found_at ss → cond b (found_at s ∷ fs) fs ≡ map found_at (cond b (s ∷ ss) ss)
meant_same_at s ss fs true h = ap (λ gs. found_at s ∷ gs) h
meant_same_at s ss fs false h = h

meant_same : (n : ColumnName) (ss : List Spot) → filter (has_name n) (map found_at ss) ≡ map found_at (filter (is_meant n) ss)
meant_same n [] = refl
meant_same n (s ∷ ss) = meant_same_at s (filter (is_meant n) ss) (filter (has_name n) (map found_at ss)) (is_meant n s) (meant_same n ss)

one_same : (name : Name) (ss : List Spot) → only_one name (map found_at ss) ≡ ((scan name None ss >>= known name) >>= λ s. Ok (found_at s))
one_same name [] = refl
one_same name (s ∷ []) = refl
one_same name (s ∷ t ∷ ss) = refl

pub found_by_spot : (bs : List Bound) (n : ColumnName) → find_column bs n ≡ (find_spot bs n >>= λ s. Ok (found_at s))
found_by_spot bs n =
    ap (λ fs. only_one n.name (filter (has_name n) fs)) (sym (all_same 0 bs))
    ∙ ap (only_one n.name) (meant_same n (all_spots 0 bs))
    ∙ one_same n.name (filter (is_meant n) (all_spots 0 bs))

one_among : (P : Spot → Type 0) (name : Name) (ss : List Spot) (s : Spot) → (scan name None ss >>= known name) ≡ Ok s → AllByRecursion P ss → P s
one_among P name [] s h k = absurd cc
one_among P name (x ∷ []) s h k = let e : x ≡ s = cc in subst P e k.0
one_among P name (x ∷ y ∷ ss) s h k = absurd cc

-- the value of a column that was found is of its kind
pub spot_fits : (bs : List Bound) (n : ColumnName) (s : Spot) (c : Combination) → find_spot bs n ≡ Ok s → IsFit bs c → FitsAt c s
spot_fits bs n s c h k = one_among (FitsAt c) n.name (filter (is_meant n) (all_spots 0 bs)) s h (all_filter (FitsAt c) (is_meant n) (all_spots 0 bs) k)
