-- The search for a column, table by table.
use Rattle.std.proofs.Common.{◌≡◌, ℕ, ◌+◌, ◌<◌, Bool, true, false, List, [], ◌∷◌, ◌++◌, length, drop, get_or, filter, refl, ap, ◌∙◌, Result, Ok, Err}
use Rattle.std.specs.Prelude.{Option, Some, None}
use Rattle.std.proofs.lemmas.List.Elements.{filter-append}
use Rattle.qc_types.specs.declared.sql_error.SqlError.{SqlError}
use Rattle.qc_sql.specs.declared.tables.Column.{Column}
use Rattle.qc_sql.specs.declared.statements.ColumnName.{ColumnName}
use Rattle.qc_sql.specs.Database.{Name}
use Rattle.qc_sql.specs.Errors.{ambiguous_column}
use Rattle.qc_sql.specs.Rows.{Bound, ◌>>=◌}
use Rattle.qc_resolve.specs.Columns.{Spot, spots_from, all_spots, may_mean, is_meant, scan, scanned}
use Rattle.qc_resolve.proofs.Steps.{rest_at}

scan_append : (name : Name) (o : Option Spot) (xs ys : List Spot) → scan name o (xs ++ ys) ≡ (scan name o xs >>= λ g. scan name g ys)
scan_append name o [] ys = refl
scan_append name None (x ∷ xs) ys = scan_append name (Some x) xs ys
scan_append name (Some f) (x ∷ xs) ys = refl

pub scanned_append : (name : ColumnName) (o : Option Spot) (xs ys : List Spot) → scanned name o (xs ++ ys) ≡ (scanned name o xs >>= λ g. scanned name g ys)
scanned_append name o xs ys = ap (scan name.name o) (filter-append (is_meant name) xs ys) ∙ scan_append name.name o (filter (is_meant name) xs) (filter (is_meant name) ys)

module _ (name : ColumnName) (b : Bound) (slot i : ℕ) (cs : List Column) (c : Column) (here : i < length cs) (is : c ≡ get_or cs i c) where
  abbrev spot : Spot
  spot = record { bound = b; column = c; place = record { slot = slot; column = i } }

  opened : (o : Option Spot) → scanned name o (spots_from b slot i (drop i cs)) ≡ scanned name o (spots_from b slot i (c ∷ drop (i + 1) cs))
  opened o = ap (λ xs. scanned name o (spots_from b slot i xs)) (rest_at cs i c here is)

  pub passed : (o : Option Spot) → may_mean name b c ≡ false → scanned name o (spots_from b slot i (drop i cs)) ≡ scanned name o (spots_from b slot (i + 1) (drop (i + 1) cs))
  passed o h = opened o ∙ rw h refl

  pub first_met : may_mean name b c ≡ true → scanned name None (spots_from b slot i (drop i cs)) ≡ scanned name (Some spot) (spots_from b slot (i + 1) (drop (i + 1) cs))
  first_met h = opened None ∙ rw h refl

  pub second_met : (f : Spot) → may_mean name b c ≡ true → scanned name (Some f) (spots_from b slot i (drop i cs)) ≡ Err (ambiguous_column name.name)
  second_met f h = opened (Some f) ∙ rw h refl

-- one table more
pub table_on : (name : ColumnName) (o g : Option Spot) (bs : List Bound) (slot : ℕ) (b : Bound) → slot < length bs → b ≡ get_or bs slot b
    → scanned name o (spots_from b slot 0 b.table.columns) ≡ Ok g → scanned name o (all_spots slot (drop slot bs)) ≡ scanned name g (all_spots (slot + 1) (drop (slot + 1) bs))
table_on name o g bs slot b h is e =
    ap (λ xs. scanned name o (all_spots slot xs)) (rest_at bs slot b h is)
    ∙ scanned_append name o (spots_from b slot 0 b.table.columns) (all_spots (slot + 1) (drop (slot + 1) bs))
    ∙ ap (λ r. r >>= λ g. scanned name g (all_spots (slot + 1) (drop (slot + 1) bs))) e

pub table_refused : (name : ColumnName) (o : Option Spot) (error : SqlError) (bs : List Bound) (slot : ℕ) (b : Bound) → slot < length bs → b ≡ get_or bs slot b
    → scanned name o (spots_from b slot 0 b.table.columns) ≡ Err error → scanned name o (all_spots slot (drop slot bs)) ≡ Err error
table_refused name o error bs slot b h is e =
    ap (λ xs. scanned name o (all_spots slot xs)) (rest_at bs slot b h is)
    ∙ scanned_append name o (spots_from b slot 0 b.table.columns) (all_spots (slot + 1) (drop (slot + 1) bs))
    ∙ ap (λ r. r >>= λ g. scanned name g (all_spots (slot + 1) (drop (slot + 1) bs))) e
