-- Columns that are shown, one by one.
use Rattle.std.proofs.Common.{◌≡◌, ℕ, ◌+◌, ◌<◌, Bool, List, [], ◌∷◌, ◌++◌, length, drop, get_or, refl, ap, sym, ◌∙◌}
use Rattle.qc_sql.specs.declared.session.Flags.{Flags}
use Rattle.qc_sql.specs.declared.tables.Column.{Column}
use Rattle.qc_sql.specs.Rows.{Bound}
use Rattle.qc_resolve.specs.declared.items.Shown.{Shown}
use Rattle.qc_resolve.specs.Columns.{Spot, spots_from, all_spots}
use Rattle.qc_resolve.specs.Validated.{spot_step, with_spots}
use Rattle.qc_resolve.proofs.Steps.{rest_at}

with_append : (flags : Flags) (beside : Bool) (s : Shown) (xs ys : List Spot) → with_spots flags beside s (xs ++ ys) ≡ with_spots flags beside (with_spots flags beside s xs) ys
with_append flags beside s [] ys = refl
with_append flags beside s (x ∷ xs) ys = with_append flags beside (spot_step flags beside s x) xs ys

pub spot_on : (flags : Flags) (beside : Bool) (s t : Shown) (b : Bound) (slot i : ℕ) (cs : List Column) (c : Column) → i < length cs → c ≡ get_or cs i c
    → t ≡ spot_step flags beside s (record { bound = b; column = c; place = record { slot = slot; column = i } })
    → with_spots flags beside s (spots_from b slot i (drop i cs)) ≡ with_spots flags beside t (spots_from b slot (i + 1) (drop (i + 1) cs))
spot_on flags beside s t b slot i cs c h e k =
    ap (λ xs. with_spots flags beside s (spots_from b slot i xs)) (rest_at cs i c h e) ∙ ap (λ u. with_spots flags beside u (spots_from b slot (i + 1) (drop (i + 1) cs))) (sym k)

pub table_on : (flags : Flags) (beside : Bool) (s t : Shown) (bs : List Bound) (slot : ℕ) (b : Bound) → slot < length bs → b ≡ get_or bs slot b
    → t ≡ with_spots flags beside s (spots_from b slot 0 b.table.columns)
    → with_spots flags beside s (all_spots slot (drop slot bs)) ≡ with_spots flags beside t (all_spots (slot + 1) (drop (slot + 1) bs))
table_on flags beside s t bs slot b h e k =
    ap (λ xs. with_spots flags beside s (all_spots slot xs)) (rest_at bs slot b h e)
    ∙ with_append flags beside s (spots_from b slot 0 b.table.columns) (all_spots (slot + 1) (drop (slot + 1) bs))
    ∙ ap (λ u. with_spots flags beside u (all_spots (slot + 1) (drop (slot + 1) bs))) (sym k)
