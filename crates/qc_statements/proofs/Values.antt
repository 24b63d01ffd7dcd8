-- Rows that a plan gives, and their cells.
use Rattle.std.proofs.Common.{◌≡◌, ℕ, ◌+◌, ◌<◌, ◌≤◌, List, [], ◌∷◌, ◌++◌, length, map, drop, get_or, refl, sym, ap, ◌∙◌, subst, true≢false, Option, Some, None}
use Rattle.std.specs.Prelude.{IsSome, unwrap_or}
use Rattle.std.specs.List.{AllByRecursion}
use Rattle.std.proofs.lemmas.List.{append_assoc, drop_more}
use Rattle.qc_types.specs.declared.names.Value.{Value}
use Rattle.qc_types.specs.declared.names.Value.TheVariants as value
use Rattle.qc_sql.specs.declared.replies.ColumnDef.{ColumnDef}
use Rattle.qc_sql.specs.declared.session.Flags.{Flags}
use Rattle.qc_sql.specs.Packets.{encoded_cell, row_payload, most_payload}
use Rattle.qc_sql.specs.Rows.{Rows, text_of}
use Rattle.qc_laws.specs.sizes.Replies.{FitsRow, FitsRows}
use Rattle.qc_laws.proofs.sizes.Payloads.{row_payloads_fit}
use Rattle.qc_sql.specs.declared.cells.Cell.{Cell}
use Rattle.qc_sql.specs.declared.cells.Cell.TheVariants as cell
use Rattle.qc_wire.specs.Cells.{held, cell_text}
use Rattle.qc_eval.specs.Plans.{PlanView, Loads}
use Rattle.qc_eval.specs.Values.{cell_value}
use Rattle.qc_statements.specs.Answers.{AreRowsOf, IsReady}

-- ---- cells

text_is : (x : Cell) → cell_text (held x) ≡ text_of (cell_value x)
text_is cell.Null = refl
text_is (cell.Int n) = refl
text_is (cell.Wide n) = refl
text_is (cell.Str bytes) = refl

-- one cell more
pub cell_more : (o : Option (List Value)) (whole payload next : List ℕ) (i : ℕ) (x : Cell) → i < length (unwrap_or o []) → IsSome o
    → ((row : List Value) → o ≡ Some row → i < length row → cell_value x ≡ get_or row i value.Null)
    → next ≡ payload ++ encoded_cell (cell_text (held x))
    → payload ++ row_payload (map text_of (drop i (unwrap_or o []))) ≡ whole
    → next ++ row_payload (map text_of (drop (i + 1) (unwrap_or o []))) ≡ whole
cell_more None whole payload next i x lt there is put before = absurd (true≢false (sym there))
cell_more (Some row) whole payload next i x lt there is put before =
    let rest = row_payload (map text_of (drop (i + 1) row)) in
    let here : text_of (get_or row i value.Null) ≡ cell_text (held x) = sym (text_is x ∙ ap text_of (is row refl lt)) in
    ap (λ (l : List ℕ). l ++ rest) put
    ∙ append_assoc payload (encoded_cell (cell_text (held x))) rest
    ∙ ap (λ (t : Option (List ℕ)). payload ++ (encoded_cell t ++ rest)) (sym here)
    ∙ ap (λ (l : List Value). payload ++ row_payload (map text_of l)) (sym (drop_more row i value.Null lt))
    ∙ before

-- ---- a loaded plan

rows_fit : (n : ℕ) (rows : List (List Value)) → AllByRecursion (FitsRow n) rows → AllByRecursion (λ row. length (row_payload (map text_of row)) ≤ most_payload) rows → AreRowsOf n rows
rows_fit n [] counts fits = tt
rows_fit n (r ∷ rs) counts fits = (record { count = counts.0.count; fits = fits.0 }, rows_fit n rs counts.1 fits.1)

pub ready : (flags : Flags) (old new : PlanView) → FitsRows flags (record { columns = old.columns; rows = old.rows }) → Loads old new → IsReady new
ready flags old new fits loads =
    let r : Rows = record { columns = old.columns; rows = old.rows } in
    let payloads = row_payloads_fit flags r fits in
    let was : IsReady (record { columns = old.columns; rows = new.rows; left = Some old.rows; row = new.row }) = record {
      some = fits.some;
      few = fits.few;
      columns = payloads.0;
      loaded = refl;
      rows = rows_fit (length old.columns) old.rows fits.rows payloads.1;
    } in
    subst (λ (cs : List ColumnDef). IsReady (record { columns = cs; rows = new.rows; left = new.left; row = new.row })) (sym loads.columns)
    (subst (λ (l : Option (List (List Value))). IsReady (record { columns = old.columns; rows = new.rows; left = l; row = new.row })) (sym loads.left) was)
