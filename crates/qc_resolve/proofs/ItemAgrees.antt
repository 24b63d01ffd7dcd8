-- What is shown is worth what `rows` says.
use Rattle.std.proofs.Common.{◌≡◌, ℕ, Bool, true, false, cond, List, [], ◌∷◌, ◌++◌, length, map, refl, ap, sym, ◌∙◌, subst, append_assoc, Result, Ok, Err}
use Rattle.std.specs.Prelude.{◌==◌, codes}
use Rattle.std.proofs.lemmas.List.{append-nil, length-append}
use Rattle.qc_types.specs.declared.sql_error.SqlError.{SqlError}
use Rattle.qc_types.specs.declared.names.Value.{Value}
use Rattle.qc_types.specs.declared.names.Value.TheVariants as value
use Rattle.qc_sql.specs.declared.replies.ColumnDef.{ColumnDef}
use Rattle.qc_sql.specs.declared.session.Flags.{Flags}
use Rattle.qc_sql.specs.declared.statements.Item.{Item}
use Rattle.qc_sql.specs.declared.statements.Select.{Select}
use Rattle.qc_sql.specs.Errors.{not_supported}
use Rattle.qc_sql.specs.Rows as meant
use Rattle.qc_sql.specs.Rows.{Bound, Scope, Combination, Good, Found, check, at_first, all_columns, of_column, definition_of, shown_item, shown_items, has_aggregate, each, refuse_if, ◌>>=◌}
use Rattle.qc_resolve.specs.declared.formula.Formula.{Formula}
use Rattle.qc_resolve.specs.declared.formula.Formula.TheVariants as form
use Rattle.qc_resolve.specs.declared.resolved.Fold.{Fold}
use Rattle.qc_resolve.specs.declared.resolved.Fold.TheVariants as aggregate
use Rattle.qc_resolve.specs.declared.items.Shown.{Shown}
use Rattle.qc_resolve.specs.Columns.{Spot, found_at, all_spots}
use Rattle.qc_resolve.specs.Fit.{IsFit, AreFit}
use Rattle.qc_resolve.specs.Validated.{definition_for, none_shown, item_step, spot_step, with_spots, shown_validated}
use Rattle.qc_resolve.specs.Meaning.{value_at, row_value, fold_value}
use Rattle.qc_resolve.specs.Steps.{run}
use Rattle.qc_resolve.specs.Values.{Validated, Beside, folded, with_fold, row_validated, group_validated, value_validated}
use Rattle.qc_resolve.proofs.Founds.{all_same}
use Rattle.qc_resolve.proofs.RowAgrees.{Similar, IsSame, similar}
use Rattle.qc_resolve.proofs.GroupAgrees.{SimilarBeside, IsSameBeside, Grown, grown_none, grown_one, grown_more, later, worth, last_folded, beside}

-- what is shown, of rows alone
pub record RowsShown (bounds : List Bound) (ss : List meant.Shown) (s t : Shown) : Type 0 where
  pub columns : t.columns ≡ s.columns ++ map (λ x. x.0) ss
  pub made : List Formula
  pub formulas : t.formulas ≡ s.formulas ++ made
  pub value : (c : Combination) → IsFit bounds c → map (λ x. x.1 (c ∷ [])) ss ≡ map (row_value c) made

-- what is shown, beside aggregates
pub record GroupShown (bounds : List Bound) (ss : List meant.Shown) (s t : Shown) : Type 0 where
  pub columns : t.columns ≡ s.columns ++ map (λ x. x.0) ss
  pub made : List Formula
  pub formulas : t.formulas ≡ s.formulas ++ made
  pub grown : Grown s.folds t.folds
  pub value : (rest : List Fold) (group : List Combination) → AreFit bounds group → map (λ x. x.1 group) ss ≡ map (worth group (t.folds ++ rest)) made

abbrev pub IsShown : Bool → List Bound → List meant.Shown → Shown → Shown → Type 0
IsShown true = GroupShown
IsShown false = RowsShown

abbrev pub SameShown : Bool → List Bound → Shown → Result (List meant.Shown) SqlError → Result Shown SqlError → Type 0
SameShown aggregated bs s (Ok ss) (Ok t) = IsShown aggregated bs ss s t
SameShown aggregated bs s (Err e) (Err f) = e ≡ f
SameShown aggregated bs s (Ok ss) (Err f) = ⊥
SameShown aggregated bs s (Err e) (Ok t) = ⊥

module _ (flags : Flags) (scope : Scope) where
  abbrev bounds : List Bound
  bounds = scope.bounds

  abbrev shown : Item → Good → Result meant.Shown SqlError
  shown item x = Ok (definition_of flags item x, x.value_over)

  abbrev put : Item → Shown → Beside → Result Shown SqlError
  put item s x = Ok (record { columns = s.columns ++ definition_for flags item x.0 ∷ []; formulas = s.formulas ++ x.0.formula ∷ []; folds = x.1 })

  definition_same : (item : Item) (x : Good) (v : Validated) → x.sort ≡ v.sort → x.origin ≡ v.origin → definition_of flags item x ≡ definition_for flags item v
  definition_same item x v h k = λ i. definition_of flags item (record { sort = h i; origin = k i; value_over = λ group. value.Null })

  columns_more : (item : Item) (x : Good) (v : Validated) (ds : List ColumnDef) (es : List ColumnDef) → x.sort ≡ v.sort → x.origin ≡ v.origin → (ds ++ definition_for flags item v ∷ []) ++ es ≡ ds ++ definition_of flags item x ∷ es
  columns_more item x v ds es h k = append_assoc ds (definition_for flags item v ∷ []) es ∙ ap (λ d. ds ++ d ∷ es) (sym (definition_same item x v h k))

  -- ---- rows alone

  row_rest : (item : Item) (s : Shown) (x : Good) (v : Validated) (rs : Result (List meant.Shown) SqlError) (ws : Shown → Result Shown SqlError) (w : Result Shown SqlError)
      → IsSame bounds x v → SameShown false bounds (record { columns = s.columns ++ definition_for flags item v ∷ []; formulas = s.formulas ++ v.formula ∷ []; folds = s.folds }) rs w
      → SameShown false bounds s (rs >>= λ ys. Ok ((definition_of flags item x, x.value_over) ∷ ys)) w
  row_rest item s x v (Ok ys) ws (Ok t) h k = record {
    columns = k.columns ∙ columns_more item x v s.columns (map (λ y. y.0) ys) h.sort h.origin;
    made = v.formula ∷ k.made;
    formulas = k.formulas ∙ append_assoc s.formulas (v.formula ∷ []) k.made;
    value = λ c l i. h.value c l i ∷ k.value c l i;
  }
  row_rest item s x v (Err e) ws (Err f) h k = k
  row_rest item s x v (Ok ys) ws (Err f) h k = k
  row_rest item s x v (Err e) ws (Ok t) h k = k

  row_more : (item : Item) (s : Shown) (r : Result Good SqlError) (w : Result Validated SqlError) (rs : Result (List meant.Shown) SqlError) (ws : Shown → Result Shown SqlError)
      → Similar bounds r w → ((t : Shown) → SameShown false bounds t rs (ws t))
      → SameShown false bounds s ((r >>= shown item) >>= λ y. rs >>= λ ys. Ok (y ∷ ys)) (((w >>= λ x. Ok (x, s.folds)) >>= put item s) >>= ws)
  row_more item s (Ok x) (Ok v) rs ws h k = row_rest item s x v rs ws _ h (k _)
  row_more item s (Err e) (Err f) rs ws h k = h
  row_more item s (Ok x) (Err f) rs ws h k = absurd h
  row_more item s (Err e) (Ok v) rs ws h k = absurd h

  -- ---- beside aggregates

  group_rest : (item : Item) (s : Shown) (x : Good) (v : Beside) (rs : Result (List meant.Shown) SqlError) (w : Result Shown SqlError)
      → SimilarBeside bounds s.folds (Ok x) (Ok v) → SameShown true bounds (record { columns = s.columns ++ definition_for flags item v.0 ∷ []; formulas = s.formulas ++ v.0.formula ∷ []; folds = v.1 }) rs w
      → SameShown true bounds s (rs >>= λ ys. Ok ((definition_of flags item x, x.value_over) ∷ ys)) w
  group_rest item s x v (Ok ys) (Ok t) h k = record {
    columns = k.columns ∙ columns_more item x v.0 s.columns (map (λ y. y.0) ys) h.1.sort h.1.origin;
    made = v.0.formula ∷ k.made;
    formulas = k.formulas ∙ append_assoc s.formulas (v.0.formula ∷ []) k.made;
    grown = grown_more s.folds v.1 t.folds h.0 k.grown;
    value = λ rest group fit i. (h.1.value (k.grown.new ++ rest) group fit ∙ ap (λ fs. worth group fs v.0.formula) (sym (later v.1 t.folds rest k.grown))) i ∷ k.value rest group fit i;
  }
  group_rest item s x v (Err e) (Err f) h k = k
  group_rest item s x v (Ok ys) (Err f) h k = k
  group_rest item s x v (Err e) (Ok t) h k = k

  group_more : (item : Item) (s : Shown) (r : Result Good SqlError) (w : Result Beside SqlError) (rs : Result (List meant.Shown) SqlError) (ws : Shown → Result Shown SqlError)
      → SimilarBeside bounds s.folds r w → ((t : Shown) → SameShown true bounds t rs (ws t))
      → SameShown true bounds s ((r >>= shown item) >>= λ y. rs >>= λ ys. Ok (y ∷ ys)) ((w >>= put item s) >>= ws)
  group_more item s (Ok x) (Ok v) rs ws h k = group_rest item s x v rs _ h (k _)
  group_more item s (Err e) (Err f) rs ws h k = h
  group_more item s (Ok x) (Err f) rs ws h k = absurd h
  group_more item s (Err e) (Ok v) rs ws h k = absurd h

  -- ---- items

  nothing_more : (aggregated : Bool) (s : Shown) → SameShown aggregated bounds s (Ok []) (Ok s)
  nothing_more true s = record { columns = sym (append-nil s.columns); made = []; formulas = sym (append-nil s.formulas); grown = grown_none s.folds; value = λ rest group fit. refl }
  nothing_more false s = record { columns = sym (append-nil s.columns); made = []; formulas = sym (append-nil s.formulas); value = λ c h. refl }

  items_same : (aggregated : Bool) (items : List Item) (s : Shown) → SameShown aggregated bounds s (each (shown_item flags scope aggregated) items) (run (item_step flags scope aggregated) items s)
  items_same aggregated [] s = nothing_more aggregated s
  items_same true (item ∷ items) s =
      group_more item s (check scope item.value true) (group_validated scope item.value s.folds) (each (shown_item flags scope true) items) (run (item_step flags scope true) items) (beside scope item.value s.folds) (items_same true items)
  items_same false (item ∷ items) s =
      row_more item s (check scope item.value false) (row_validated scope item.value) (each (shown_item flags scope false) items) (run (item_step flags scope false) items) (similar scope item.value) (items_same false items)

  -- ---- all columns

  abbrev shown_spot : Spot → meant.Shown
  shown_spot s = (of_column flags (found_at s) s.column.name, at_first (value_at s.place))

  spots_same : (aggregated : Bool) (spots : List Spot) (s : Shown) → IsShown aggregated bounds (map shown_spot spots) s (with_spots flags aggregated s spots)
  spots_same true [] s = nothing_more true s
  spots_same false [] s = nothing_more false s
  spots_same false (x ∷ xs) s =
      let k = spots_same false xs (spot_step flags false s x) in
      record {
        columns = k.columns ∙ append_assoc s.columns (of_column flags (found_at x) x.column.name ∷ []) (map (λ y. y.0) (map shown_spot xs));
        made = form.Column x.place ∷ k.made;
        formulas = k.formulas ∙ append_assoc s.formulas (form.Column x.place ∷ []) k.made;
        value = λ c l i. value_at x.place c ∷ k.value c l i;
      }
  spots_same true (x ∷ xs) s =
      let k = spots_same true xs (spot_step flags true s x) in
      let here : Grown s.folds (with_fold s.folds (aggregate.First x.place)) = grown_one s.folds (aggregate.First x.place) in
      record {
        columns = k.columns ∙ append_assoc s.columns (of_column flags (found_at x) x.column.name ∷ []) (map (λ y. y.0) (map shown_spot xs));
        made = folded s.folds ∷ k.made;
        formulas = k.formulas ∙ append_assoc s.formulas (folded s.folds ∷ []) k.made;
        grown = grown_more s.folds (with_fold s.folds (aggregate.First x.place)) (with_spots flags true s (x ∷ xs)).folds here k.grown;
        value = λ rest group fit i.
            (sym (last_folded (fold_value group) s.folds (k.grown.new ++ rest) (aggregate.First x.place))
            ∙ ap (λ fs. worth group fs (folded s.folds)) (sym (later (with_fold s.folds (aggregate.First x.place)) (with_spots flags true s (x ∷ xs)).folds rest k.grown))) i
            ∷ k.value rest group fit i;
      }

  mapped : (spots : List Spot) → map (λ f. (of_column flags f f.column.name, at_first f.value_in)) (map found_at spots) ≡ map shown_spot spots
  mapped [] = refl
  mapped (s ∷ ss) = λ i. shown_spot s ∷ mapped ss i

  star_case : (none aggregated : Bool) (ss : List meant.Shown) (t : Shown) → IsShown aggregated bounds ss none_shown t
      → SameShown aggregated bounds none_shown (refuse_if none (not_supported (codes "star")) >>= λ _. Ok ss) (refuse_if none (not_supported (codes "star")) >>= λ _. Ok t)
  star_case true aggregated ss t h = refl
  star_case false aggregated ss t h = h

  chosen : (b aggregated : Bool) (r s : Result (List meant.Shown) SqlError) (w u : Result Shown SqlError) → SameShown aggregated bounds none_shown r w → SameShown aggregated bounds none_shown s u
      → SameShown aggregated bounds none_shown (cond b r s) (cond b w u)
  chosen true aggregated r s w u h k = h
  chosen false aggregated r s w u h k = k

  pub shown_same : (select : Select) → SameShown (has_aggregate select) bounds none_shown (shown_items flags scope select) (shown_validated flags scope select)
  shown_same select =
      chosen select.star (has_aggregate select) _ _ _ _
      (star_case (length select.from == 0) (has_aggregate select) _ _
      (subst (λ ss. IsShown (has_aggregate select) bounds ss none_shown (with_spots flags (has_aggregate select) none_shown (all_spots 0 bounds)))
      (sym (ap (map (λ (f : Found). (of_column flags f f.column.name, at_first f.value_in))) (sym (all_same 0 bounds)) ∙ mapped (all_spots 0 bounds)))
      (spots_same (has_aggregate select) (all_spots 0 bounds) none_shown)))
      (items_same (has_aggregate select) select.items none_shown)
