-- The formula of an expression in a row is worth what `rows` says, at each combination that fits.
use Rattle.std.proofs.Common.{◌≡◌, ℕ, suc, Bool, true, false, cond, List, [], ◌∷◌, length, map, filter, refl, ap, sym, ◌∙◌, subst, Result, Ok, Err, arith}
use Rattle.std.specs.Prelude.{pos, not, ◌&&◌, ◌==◌, bytes_eq, codes, ℤ, ◌+ℤ◌}
use Rattle.std.specs.Ordering.{is_lt, is_gt}
use Rattle.std.proofs.lemmas.Int.{ints}
use mathlib.Core.Former.{Count as Arity}
use Rattle.qc_types.specs.declared.sql_error.SqlError.{SqlError}
use Rattle.qc_types.specs.declared.names.Value.{Value}
use Rattle.qc_types.specs.declared.names.Value.TheVariants as value
use Rattle.qc_sql.specs.declared.tables.Kind.{Kind}
use Rattle.qc_sql.specs.declared.tables.Kind.TheVariants as kind
use Rattle.qc_sql.specs.declared.statements.ColumnName.{ColumnName}
use Rattle.qc_sql.specs.declared.statements.Expr.{Expr, Row_of-Expr, end_of-Expr, more_of-Expr}
use Rattle.qc_sql.specs.declared.statements.Expr.TheVariants.{Column, Literal, CountAll, Count', Sum, Min, Max, Length', Concat', Call'}
use Rattle.qc_sql.specs.declared.statements.Expr.TheOpen.{Expr-F}
use Rattle.qc_sql.specs.Errors.{not_supported}
use Rattle.qc_sql.specs.Database.{Name}
use Rattle.qc_sql.specs.Rules.{in_capitals}
use Rattle.qc_sql.specs.Trees.{fold_exprs}
use Rattle.qc_sql.specs.Rows as meant
use Rattle.qc_sql.specs.Rows.{Bound, Scope, Combination, Good, Found, check, check_at, find_column, plain_column, sum_good, best_good, best, sum_value, non_null, is_null, call_value, value_cmp, text_of, length_value, concat_texts, concat_value, good, each, ◌>>=◌}
use Rattle.qc_model.specs.Licence.{kind_fits}
use Rattle.qc_resolve.specs.declared.formula.Formula.{Formula}
use Rattle.qc_resolve.specs.declared.formula.Formula.TheVariants as form
use Rattle.qc_resolve.specs.Columns.{Spot, found_at, find_spot}
use Rattle.qc_resolve.specs.Fit.{IsFit, FitsAt}
use Rattle.qc_resolve.specs.Folding.{fold_formula-Present, fold_formula-Length, fold_formula-Concat}
use Rattle.qc_resolve.specs.Meaning.{value_at, formula_at, row_value, present_value}
use Rattle.qc_resolve.specs.Values.{Validated, Ways, computed, column_validated, sum_validated, best_validated, call_validated, formula_in_row, each_in_row, ways_at, row_validated}
use Rattle.qc_resolve.proofs.Founds.{found_by_spot, spot_fits}

-- ---- values of one combination

one_count : (v : Value) → value.Int (pos (length (filter (λ w. not (is_null w)) (v ∷ [])))) ≡ present_value v
one_count value.Null = refl
one_count (value.Int n) = refl
one_count (value.Str t) = refl

plus_nothing : (n : ℤ) → n +ℤ pos 0 ≡ n
plus_nothing n = omega (arith, ints)

one_sum : (v : Value) → kind_fits kind.Int v ≡ true → sum_value (filter (λ w. not (is_null w)) (v ∷ [])) ≡ v
one_sum value.Null h = refl
one_sum (value.Int n) h = ap value.Int (plus_nothing n)
one_sum (value.Str t) h = absurd cc

one_best : (precedes : Value → Value → Bool) (v : Value) → best precedes (filter (λ w. not (is_null w)) (v ∷ [])) ≡ v
one_best precedes value.Null = refl
one_best precedes (value.Int n) = refl
one_best precedes (value.Str t) = refl

-- ---- an expression that was found good, and its formula

pub record IsSame (bounds : List Bound) (x : Good) (v : Validated) : Type 0 where
  pub sort : x.sort ≡ v.sort
  pub origin : x.origin ≡ v.origin
  pub value : (c : Combination) → IsFit bounds c → x.value_over (c ∷ []) ≡ row_value c v.formula

abbrev pub Similar : List Bound → Result Good SqlError → Result Validated SqlError → Type 0
Similar bounds (Ok x) (Ok v) = IsSame bounds x v
Similar bounds (Err e) (Err f) = e ≡ f
Similar bounds (Ok x) (Err f) = ⊥
Similar bounds (Err e) (Ok v) = ⊥

abbrev pub SimilarAll : List Bound → Result (List Good) SqlError → Result (List Formula) SqlError → Type 0
SimilarAll bounds (Ok xs) (Ok fs) = (c : Combination) → IsFit bounds c → map (λ x. x.value_over (c ∷ [])) xs ≡ map (row_value c) fs
SimilarAll bounds (Err e) (Err f) = e ≡ f
SimilarAll bounds (Ok xs) (Err f) = ⊥
SimilarAll bounds (Err e) (Ok fs) = ⊥

pub parts_length : {A B : Type 0} (f : Expr-F A → A) (g : Expr-F B → B) (m : Arity) (es : Row_of-Expr m) → length (fold_exprs f es) ≡ length (fold_exprs g es)
parts_length f g m end_of-Expr = refl
parts_length f g m (more_of-Expr e es) = ap suc (parts_length f g _ es)

module _ (scope : Scope) where
  abbrev bounds : List Bound
  bounds = scope.bounds

  -- ---- columns

  column_case : (r : Result Spot SqlError) → Similar bounds ((r >>= λ s. Ok (found_at s)) >>= plain_column false) (r >>= λ s. Ok (column_validated s))
  column_case (Ok s) = record { sort = refl; origin = refl; value = λ c h. refl }
  column_case (Err e) = refl

  sum_kind : (s : Spot) (k : Kind) → s.column.kind ≡ k → ((c : Combination) → IsFit bounds c → FitsAt c s) → Similar bounds (sum_good (found_at s)) (sum_validated s (form.Column s.place))
  sum_kind s kind.Int h fits = rw h (record { sort = refl; origin = refl; value = λ c k. one_sum (value_at s.place c) (ap (λ k. kind_fits k (value_at s.place c)) (sym h) ∙ fits c k) })
  sum_kind s (kind.Str n) h fits = rw h refl

  sum_case : (r : Result Spot SqlError) → ((s : Spot) → r ≡ Ok s → (c : Combination) → IsFit bounds c → FitsAt c s)
      → Similar bounds ((r >>= λ s. Ok (found_at s)) >>= sum_good) (r >>= λ s. sum_validated s (form.Column s.place))
  sum_case (Ok s) fits = sum_kind s s.column.kind refl (fits s refl)
  sum_case (Err e) fits = refl

  best_case : (precedes : Value → Value → Bool) (r : Result Spot SqlError)
      → Similar bounds ((r >>= λ s. Ok (found_at s)) >>= λ f. Ok (best_good precedes f)) (r >>= λ s. Ok (best_validated s (form.Column s.place)))
  best_case precedes (Ok s) = record { sort = refl; origin = refl; value = λ c h. one_best precedes (value_at s.place c) }
  best_case precedes (Err e) = refl

  -- ---- expressions of others

  count_case : (r : Result Good SqlError) (w : Result Validated SqlError) → Similar bounds r w
      → Similar bounds (r >>= λ x. Ok (good meant.Number (λ group. value.Int (pos (length (non_null (λ c. x.value_over (c ∷ [])) group)))))) (w >>= λ v. Ok (computed meant.Number (form.Present v.formula)))
  count_case (Ok x) (Ok v) h = record {
    sort = refl;
    origin = refl;
    value = λ c k. one_count (x.value_over (c ∷ [])) ∙ ap present_value (h.value c k) ∙ sym (fold_formula-Present (formula_at c []) v.formula);
  }
  count_case (Err e) (Err f) h = h
  count_case (Ok x) (Err f) h = h
  count_case (Err e) (Ok v) h = h

  length_case : (r : Result Good SqlError) (w : Result Validated SqlError) → Similar bounds r w
      → Similar bounds (r >>= λ x. Ok (good meant.Number (λ group. length_value (text_of (x.value_over group))))) (w >>= λ v. Ok (computed meant.Number (form.Length v.formula)))
  length_case (Ok x) (Ok v) h = record {
    sort = refl;
    origin = refl;
    value = λ c k. ap (λ v. length_value (text_of v)) (h.value c k) ∙ sym (fold_formula-Length (formula_at c []) v.formula);
  }
  length_case (Err e) (Err f) h = h
  length_case (Ok x) (Err f) h = h
  length_case (Err e) (Ok v) h = h

  concat_case : (r : Result (List Good) SqlError) (w : Result (List Formula) SqlError) → SimilarAll bounds r w
      → Similar bounds (r >>= λ xs. Ok (good meant.Words (λ group. concat_value (concat_texts (map (λ x. x.value_over group) xs))))) (w >>= λ fs. Ok (computed meant.Words (form.Concat fs)))
  concat_case (Ok xs) (Ok fs) h = record {
    sort = refl;
    origin = refl;
    value = λ c k. ap (λ vs. concat_value (concat_texts vs)) (h c k) ∙ sym (fold_formula-Concat (formula_at c []) fs);
  }
  concat_case (Err e) (Err f) h = h
  concat_case (Ok xs) (Err f) h = h
  concat_case (Err e) (Ok fs) h = h

  chosen : (b : Bool) (r s : Result Good SqlError) (w u : Result Validated SqlError) → Similar bounds r w → Similar bounds s u → Similar bounds (cond b r s) (cond b w u)
  chosen true r s w u h k = h
  chosen false r s w u h k = k

  pub call_case : (word : Name) (n : ℕ) → Similar bounds (call_value scope word n) (call_validated scope word n)
  call_case word n =
      chosen (bytes_eq word (codes "DATABASE") && n == 0) _ _ _ _ (record { sort = refl; origin = refl; value = λ c h. refl })
      (chosen (bytes_eq word (codes "CONNECTION_ID") && n == 0) _ _ _ _ (record { sort = refl; origin = refl; value = λ c h. refl }) refl)

  more_case : (r : Result Good SqlError) (rs : Result (List Good) SqlError) (w : Result Validated SqlError) (ws : Result (List Formula) SqlError) → Similar bounds r w → SimilarAll bounds rs ws
      → SimilarAll bounds (r >>= λ y. rs >>= λ ys. Ok (y ∷ ys)) ((w >>= λ v. Ok v.formula) >>= λ f. ws >>= λ fs. Ok (f ∷ fs))
  more_case (Ok x) (Ok xs) (Ok v) (Ok fs) h k = λ c l i. h.value c l i ∷ k c l i
  more_case (Ok x) (Err e) (Ok v) (Err f) h k = k
  more_case (Ok x) (Ok xs) (Ok v) (Err f) h k = k
  more_case (Ok x) (Err e) (Ok v) (Ok fs) h k = k
  more_case (Err e) rs (Err f) ws h k = h
  more_case (Ok x) rs (Err f) ws h k = absurd h
  more_case (Err e) rs (Ok v) ws h k = absurd h

  by_spot : (P : Result Found SqlError → Type 0) (n : ColumnName) → P (find_spot bounds n >>= λ s. Ok (found_at s)) → P (find_column bounds n)
  by_spot P n h = subst P (sym (found_by_spot bounds n)) h

  mutual
    pub similar : (e : Expr) → Similar bounds (check scope e false) (row_validated scope e)
    similar (Column n) = by_spot (λ r. Similar bounds (r >>= plain_column false) (find_spot bounds n >>= λ s. Ok (column_validated s))) n (column_case (find_spot bounds n))
    similar (Literal v) = record { sort = refl; origin = refl; value = λ c h. refl }
    similar CountAll = record { sort = refl; origin = refl; value = λ c h. refl }
    similar (Count' shape (more_of-Expr e end_of-Expr)) = count_case (check scope e false) (row_validated scope e) (similar e)
    similar (Sum n) = by_spot (λ r. Similar bounds (r >>= sum_good) (find_spot bounds n >>= λ s. sum_validated s (form.Column s.place))) n (sum_case (find_spot bounds n) (λ s h c k. spot_fits bounds n s c h k))
    similar (Min n) = by_spot (λ r. Similar bounds (r >>= λ f. Ok (best_good (λ a b. is_lt (value_cmp a b)) f)) (find_spot bounds n >>= λ s. Ok (best_validated s (form.Column s.place)))) n (best_case (λ a b. is_lt (value_cmp a b)) (find_spot bounds n))
    similar (Max n) = by_spot (λ r. Similar bounds (r >>= λ f. Ok (best_good (λ a b. is_gt (value_cmp a b)) f)) (find_spot bounds n >>= λ s. Ok (best_validated s (form.Column s.place)))) n (best_case (λ a b. is_gt (value_cmp a b)) (find_spot bounds n))
    similar (Length' shape (more_of-Expr e end_of-Expr)) = length_case (check scope e false) (row_validated scope e) (similar e)
    similar (Concat' shape es) = concat_case (each (λ e. e false) (fold_exprs (check_at scope) es)) (each_in_row (fold_exprs (ways_at scope) es)) (all_similar es)
    similar (Call' word shape es) =
        subst (λ n. Similar bounds (call_value scope (in_capitals word) (length (fold_exprs (check_at scope) es))) (call_validated scope (in_capitals word) n)) (parts_length (check_at scope) (ways_at scope) _ es)
        (call_case (in_capitals word) (length (fold_exprs (check_at scope) es)))

    all_similar : {k : Arity} (es : Row_of-Expr k) → SimilarAll bounds (each (λ e. e false) (fold_exprs (check_at scope) es)) (each_in_row (fold_exprs (ways_at scope) es))
    all_similar end_of-Expr = λ c h. refl
    all_similar (more_of-Expr e es) =
        more_case (check scope e false) (each (λ e. e false) (fold_exprs (check_at scope) es)) (row_validated scope e) (each_in_row (fold_exprs (ways_at scope) es)) (similar e) (all_similar es)
