-- The formula of an expression beside aggregates is worth what `rows` says, over each group of combinations that fit.
use Rattle.std.proofs.Common.{◌≡◌, ℕ, suc, Bool, true, false, cond, List, [], ◌∷◌, ◌++◌, length, map, get_or, refl, ap, sym, ◌∙◌, subst, append_assoc, Result, Ok, Err}
use Rattle.std.specs.Prelude.{pos, not, ◌&&◌, ◌==◌, bytes_eq, codes}
use Rattle.std.specs.Ordering.{is_lt, is_gt}
use Rattle.std.specs.List.{AllByRecursion}
use Rattle.std.proofs.lemmas.List.{append-nil}
use mathlib.Core.Former.{Count as Arity}
use Rattle.qc_types.specs.declared.sql_error.SqlError.{SqlError}
use Rattle.qc_types.specs.declared.names.Value.{Value}
use Rattle.qc_types.specs.declared.names.Value.TheVariants as value
use Rattle.qc_sql.specs.declared.tables.Kind.{Kind}
use Rattle.qc_sql.specs.declared.tables.Kind.TheVariants as kind
use Rattle.qc_sql.specs.declared.statements.ColumnName.{ColumnName}
use Rattle.qc_sql.specs.declared.statements.Expr.{Expr, Row_of-Expr, end_of-Expr, more_of-Expr}
use Rattle.qc_sql.specs.declared.statements.Expr.TheVariants.{Column, Literal, CountAll, Count', Sum, Min, Max, Length', Concat', Call'}
use Rattle.qc_sql.specs.Errors.{not_supported}
use Rattle.qc_sql.specs.Database.{Name}
use Rattle.qc_sql.specs.Rules.{in_capitals}
use Rattle.qc_sql.specs.Trees.{fold_exprs}
use Rattle.qc_sql.specs.Rows as meant
use Rattle.qc_sql.specs.Rows.{Bound, Scope, Combination, Good, Found, check, check_at, find_column, plain_column, sum_good, best_good, best, sum_value, non_null, is_null, call_value, value_cmp, text_of, length_value, concat_texts, concat_value, good, each, ◌>>=◌}
use Rattle.qc_resolve.specs.declared.formula.Formula.{Formula}
use Rattle.qc_resolve.specs.declared.formula.Formula.TheVariants as form
use Rattle.qc_resolve.specs.declared.resolved.Fold.{Fold}
use Rattle.qc_resolve.specs.declared.resolved.Fold.TheVariants as aggregate
use Rattle.qc_resolve.specs.Columns.{Spot, found_at, find_spot}
use Rattle.qc_resolve.specs.Fit.{IsFit, AreFit}
use Rattle.qc_resolve.specs.Folding.{fold_formula-Length, fold_formula-Concat}
use Rattle.qc_resolve.specs.Meaning.{value_at, formula_at, formula_value, fold_value, row_value}
use Rattle.qc_resolve.specs.Steps.{run}
use Rattle.qc_resolve.specs.Values.{Validated, Beside, Ways, computed, column_validated, sum_validated, best_validated, call_validated, folded, with_fold, group_step, each_in_group, ways_at, ways, row_validated, group_validated}
use Rattle.qc_resolve.proofs.Founds.{found_by_spot}
use Rattle.qc_resolve.proofs.RowAgrees.{Similar, IsSame, similar, parts_length}

-- what the aggregates give over a group
abbrev pub gives : List Combination → List Fold → List Value
gives group folds = map (fold_value group) folds

abbrev pub worth : List Combination → List Fold → Formula → Value
worth group folds f = formula_value [] (gives group folds) f

-- the aggregate that was put last
pub last_folded : (f : Fold → Value) (folds rest : List Fold) (x : Fold) → get_or (map f ((folds ++ x ∷ []) ++ rest)) (length folds) value.Null ≡ f x
last_folded f [] rest x = refl
last_folded f (y ∷ ys) rest x = last_folded f ys rest x

same_values : (f g : Combination → Value) (P : Combination → Type 0) (group : List Combination) → ((c : Combination) → P c → f c ≡ g c) → AllByRecursion P group → non_null f group ≡ non_null g group
same_values f g P [] h k = refl
same_values f g P (c ∷ cs) h k = λ i. cond (not (is_null (h c k.0 i))) (h c k.0 i ∷ same_values f g P cs h k.1 i) (same_values f g P cs h k.1 i)

-- ---- an expression that was found good, beside aggregates that come to these

pub record IsSameBeside (bounds : List Bound) (x : Good) (v : Validated) (after : List Fold) : Type 0 where
  pub sort : x.sort ≡ v.sort
  pub origin : x.origin ≡ v.origin
  pub value : (rest : List Fold) (group : List Combination) → AreFit bounds group → x.value_over group ≡ worth group (after ++ rest) v.formula

pub record Grown (folds after : List Fold) : Type 0 where
  pub new : List Fold
  pub is : after ≡ folds ++ new

abbrev pub SimilarBeside : List Bound → List Fold → Result Good SqlError → Result Beside SqlError → Type 0
SimilarBeside bounds folds (Ok x) (Ok v) = Grown folds v.1 × IsSameBeside bounds x v.0 v.1
SimilarBeside bounds folds (Err e) (Err f) = e ≡ f
SimilarBeside bounds folds (Ok x) (Err f) = ⊥
SimilarBeside bounds folds (Err e) (Ok v) = ⊥

-- these formulas more
pub record IsMade (bounds : List Bound) (xs : List Good) (so_far fs : List Formula) (after : List Fold) : Type 0 where
  pub made : List Formula
  pub is : fs ≡ so_far ++ made
  pub value : (rest : List Fold) (group : List Combination) → AreFit bounds group → map (λ x. x.value_over group) xs ≡ map (worth group (after ++ rest)) made

abbrev pub AllBeside : List Bound → List Formula → List Fold → Result (List Good) SqlError → Result (List Formula × List Fold) SqlError → Type 0
AllBeside bounds so_far folds (Ok xs) (Ok s) = Grown folds s.1 × IsMade bounds xs so_far s.0 s.1
AllBeside bounds so_far folds (Err e) (Err f) = e ≡ f
AllBeside bounds so_far folds (Ok xs) (Err f) = ⊥
AllBeside bounds so_far folds (Err e) (Ok s) = ⊥

pub grown_none : (folds : List Fold) → Grown folds folds
grown_none folds = record { new = []; is = sym (append-nil folds) }

pub grown_one : (folds : List Fold) (x : Fold) → Grown folds (with_fold folds x)
grown_one folds x = record { new = x ∷ []; is = refl }

pub grown_more : (a b c : List Fold) → Grown a b → Grown b c → Grown a c
grown_more a b c h k = record { new = h.new ++ k.new; is = k.is ∙ ap (λ xs. xs ++ k.new) h.is ∙ append_assoc a h.new k.new }

-- aggregates that come later change nothing
pub later : (b c rest : List Fold) (h : Grown b c) → c ++ rest ≡ b ++ (h.new ++ rest)
later b c rest h = ap (λ xs. xs ++ rest) h.is ∙ append_assoc b h.new rest

module _ (scope : Scope) where
  abbrev bounds : List Bound
  bounds = scope.bounds

  column_case : (folds : List Fold) (r : Result Spot SqlError)
      → SimilarBeside bounds folds ((r >>= λ s. Ok (found_at s)) >>= plain_column true) (r >>= λ s. Err (not_supported (codes "mixed aggregate")))
  column_case folds (Ok s) = refl
  column_case folds (Err e) = refl

  sum_kind : (folds : List Fold) (s : Spot) (k : Kind) → s.column.kind ≡ k
      → SimilarBeside bounds folds (sum_good (found_at s)) (sum_validated s (folded folds) >>= λ x. Ok (x, with_fold folds (aggregate.Sum s.place)))
  sum_kind folds s kind.Int h = rw h (grown_one folds (aggregate.Sum s.place), record { sort = refl; origin = refl; value = λ rest group fit. sym (last_folded (fold_value group) folds rest (aggregate.Sum s.place)) })
  sum_kind folds s (kind.Str n) h = rw h refl

  sum_case : (folds : List Fold) (r : Result Spot SqlError)
      → SimilarBeside bounds folds ((r >>= λ s. Ok (found_at s)) >>= sum_good) (r >>= λ s. sum_validated s (folded folds) >>= λ x. Ok (x, with_fold folds (aggregate.Sum s.place)))
  sum_case folds (Ok s) = sum_kind folds s s.column.kind refl
  sum_case folds (Err e) = refl

  least_case : (folds : List Fold) (r : Result Spot SqlError)
      → SimilarBeside bounds folds ((r >>= λ s. Ok (found_at s)) >>= λ f. Ok (best_good (λ a b. is_lt (value_cmp a b)) f)) (r >>= λ s. Ok (best_validated s (folded folds), with_fold folds (aggregate.Least s.place)))
  least_case folds (Ok s) = (grown_one folds (aggregate.Least s.place), record { sort = refl; origin = refl; value = λ rest group fit. sym (last_folded (fold_value group) folds rest (aggregate.Least s.place)) })
  least_case folds (Err e) = refl

  greatest_case : (folds : List Fold) (r : Result Spot SqlError)
      → SimilarBeside bounds folds ((r >>= λ s. Ok (found_at s)) >>= λ f. Ok (best_good (λ a b. is_gt (value_cmp a b)) f)) (r >>= λ s. Ok (best_validated s (folded folds), with_fold folds (aggregate.Greatest s.place)))
  greatest_case folds (Ok s) = (grown_one folds (aggregate.Greatest s.place), record { sort = refl; origin = refl; value = λ rest group fit. sym (last_folded (fold_value group) folds rest (aggregate.Greatest s.place)) })
  greatest_case folds (Err e) = refl

  count_case : (folds : List Fold) (r : Result Good SqlError) (w : Result Validated SqlError) → Similar bounds r w
      → SimilarBeside bounds folds (r >>= λ x. Ok (good meant.Number (λ group. value.Int (pos (length (non_null (λ c. x.value_over (c ∷ [])) group)))))) (w >>= λ v. Ok (computed meant.Number (folded folds), with_fold folds (aggregate.Count v.formula)))
  count_case folds (Ok x) (Ok v) h = (
    grown_one folds (aggregate.Count v.formula),
    record {
      sort = refl;
      origin = refl;
      value = λ rest group fit. ap (λ vs. value.Int (pos (length vs))) (same_values (λ c. x.value_over (c ∷ [])) (λ c. row_value c v.formula) (IsFit bounds) group h.value fit) ∙ sym (last_folded (fold_value group) folds rest (aggregate.Count v.formula));
    },
  )
  count_case folds (Err e) (Err f) h = h
  count_case folds (Ok x) (Err f) h = h
  count_case folds (Err e) (Ok v) h = h

  length_case : (folds : List Fold) (r : Result Good SqlError) (w : Result Beside SqlError) → SimilarBeside bounds folds r w
      → SimilarBeside bounds folds (r >>= λ x. Ok (good meant.Number (λ group. length_value (text_of (x.value_over group))))) (w >>= λ v. Ok (computed meant.Number (form.Length v.0.formula), v.1))
  length_case folds (Ok x) (Ok v) h = (
    h.0,
    record {
      sort = refl;
      origin = refl;
      value = λ rest group fit. ap (λ v. length_value (text_of v)) (h.1.value rest group fit) ∙ sym (fold_formula-Length (formula_at [] (gives group (v.1 ++ rest))) v.0.formula);
    },
  )
  length_case folds (Err e) (Err f) h = h
  length_case folds (Ok x) (Err f) h = h
  length_case folds (Err e) (Ok v) h = h

  concat_case : (folds : List Fold) (r : Result (List Good) SqlError) (w : Result (List Formula × List Fold) SqlError) → AllBeside bounds [] folds r w
      → SimilarBeside bounds folds (r >>= λ xs. Ok (good meant.Words (λ group. concat_value (concat_texts (map (λ x. x.value_over group) xs))))) (w >>= λ s. Ok (computed meant.Words (form.Concat s.0), s.1))
  concat_case folds (Ok xs) (Ok s) h = (
    h.0,
    record {
      sort = refl;
      origin = refl;
      value = λ rest group fit. ap (λ vs. concat_value (concat_texts vs)) (h.1.value rest group fit ∙ ap (map (worth group (s.1 ++ rest))) (sym h.1.is)) ∙ sym (fold_formula-Concat (formula_at [] (gives group (s.1 ++ rest))) s.0);
    },
  )
  concat_case folds (Err e) (Err f) h = h
  concat_case folds (Ok xs) (Err f) h = h
  concat_case folds (Err e) (Ok s) h = h

  chosen : (folds : List Fold) (b : Bool) (r s : Result Good SqlError) (w u : Result Validated SqlError) → SimilarBeside bounds folds r (w >>= λ x. Ok (x, folds)) → SimilarBeside bounds folds s (u >>= λ x. Ok (x, folds))
      → SimilarBeside bounds folds (cond b r s) (cond b w u >>= λ x. Ok (x, folds))
  chosen folds true r s w u h k = h
  chosen folds false r s w u h k = k

  call_case : (folds : List Fold) (word : Name) (n : ℕ) → SimilarBeside bounds folds (call_value scope word n) (call_validated scope word n >>= λ x. Ok (x, folds))
  call_case folds word n =
      chosen folds (bytes_eq word (codes "DATABASE") && n == 0) _ _ _ _ (grown_none folds, record { sort = refl; origin = refl; value = λ rest group fit. refl })
      (chosen folds (bytes_eq word (codes "CONNECTION_ID") && n == 0) _ _ _ _ (grown_none folds, record { sort = refl; origin = refl; value = λ rest group fit. refl }) refl)

  -- the first of some, and then the others, beside what it leaves
  more_case : (so_far : List Formula) (folds : List Fold) (r : Result Good SqlError) (rs : Result (List Good) SqlError) (w : Result Beside SqlError) (ws : List Formula × List Fold → Result (List Formula × List Fold) SqlError)
      → SimilarBeside bounds folds r w → ((fs : List Formula) (after : List Fold) → AllBeside bounds fs after rs (ws (fs, after)))
      → AllBeside bounds so_far folds (r >>= λ y. rs >>= λ ys. Ok (y ∷ ys)) ((w >>= λ x. Ok (so_far ++ x.0.formula ∷ [], x.1)) >>= ws)
  more_case so_far folds (Ok x) rs (Ok v) ws h k = rest_case so_far folds x rs v (ws (so_far ++ v.0.formula ∷ [], v.1)) h (k (so_far ++ v.0.formula ∷ []) v.1)
    where
      rest_case : (so_far : List Formula) (folds : List Fold) (x : Good) (rs : Result (List Good) SqlError) (v : Beside) (ws : Result (List Formula × List Fold) SqlError)
          → SimilarBeside bounds folds (Ok x) (Ok v) → AllBeside bounds (so_far ++ v.0.formula ∷ []) v.1 rs ws → AllBeside bounds so_far folds (rs >>= λ ys. Ok (x ∷ ys)) ws
      rest_case so_far folds x (Ok xs) v (Ok s) h k = (
        grown_more folds v.1 s.1 h.0 k.0,
        record {
          made = v.0.formula ∷ k.1.made;
          is = k.1.is ∙ append_assoc so_far (v.0.formula ∷ []) k.1.made;
          value = λ rest group fit i. (h.1.value (k.0.new ++ rest) group fit ∙ ap (λ fs. worth group fs v.0.formula) (sym (later v.1 s.1 rest k.0))) i ∷ k.1.value rest group fit i;
        },
      )
      rest_case so_far folds x (Err e) v (Err f) h k = k
      rest_case so_far folds x (Ok xs) v (Err f) h k = k
      rest_case so_far folds x (Err e) v (Ok s) h k = k
  more_case so_far folds (Err e) rs (Err f) ws h k = h
  more_case so_far folds (Ok x) rs (Err f) ws h k = absurd h
  more_case so_far folds (Err e) rs (Ok v) ws h k = absurd h

  by_spot : (P : Result Found SqlError → Type 0) (n : ColumnName) → P (find_spot bounds n >>= λ s. Ok (found_at s)) → P (find_column bounds n)
  by_spot P n h = subst P (sym (found_by_spot bounds n)) h

  mutual
    pub beside : (e : Expr) (folds : List Fold) → SimilarBeside bounds folds (check scope e true) (group_validated scope e folds)
    beside (Column n) folds = by_spot (λ r. SimilarBeside bounds folds (r >>= plain_column true) (find_spot bounds n >>= λ s. Err (not_supported (codes "mixed aggregate")))) n (column_case folds (find_spot bounds n))
    beside (Literal v) folds = (grown_none folds, record { sort = refl; origin = refl; value = λ rest group fit. refl })
    beside CountAll folds = (grown_one folds aggregate.CountAll, record { sort = refl; origin = refl; value = λ rest group fit. sym (last_folded (fold_value group) folds rest aggregate.CountAll) })
    beside (Count' shape (more_of-Expr e end_of-Expr)) folds = count_case folds (check scope e false) (row_validated scope e) (similar scope e)
    beside (Sum n) folds = by_spot (λ r. SimilarBeside bounds folds (r >>= sum_good) (find_spot bounds n >>= λ s. sum_validated s (folded folds) >>= λ x. Ok (x, with_fold folds (aggregate.Sum s.place)))) n (sum_case folds (find_spot bounds n))
    beside (Min n) folds = by_spot (λ r. SimilarBeside bounds folds (r >>= λ f. Ok (best_good (λ a b. is_lt (value_cmp a b)) f)) (find_spot bounds n >>= λ s. Ok (best_validated s (folded folds), with_fold folds (aggregate.Least s.place)))) n (least_case folds (find_spot bounds n))
    beside (Max n) folds = by_spot (λ r. SimilarBeside bounds folds (r >>= λ f. Ok (best_good (λ a b. is_gt (value_cmp a b)) f)) (find_spot bounds n >>= λ s. Ok (best_validated s (folded folds), with_fold folds (aggregate.Greatest s.place)))) n (greatest_case folds (find_spot bounds n))
    beside (Length' shape (more_of-Expr e end_of-Expr)) folds = length_case folds (check scope e true) (group_validated scope e folds) (beside e folds)
    beside (Concat' shape es) folds = concat_case folds (each (λ e. e true) (fold_exprs (check_at scope) es)) (each_in_group (fold_exprs (ways_at scope) es) folds) (all_beside es [] folds)
    beside (Call' word shape es) folds =
        subst (λ n. SimilarBeside bounds folds (call_value scope (in_capitals word) (length (fold_exprs (check_at scope) es))) (call_validated scope (in_capitals word) n >>= λ x. Ok (x, folds))) (parts_length (check_at scope) (ways_at scope) _ es)
        (call_case folds (in_capitals word) (length (fold_exprs (check_at scope) es)))

    all_beside : {k : Arity} (es : Row_of-Expr k) (so_far : List Formula) (folds : List Fold)
        → AllBeside bounds so_far folds (each (λ e. e true) (fold_exprs (check_at scope) es)) (run group_step (fold_exprs (ways_at scope) es) (so_far, folds))
    all_beside end_of-Expr so_far folds = (grown_none folds, record { made = []; is = sym (append-nil so_far); value = λ rest group fit. refl })
    all_beside (more_of-Expr e es) so_far folds =
        more_case so_far folds (check scope e true) (each (λ e. e true) (fold_exprs (check_at scope) es)) (group_validated scope e folds) (run group_step (fold_exprs (ways_at scope) es)) (beside e folds) (λ fs after. all_beside es fs after)
