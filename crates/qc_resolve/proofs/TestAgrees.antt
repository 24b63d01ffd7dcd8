-- The test of a condition says what `rows` says, of each combination that fits.
use Rattle.std.proofs.Common.{◌≡◌, ℕ, Bool, true, false, cond, List, [], ◌∷◌, map, filter, refl, ap, sym, ◌∙◌, subst, Result, Ok, Err}
use Rattle.std.specs.Prelude.{Option, Some, None, not, ◌||◌, codes}
use Rattle.std.specs.List.{AllByRecursion, list_any}
use mathlib.Core.Former.{Count as Arity}
use Rattle.qc_types.specs.declared.sql_error.SqlError.{SqlError}
use Rattle.qc_types.specs.declared.names.Value.{Value}
use Rattle.qc_sql.specs.declared.statements.Expr.{Expr}
use Rattle.qc_sql.specs.declared.statements.Op.{Op}
use Rattle.qc_sql.specs.declared.statements.Op.TheVariants as op
use Rattle.qc_sql.specs.declared.statements.Cond.{Cond, Row_of-Cond, end_of-Cond, more_of-Cond}
use Rattle.qc_sql.specs.declared.statements.Cond.TheVariants.{Or', And', Not', Compare, IsNull, In, Between}
use Rattle.qc_sql.specs.Errors.{not_supported}
use Rattle.qc_sql.specs.Trees.{fold_cond, fold_conds}
use Rattle.qc_sql.specs.Rows as meant
use Rattle.qc_sql.specs.Rows.{Bound, Scope, Combination, Good, Sort, Truth, check, comparison, compared, condition, good, one_group, mixes, sort_of_value, is_null, is_true, any_of, all_of, both, negated, each, refuse_if, value_cmp, sorted, ◌>>=◌}
use Rattle.qc_resolve.specs.declared.formula.Formula.{Formula}
use Rattle.qc_resolve.specs.declared.test.Test.{Test}
use Rattle.qc_resolve.specs.declared.test.Test.TheVariants as made
use Rattle.qc_resolve.specs.Fit.{IsFit, AreFit}
use Rattle.qc_resolve.specs.Folding.{fold_test-Any, fold_test-All, fold_test-Not}
use Rattle.qc_resolve.specs.Validated as validated
use Rattle.qc_resolve.specs.Validated.{comparable, compare_validated, in_validated, between_validated, test_validated, condition_validated}
use Rattle.qc_resolve.specs.Meaning as meaning
use Rattle.qc_resolve.specs.Meaning.{row_value, truth, keeps}
use Rattle.qc_resolve.specs.Values.{Validated, row_validated}
use Rattle.qc_resolve.proofs.RowAgrees.{Similar, IsSame, similar}
use Rattle.qc_resolve.proofs.Sorts.{any_of_sorted}

abbrev Meant : Type 0
Meant = Combination → Truth

abbrev pub SameTest : List Bound → Result Meant SqlError → Result Test SqlError → Type 0
SameTest bounds (Ok t) (Ok s) = (c : Combination) → IsFit bounds c → t c ≡ truth c s
SameTest bounds (Err e) (Err f) = e ≡ f
SameTest bounds (Ok t) (Err f) = ⊥
SameTest bounds (Err e) (Ok s) = ⊥

abbrev pub SameTests : List Bound → Result (List Meant) SqlError → Result (List Test) SqlError → Type 0
SameTests bounds (Ok ts) (Ok ss) = (c : Combination) → IsFit bounds c → map (λ t. t c) ts ≡ map (truth c) ss
SameTests bounds (Err e) (Err f) = e ≡ f
SameTests bounds (Ok ts) (Err f) = ⊥
SameTests bounds (Err e) (Ok ss) = ⊥

mixed : SqlError
mixed = not_supported (codes "mixed comparison")

module _ (scope : Scope) where
  abbrev bounds : List Bound
  bounds = scope.bounds

  any_case : (r : Result (List Meant) SqlError) (w : Result (List Test) SqlError) → SameTests bounds r w → SameTest bounds (r >>= λ ts. Ok (λ c. any_of (map (λ t. t c) ts))) (w >>= λ ss. Ok (made.Any ss))
  any_case (Ok ts) (Ok ss) h = λ c k. ap any_of (h c k) ∙ sym (fold_test-Any (meaning.test_at c) ss)
  any_case (Err e) (Err f) h = h
  any_case (Ok ts) (Err f) h = h
  any_case (Err e) (Ok ss) h = h

  all_case : (r : Result (List Meant) SqlError) (w : Result (List Test) SqlError) → SameTests bounds r w → SameTest bounds (r >>= λ ts. Ok (λ c. all_of (map (λ t. t c) ts))) (w >>= λ ss. Ok (made.All ss))
  all_case (Ok ts) (Ok ss) h = λ c k. ap all_of (h c k) ∙ sym (fold_test-All (meaning.test_at c) ss)
  all_case (Err e) (Err f) h = h
  all_case (Ok ts) (Err f) h = h
  all_case (Err e) (Ok ss) h = h

  not_case : (r : Result Meant SqlError) (w : Result Test SqlError) → SameTest bounds r w → SameTest bounds (r >>= λ t. Ok (λ c. negated (t c))) (w >>= λ s. Ok (made.Not s))
  not_case (Ok t) (Ok s) h = λ c k. ap negated (h c k) ∙ sym (fold_test-Not (meaning.test_at c) s)
  not_case (Err e) (Err f) h = h
  not_case (Ok t) (Err f) h = h
  not_case (Err e) (Ok s) h = h

  null_case : (r : Result Good SqlError) (w : Result Validated SqlError) → Similar bounds r w → SameTest bounds (r >>= λ x. Ok (λ c. Some (is_null (one_group x c)))) (w >>= λ v. Ok (made.IsNull v.formula))
  null_case (Ok x) (Ok v) h = λ c k. ap (λ v. Some (is_null v)) (h.value c k)
  null_case (Err e) (Err f) h = h
  null_case (Ok x) (Err f) h = h
  null_case (Err e) (Ok v) h = h

  -- two values that are compared, whether they mix or not
  compare_at : (o : Op) (x y : Good) (v w : Validated) (b : Bool) → IsSame bounds x v → IsSame bounds y w
      → SameTest bounds (cond b (Err mixed) (Ok (λ c. compared o (one_group x c) (one_group y c)))) (refuse_if b mixed >>= λ _. Ok (made.Compare v.formula o w.formula))
  compare_at o x y v w true h k = refl
  compare_at o x y v w false h k = λ c l i. compared o (h.value c l i) (k.value c l i)

  sorts_same : (x y : Good) (v w : Validated) → IsSame bounds x v → IsSame bounds y w → mixes x.sort y.sort ≡ mixes v.sort w.sort
  sorts_same x y v w h k = λ i. mixes (h.sort i) (k.sort i)

  compare_both : (o : Op) (x y : Good) (v w : Validated) → IsSame bounds x v → IsSame bounds y w → SameTest bounds (comparison o x y) (comparable v.sort w.sort >>= λ _. Ok (made.Compare v.formula o w.formula))
  unfolding mixed
  compare_both o x y v w h k =
      subst (λ b. SameTest bounds (cond b (Err mixed) (Ok (λ c. compared o (one_group x c) (one_group y c)))) (comparable v.sort w.sort >>= λ _. Ok (made.Compare v.formula o w.formula))) (sym (sorts_same x y v w h k))
      (compare_at o x y v w (mixes v.sort w.sort) h k)

  compare_case : (o : Op) (r s : Result Good SqlError) (u v : Result Validated SqlError) → Similar bounds r u → Similar bounds s v
      → SameTest bounds (r >>= λ x. s >>= λ y. comparison o x y) (u >>= λ x. v >>= λ y. comparable x.sort y.sort >>= λ _. Ok (made.Compare x.formula o y.formula))
  compare_case o (Ok x) (Ok y) (Ok v) (Ok w) h k = compare_both o x y v w h k
  compare_case o (Ok x) (Err e) (Ok v) (Err f) h k = k
  compare_case o (Ok x) (Ok y) (Ok v) (Err f) h k = absurd k
  compare_case o (Ok x) (Err e) (Ok v) (Ok w) h k = absurd k
  compare_case o (Err e) s (Err f) v h k = h
  compare_case o (Ok x) s (Err f) v h k = absurd h
  compare_case o (Err e) s (Ok w) v h k = absurd h

  -- ---- BETWEEN

  abbrev within : Result Meant SqlError → Result Meant SqlError → Result Meant SqlError
  within r q = r >>= λ s. q >>= λ t. Ok (λ c. both (s c) (t c))

  -- a comparison, where it doesn't mix
  abbrev unless : Bool → Meant → Result Meant SqlError
  unless b t = cond b (Err mixed) (Ok t)

  between_at : (x y z : Good) (u v w : Validated) (a b : Bool) → IsSame bounds x u → IsSame bounds y v → IsSame bounds z w
      → SameTest bounds
      (within (unless a (λ c. compared op.Ge (one_group x c) (one_group y c))) (unless b (λ c. compared op.Le (one_group x c) (one_group z c))))
      (refuse_if a mixed >>= λ _. refuse_if b mixed >>= λ _. Ok (made.Between u.formula v.formula w.formula))
  between_at x y z u v w true b h k l = refl
  between_at x y z u v w false true h k l = refl
  between_at x y z u v w false false h k l = λ c m i. both (compared op.Ge (h.value c m i) (k.value c m i)) (compared op.Le (h.value c m i) (l.value c m i))

  between_all : (x y z : Good) (u v w : Validated) → IsSame bounds x u → IsSame bounds y v → IsSame bounds z w
      → SameTest bounds (comparison op.Ge x y >>= λ s. comparison op.Le x z >>= λ t. Ok (λ c. both (s c) (t c)))
      (comparable u.sort v.sort >>= λ _. comparable u.sort w.sort >>= λ _. Ok (made.Between u.formula v.formula w.formula))
  unfolding mixed
  between_all x y z u v w h k l =
      subst (λ a. SameTest bounds
      (within (unless a (λ c. compared op.Ge (one_group x c) (one_group y c))) (comparison op.Le x z))
      (comparable u.sort v.sort >>= λ _. comparable u.sort w.sort >>= λ _. Ok (made.Between u.formula v.formula w.formula))) (sym (sorts_same x y u v h k))
      (subst (λ b. SameTest bounds
      (within (unless (mixes u.sort v.sort) (λ c. compared op.Ge (one_group x c) (one_group y c))) (unless b (λ c. compared op.Le (one_group x c) (one_group z c))))
      (comparable u.sort v.sort >>= λ _. comparable u.sort w.sort >>= λ _. Ok (made.Between u.formula v.formula w.formula))) (sym (sorts_same x z u w h l))
      (between_at x y z u v w (mixes u.sort v.sort) (mixes u.sort w.sort) h k l))

  between_case : (r s t : Result Good SqlError) (u v w : Result Validated SqlError) → Similar bounds r u → Similar bounds s v → Similar bounds t w
      → SameTest bounds (r >>= λ x. s >>= λ y. t >>= λ z. comparison op.Ge x y >>= λ s. comparison op.Le x z >>= λ t. Ok (λ c. both (s c) (t c)))
      (u >>= λ x. v >>= λ y. w >>= λ z. comparable x.sort y.sort >>= λ _. comparable x.sort z.sort >>= λ _. Ok (made.Between x.formula y.formula z.formula))
  between_case (Ok x) (Ok y) (Ok z) (Ok u) (Ok v) (Ok w) h k l = between_all x y z u v w h k l
  between_case (Ok x) (Ok y) (Err e) (Ok u) (Ok v) (Err f) h k l = l
  between_case (Ok x) (Ok y) (Ok z) (Ok u) (Ok v) (Err f) h k l = absurd l
  between_case (Ok x) (Ok y) (Err e) (Ok u) (Ok v) (Ok w) h k l = absurd l
  between_case (Ok x) (Err e) t (Ok u) (Err f) w h k l = k
  between_case (Ok x) (Ok y) t (Ok u) (Err f) w h k l = absurd k
  between_case (Ok x) (Err e) t (Ok u) (Ok v) w h k l = absurd k
  between_case (Err e) s t (Err f) v w h k l = h
  between_case (Ok x) s t (Err f) v w h k l = absurd h
  between_case (Err e) s t (Ok u) v w h k l = absurd h

  -- ---- IN

  -- the comparisons with the literals
  with_each : Good → List Value → List Meant
  with_each x vs = map (λ v c. compared op.Eq (one_group x c) v) vs

  literals_step : (x : Good) (v : Value) (vs : List Value) (a b : Bool)
      → (cond a (Err mixed) (Ok (λ c. compared op.Eq (one_group x c) v)) >>= λ y. cond b (Err mixed) (Ok (with_each x vs)) >>= λ ys. Ok (y ∷ ys)) ≡ cond (a || b) (Err mixed) (Ok (with_each x (v ∷ vs)))
  unfolding with_each
  literals_step x v vs true b = refl
  literals_step x v vs false true = refl
  literals_step x v vs false false = refl

  literals : (x : Good) (vs : List Value)
      → each (λ v. comparison op.Eq x (good (sort_of_value v) (λ _. v))) vs ≡ cond (list_any (λ v. mixes x.sort (sort_of_value v)) vs) (Err mixed) (Ok (with_each x vs))
  unfolding mixed with_each
  literals x [] = refl
  literals x (v ∷ vs) =
      ap (λ r. comparison op.Eq x (good (sort_of_value v) (λ _. v)) >>= λ y. r >>= λ ys. Ok (y ∷ ys)) (literals x vs)
      ∙ literals_step x v vs (mixes x.sort (sort_of_value v)) (list_any (λ v. mixes x.sort (sort_of_value v)) vs)

  each_same : (x : Good) (w : Validated) (vs : List Value) (c : Combination) → one_group x c ≡ row_value c w.formula → map (λ t. t c) (with_each x vs) ≡ map (compared op.Eq (row_value c w.formula)) vs
  unfolding with_each
  each_same x w [] c h = refl
  each_same x w (v ∷ vs) c h = λ i. compared op.Eq (h i) v ∷ each_same x w vs c h i

  in_at : (x : Good) (w : Validated) (vs : List Value) (b : Bool) → IsSame bounds x w
      → SameTest bounds (cond b (Err mixed) (Ok (with_each x vs)) >>= λ tests. Ok (λ c. any_of (map (λ t. t c) tests))) (refuse_if b mixed >>= λ _. Ok (made.In w.formula (sorted value_cmp vs)))
  in_at x w vs true h = refl
  in_at x w vs false h = λ c k. ap any_of (each_same x w vs c (h.value c k)) ∙ sym (any_of_sorted (compared op.Eq (row_value c w.formula)) value_cmp vs)

  in_one : (x : Good) (w : Validated) (vs : List Value) → IsSame bounds x w
      → SameTest bounds (each (λ v. comparison op.Eq x (good (sort_of_value v) (λ _. v))) vs >>= λ tests. Ok (λ c. any_of (map (λ t. t c) tests)))
      (refuse_if (list_any (λ v. mixes w.sort (sort_of_value v)) vs) (not_supported (codes "mixed comparison")) >>= λ _. Ok (made.In w.formula (sorted value_cmp vs)))
  unfolding mixed
  in_one x w vs h =
      subst (λ r. SameTest bounds (r >>= λ tests. Ok (λ c. any_of (map (λ t. t c) tests))) (refuse_if (list_any (λ v. mixes w.sort (sort_of_value v)) vs) mixed >>= λ _. Ok (made.In w.formula (sorted value_cmp vs))))
      (sym (literals x vs ∙ ap (λ s. cond (list_any (λ v. mixes s (sort_of_value v)) vs) (Err mixed) (Ok (with_each x vs))) h.sort))
      (in_at x w vs (list_any (λ v. mixes w.sort (sort_of_value v)) vs) h)

  in_case : (r : Result Good SqlError) (w : Result Validated SqlError) (vs : List Value) → Similar bounds r w
      → SameTest bounds (r >>= λ x. each (λ v. comparison op.Eq x (good (sort_of_value v) (λ _. v))) vs >>= λ tests. Ok (λ c. any_of (map (λ t. t c) tests)))
      (w >>= λ x. refuse_if (list_any (λ v. mixes x.sort (sort_of_value v)) vs) (not_supported (codes "mixed comparison")) >>= λ _. Ok (made.In x.formula (sorted value_cmp vs)))
  in_case (Ok x) (Ok w) vs h = in_one x w vs h
  in_case (Err e) (Err f) vs h = h
  in_case (Ok x) (Err f) vs h = absurd h
  in_case (Err e) (Ok w) vs h = absurd h

  more_case : (r : Result Meant SqlError) (rs : Result (List Meant) SqlError) (w : Result Test SqlError) (ws : Result (List Test) SqlError) → SameTest bounds r w → SameTests bounds rs ws
      → SameTests bounds (r >>= λ y. rs >>= λ ys. Ok (y ∷ ys)) (w >>= λ v. ws >>= λ vs. Ok (v ∷ vs))
  more_case (Ok t) (Ok ts) (Ok s) (Ok ss) h k = λ c l i. h c l i ∷ k c l i
  more_case (Ok t) (Err e) (Ok s) (Err f) h k = k
  more_case (Ok t) (Ok ts) (Ok s) (Err f) h k = absurd k
  more_case (Ok t) (Err e) (Ok s) (Ok ss) h k = absurd k
  more_case (Err e) rs (Err f) ws h k = h
  more_case (Ok t) rs (Err f) ws h k = absurd h
  more_case (Err e) rs (Ok s) ws h k = absurd h

  mutual
    test_same : (t : Cond) → SameTest bounds (fold_cond (meant.test_at scope) t) (test_validated scope t)
    test_same (Or' shape cs) = any_case (each (λ t. t) (fold_conds (meant.test_at scope) cs)) (each (λ t. t) (fold_conds (validated.test_at scope) cs)) (tests_same cs)
    test_same (And' shape cs) = all_case (each (λ t. t) (fold_conds (meant.test_at scope) cs)) (each (λ t. t) (fold_conds (validated.test_at scope) cs)) (tests_same cs)
    test_same (Not' shape (more_of-Cond c end_of-Cond)) = not_case (fold_cond (meant.test_at scope) c) (test_validated scope c) (test_same c)
    test_same (Compare a o b) = compare_case o (check scope a false) (check scope b false) (row_validated scope a) (row_validated scope b) (similar scope a) (similar scope b)
    test_same (IsNull a) = null_case (check scope a false) (row_validated scope a) (similar scope a)
    test_same (In a vs) = in_case (check scope a false) (row_validated scope a) vs (similar scope a)
    test_same (Between a low high) = between_case (check scope a false) (check scope low false) (check scope high false) (row_validated scope a) (row_validated scope low) (row_validated scope high) (similar scope a) (similar scope low) (similar scope high)

    tests_same : {k : Arity} (cs : Row_of-Cond k) → SameTests bounds (each (λ t. t) (fold_conds (meant.test_at scope) cs)) (each (λ t. t) (fold_conds (validated.test_at scope) cs))
    tests_same end_of-Cond = λ c h. refl
    tests_same (more_of-Cond c cs) =
        more_case (fold_cond (meant.test_at scope) c) (each (λ t. t) (fold_conds (meant.test_at scope) cs)) (test_validated scope c) (each (λ t. t) (fold_conds (validated.test_at scope) cs)) (test_same c) (tests_same cs)

-- ---- the condition

abbrev pub SameCondition : List Bound → Result (Combination → Bool) SqlError → Result (Option Test) SqlError → Type 0
SameCondition bs (Ok k) (Ok t) = (c : Combination) → IsFit bs c → k c ≡ keeps t c
SameCondition bs (Err e) (Err f) = e ≡ f
SameCondition bs (Ok k) (Err f) = ⊥
SameCondition bs (Err e) (Ok t) = ⊥

some_case : (bs : List Bound) (r : Result Meant SqlError) (w : Result Test SqlError) → SameTest bs r w → SameCondition bs (r >>= λ t. Ok (λ c. is_true (t c))) (w >>= λ t. Ok (Some t))
some_case bs (Ok t) (Ok s) h = λ c k. ap is_true (h c k)
some_case bs (Err e) (Err f) h = h
some_case bs (Ok t) (Err f) h = h
some_case bs (Err e) (Ok s) h = h

pub condition_same : (scope : Scope) (c : Option Cond) → SameCondition scope.bounds (condition scope c) (condition_validated scope c)
condition_same scope None = λ c h. refl
condition_same scope (Some t) = some_case scope.bounds (fold_cond (meant.test_at scope) t) (test_validated scope t) (test_same scope t)

-- the same combinations are kept
kept_at : (c : Combination) (a b : Bool) (xs ys : List Combination) → a ≡ b → xs ≡ ys → cond a (c ∷ xs) xs ≡ cond b (c ∷ ys) ys
kept_at c a b xs ys h k = λ i. cond (h i) (c ∷ k i) (k i)

pub kept_same : (bs : List Bound) (k l : Combination → Bool) (cs : List Combination) → ((c : Combination) → IsFit bs c → k c ≡ l c) → AreFit bs cs → filter k cs ≡ filter l cs
kept_same bs k l [] h fit = refl
kept_same bs k l (c ∷ cs) h fit = kept_at c (k c) (l c) (filter k cs) (filter l cs) (h c fit.0) (kept_same bs k l cs h fit.1)
