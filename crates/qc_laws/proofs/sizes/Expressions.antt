-- Expressions and conditions: what they give is bounded, and their refusals too.
use Rattle.std.proofs.Common.{◌≡◌, ℕ, Bool, true, false, cond, List, [], ◌∷◌, length, map, refl, arith, Option, Some, None, Ok}
use Rattle.std.specs.Prelude.{codes, ◌&&◌, ◌==◌, not, nat_lt, bytes_eq}
use Rattle.std.specs.List.{list_all, AllByRecursion}
use Rattle.std.proofs.lemmas.Bool.{and_parts, leb-true, ltb-false, le-leb}
use mathlib.Core.Former.{Count as Arity}
use Rattle.qc_types.specs.declared.names.Value.{Value}
use Rattle.qc_types.specs.declared.names.Value.TheVariants as value
use Rattle.qc_sql.specs.declared.tables.Kind.{Kind}
use Rattle.qc_sql.specs.declared.tables.Kind.TheVariants as kind
use Rattle.qc_sql.specs.declared.statements.Select.{Select}
use Rattle.qc_sql.specs.declared.statements.Op.{Op}
use Rattle.qc_sql.specs.declared.statements.Op.TheVariants as op
use Rattle.qc_sql.specs.declared.statements.Expr.{Expr, Row_of-Expr, end_of-Expr, more_of-Expr}
use Rattle.qc_sql.specs.declared.statements.Expr.TheVariants.{Column as ColumnOf, Literal, CountAll, Count', Sum, Min, Max, Length', Concat', Call'}
use Rattle.qc_sql.specs.declared.statements.Cond.{Cond, Row_of-Cond, end_of-Cond, more_of-Cond}
use Rattle.qc_sql.specs.declared.statements.Cond.TheVariants.{Or', And', Not', Compare, IsNull, In, Between}
use Rattle.qc_sql.specs.Trees.{fold_exprs, fold_cond, fold_conds}
use Rattle.qc_sql.specs.Database.{Name}
use Rattle.qc_sql.specs.Rules.{in_capitals}
use Rattle.qc_sql.specs.Rows.{◌>>=◌, each, Bound, Combination, Found, find_column, Sort, sort_of_value, mixes, Scope, Origin, Computed, Summed, Itself, BestOf, Good, good, at_first, is_null, non_null, best, text_of, length_value, concat_texts, concat_value, call_value, sum_good, sum_value, best_good, plain_column, check, check_at, comparison, test_at, condition, ordering}
use Rattle.qc_laws.specs.sizes.Names.{is_short, is_bounded_value, passes_if_there, is_short_value_at, is_short_value, is_short_cond_at, is_short_cond, is_short_order}
use Rattle.qc_laws.proofs.sizes.Each.{each_from_test, each_mapped, each_filtered}
use Rattle.qc_laws.proofs.sizes.Answered.{not_supported_fits, word_not_supported_fits, Answered, Anything, gives, refuses, after, chosen, weaker, each_answered}
use Rattle.qc_laws.proofs.sizes.Tables.{Bounded, BoundedCombination, BoundedGroup, BoundFits, FoundFits, find_answers}

-- ---- expressions

abbrev pub OriginFits : Origin → Type 0
OriginFits Computed = Unit {0}
OriginFits Summed = Unit {0}
OriginFits (Itself f) = FoundFits f
OriginFits (BestOf f) = FoundFits f

pub record GoodFits (x : Good) : Type 0 where
  pub origin : OriginFits x.origin
  pub values : (group : List Combination) → BoundedGroup group → Bounded (x.value_over group)

pub first_bounded : (f : Combination → Value) → ((c : Combination) → BoundedCombination c → Bounded (f c)) → (group : List Combination) → BoundedGroup group → Bounded (at_first f group)
first_bounded f k [] h = refl
first_bounded f k (c ∷ cs) h = k c h.0

pub non_null_bounded : (f : Combination → Value) → ((c : Combination) → BoundedCombination c → Bounded (f c)) → (group : List Combination) → BoundedGroup group → AllByRecursion Bounded (non_null f group)
non_null_bounded f k group h = each_filtered Bounded (λ v. not (is_null v)) (map f group) (each_mapped BoundedCombination Bounded f k group h)

pub best_bounded : (precedes : Value → Value → Bool) (vs : List Value) → AllByRecursion Bounded vs → Bounded (best precedes vs)
best_bounded precedes [] h = refl
best_bounded precedes (v ∷ []) h = h.0
best_bounded precedes (v ∷ w ∷ vs) h = by (precedes (best precedes (w ∷ vs)) v) (best_bounded precedes (w ∷ vs) h.1)
  where
    by : (b : Bool) → Bounded (best precedes (w ∷ vs)) → Bounded (cond b (best precedes (w ∷ vs)) v)
    by true later = later
    by false later = h.0

pub sum_bounded : (vs : List Value) → Bounded (sum_value vs)
sum_bounded [] = refl
sum_bounded (v ∷ vs) = refl

pub length_bounded : (o : Option (List ℕ)) → Bounded (length_value o)
length_bounded None = refl
length_bounded (Some t) = refl

pub concat_bounded : (o : Option (List ℕ)) → Bounded (concat_value o)
concat_bounded None = refl
concat_bounded (Some t) = by (nat_lt 65535 (length t)) refl
  where
    by : (b : Bool) → nat_lt 65535 (length t) ≡ b → Bounded (cond b value.Null (value.Str t))
    by true e = refl
    by false e = le-leb (length t) 65535 (ltb-false 65535 (length t) e)

pub plain_answers : (beside : Bool) (f : Found) → FoundFits f → Answered GoodFits (plain_column beside f)
plain_answers true f h = refuses (not_supported_fits (codes "mixed aggregate") refl)
plain_answers false f h = gives (record { origin = h; values = first_bounded f.value_in h.values })

pub sum_answers : (b : Bound) (n : Name) (k : Kind) (required key : Bool) (v : Combination → Value)
    → Answered GoodFits (sum_good (record { bound = b; column = record { name = n; kind = k; not_null = required; primary = key }; value_in = v }))
sum_answers b n kind.Int required key v = gives (record { origin = tt; values = λ group h. sum_bounded (non_null v group) })
sum_answers b n (kind.Str most) required key v = refuses (not_supported_fits (codes "SUM of text") refl)

pub best_fits : (precedes : Value → Value → Bool) (f : Found) → FoundFits f → GoodFits (best_good precedes f)
best_fits precedes f h = record { origin = h; values = λ group g. best_bounded precedes (non_null f.value_in group) (non_null_bounded f.value_in h.values group g) }

-- a value of no column
pub computed : {sort : Sort} {f : List Combination → Value} → ((group : List Combination) → Bounded (f group)) → Answered GoodFits (Ok (good sort f))
computed h = gives (record { origin = tt; values = λ group _. h group })

pub database_bounded : (db : Name) → is_short db ≡ true → (b : Bool) → Bounded (cond b value.Null (value.Str db))
database_bounded db h true = refl
database_bounded db h false = le-leb (length db) 65535 (omega (arith, leb-true (length db) 64 h))

module _ (scope : Scope) (bounds : AllByRecursion BoundFits scope.bounds) (db : is_short scope.db ≡ true) where
  pub call_answers : (w : Name) (count : ℕ) → is_short w ≡ true → Answered GoodFits (call_value scope (in_capitals w) count)
  call_answers w count h =
      chosen (bytes_eq (in_capitals w) (codes "DATABASE") && count == 0) (computed (λ group. database_bounded scope.db db (length scope.db == 0)))
      (chosen (bytes_eq (in_capitals w) (codes "CONNECTION_ID") && count == 0) (computed (λ group. refl))
      (refuses (word_not_supported_fits w h)))

  mutual
    pub check_answers : (e : Expr) (beside : Bool) → is_short_value e ≡ true → Answered GoodFits (check scope e beside)
    check_answers (ColumnOf c) beside h = after _ (find_answers scope.bounds c bounds h) (λ f g. plain_answers beside f g)
    check_answers (Literal v) beside h = computed (λ group. h)
    check_answers CountAll beside h = computed (λ group. refl)
    check_answers (Count' s (more_of-Expr e end_of-Expr)) beside h = after _ (check_answers e false h) (λ x g. computed (λ group. refl))
    check_answers (Sum c) beside h = after _ (find_answers scope.bounds c bounds h) (λ f g. sum_answers f.bound f.column.name f.column.kind f.column.not_null f.column.primary f.value_in)
    check_answers (Min c) beside h = after _ (find_answers scope.bounds c bounds h) (λ f g. gives (best_fits _ f g))
    check_answers (Max c) beside h = after _ (find_answers scope.bounds c bounds h) (λ f g. gives (best_fits _ f g))
    check_answers (Length' s (more_of-Expr e end_of-Expr)) beside h = after _ (check_answers e beside h) (λ x g. computed (λ group. length_bounded (text_of (x.value_over group))))
    check_answers (Concat' s es) beside h = after _ (all_answer es beside h) (λ xs g. computed (λ group. concat_bounded (concat_texts (map (λ x. x.value_over group) xs))))
    check_answers (Call' w s es) beside h = call_answers w _ (and_parts (is_short w) (list_all (λ part. part) (fold_exprs is_short_value_at es)) h).0

    pub all_answer : {k : Arity} (es : Row_of-Expr k) (beside : Bool) → list_all (λ part. part) (fold_exprs is_short_value_at es) ≡ true
        → Answered (AllByRecursion GoodFits) (each (λ e. e beside) (fold_exprs (check_at scope) es))
    all_answer end_of-Expr beside h = gives tt
    all_answer (more_of-Expr e es) beside h =
        let parts = and_parts (is_short_value e) (list_all (λ part. part) (fold_exprs is_short_value_at es)) h in
        after _ (check_answers e beside parts.0) (λ y g. after _ (all_answer es beside parts.1) (λ ys f. gives (g, f)))

  -- ---- conditions

  pub comparison_answers : (o : Op) (x y : Good) → Answered Anything (comparison o x y)
  comparison_answers o x y = chosen (mixes x.sort y.sort) (refuses (not_supported_fits (codes "mixed comparison") refl)) (gives tt)

  pub each_anything : {A : Type 0} (xs : List A) → AllByRecursion (Anything {A = A}) xs
  each_anything [] = tt
  each_anything (x ∷ xs) = (tt, each_anything xs)

  mutual
    pub cond_answers : (c : Cond) → is_short_cond c ≡ true → Answered Anything (fold_cond (test_at scope) c)
    cond_answers (Or' s cs) h = after _ (conds_answer cs h) (λ tests _. gives tt)
    cond_answers (And' s cs) h = after _ (conds_answer cs h) (λ tests _. gives tt)
    cond_answers (Not' s (more_of-Cond c end_of-Cond)) h = after _ (cond_answers c h) (λ t _. gives tt)
    cond_answers (Compare a o b) h =
        let parts = and_parts (is_short_value a) (is_short_value b) h in
        after _ (check_answers a false parts.0) (λ x _. after _ (check_answers b false parts.1) (λ y _. comparison_answers o x y))
    cond_answers (IsNull a) h = after _ (check_answers a false h) (λ x _. gives tt)
    cond_answers (In a vs) h =
        let parts = and_parts (is_short_value a) (list_all is_bounded_value vs) h in
        after _ (check_answers a false parts.0) (λ x _. after _ (each_answered Anything Anything _ (λ v _. comparison_answers op.Eq x (good (sort_of_value v) (λ _. v))) vs (each_anything vs)) (λ tests _. gives tt))
    cond_answers (Between a low high) h =
        let parts = and_parts (is_short_value a) (is_short_value low && is_short_value high) h in
        let ends = and_parts (is_short_value low) (is_short_value high) parts.1 in
        after _ (check_answers a false parts.0) (λ x _. after _ (check_answers low false ends.0) (λ y _. after _ (check_answers high false ends.1) (λ z _.
        after _ (comparison_answers op.Ge x y) (λ s _. after _ (comparison_answers op.Le x z) (λ t _. gives tt)))))

    pub conds_answer : {k : Arity} (cs : Row_of-Cond k) → list_all (λ part. part) (fold_conds is_short_cond_at cs) ≡ true → Answered Anything (each (λ t. t) (fold_conds (test_at scope) cs))
    conds_answer end_of-Cond h = gives tt
    conds_answer (more_of-Cond c cs) h =
        let parts = and_parts (is_short_cond c) (list_all (λ part. part) (fold_conds is_short_cond_at cs)) h in
        after _ (cond_answers c parts.0) (λ t _. after _ (conds_answer cs parts.1) (λ ts _. gives tt))

  pub condition_answers : (c : Option Cond) → passes_if_there is_short_cond c ≡ true → Answered Anything (condition scope c)
  condition_answers None h = gives tt
  condition_answers (Some c) h = after _ (cond_answers c h) (λ t _. gives tt)

  pub ordering_answers : (s : Select) → list_all is_short_order s.order ≡ true → Answered Anything (ordering scope s)
  ordering_answers s h =
      weaker (λ xs _. tt) (each_answered (λ o. is_short_order o ≡ true) Anything (λ o. find_column scope.bounds o.column >>= λ f. Ok (o.desc, f))
      (λ o g. after _ (find_answers scope.bounds o.column bounds g) (λ f _. gives tt)) s.order (each_from_test is_short_order s.order h))
