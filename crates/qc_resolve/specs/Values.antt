-- Expressions as formulas, or the first refusal.
use Rattle.std.specs.Prelude.{ℕ, pos, Bool, true, false, ◌&&◌, List, [], ◌∷◌, ◌++◌, length, map, Result, Ok, Err, ◌==◌, bytes_eq, codes, if◌then◌else◌}
use Rattle.qc_types.specs.declared.names.Value.{Value}
use Rattle.qc_types.specs.declared.names.Value.TheVariants as value
use Rattle.qc_types.specs.declared.sql_error.SqlError.{SqlError}
use Rattle.qc_sql.specs.declared.tables.Kind.{Kind}
use Rattle.qc_sql.specs.declared.tables.Kind.TheVariants as kind
use Rattle.qc_sql.specs.declared.statements.Expr.{Expr}
use Rattle.qc_sql.specs.declared.statements.Expr.TheOpen.{Expr-F}
use Rattle.qc_sql.specs.Trees.{fold_expr}
use Rattle.qc_sql.specs.Database.{Name}
use Rattle.qc_sql.specs.Rules.{in_capitals}
use Rattle.qc_sql.specs.Errors.{not_supported}
use Rattle.qc_sql.specs.Rows.{Scope, Sort, Number, Words, Nothing, Origin, Computed, Summed, Itself, BestOf, sort_of_kind, sort_of_value, each, ◌>>=◌}
use Rattle.qc_resolve.specs.declared.formula.Formula.{Formula}
use Rattle.qc_resolve.specs.declared.formula.Formula.TheVariants as form
use Rattle.qc_resolve.specs.declared.resolved.Fold.{Fold}
use Rattle.qc_resolve.specs.declared.resolved.Fold.TheVariants as aggregate
use Rattle.qc_resolve.specs.Columns.{Spot, found_at, find_spot}
use Rattle.qc_resolve.specs.Steps.{run}

-- an expression that was found good
pub record Validated : Type 0 where
  pub sort : Sort
  pub origin : Origin
  pub formula : Formula

abbrev pub computed : Sort → Formula → Validated
computed sort f = record { sort = sort; origin = Computed; formula = f }

abbrev pub column_validated : Spot → Validated
column_validated s = record { sort = sort_of_kind s.column.kind; origin = Itself (found_at s); formula = form.Column s.place }

abbrev pub sum_validated : Spot → Formula → Result Validated SqlError
sum_validated s f = by_kind s.column.kind
  where
    by_kind : Kind → Result Validated SqlError
    by_kind kind.Int = Ok (record { sort = Number; origin = Summed; formula = f })
    by_kind (kind.Str n) = Err (not_supported (codes "SUM of text"))

abbrev pub best_validated : Spot → Formula → Validated
best_validated s f = record { sort = sort_of_kind s.column.kind; origin = BestOf (found_at s); formula = f }

abbrev pub database_value : Name → Value
database_value db = if length db == 0 then value.Null else value.Str db

abbrev pub call_validated : Scope → Name → ℕ → Result Validated SqlError
call_validated scope word count =
    if bytes_eq word (codes "DATABASE") && count == 0
    then Ok (computed Words (form.Literal (database_value scope.db)))
    else if bytes_eq word (codes "CONNECTION_ID") && count == 0
    then Ok (computed Number (form.Literal (value.Int (pos scope.session))))
    else Err (not_supported word)

-- an expression, and the aggregates that stand before and in it
abbrev pub Beside : Type 0
Beside = Validated × List Fold

-- what an expression is over one row, and what it is beside aggregates, where these stand before it
pub record Ways : Type 0 where
  pub in_row : Result Validated SqlError
  pub in_group : List Fold → Result Beside SqlError

abbrev pub formula_in_row : Ways → Result Formula SqlError
formula_in_row w = w.in_row >>= λ x. Ok x.formula

abbrev pub each_in_row : List Ways → Result (List Formula) SqlError
each_in_row ws = each formula_in_row ws

-- one formula more, beside aggregates
abbrev pub group_step : Ways → List Formula × List Fold → Result (List Formula × List Fold) SqlError
group_step w s = w.in_group s.1 >>= λ x. Ok (s.0 ++ x.0.formula ∷ [], x.1)

abbrev pub each_in_group : List Ways → List Fold → Result (List Formula × List Fold) SqlError
each_in_group ws folds = run group_step ws ([], folds)

-- one aggregate more, and the formula of its value
abbrev pub folded : List Fold → Formula
folded folds = form.Folded (length folds)

abbrev pub with_fold : List Fold → Fold → List Fold
with_fold folds f = folds ++ f ∷ []

abbrev pub row_at : Scope → Expr-F Ways → Result Validated SqlError
row_at scope (Expr-F.Column c) = find_spot scope.bounds c >>= λ s. Ok (column_validated s)
row_at scope (Expr-F.Literal v) = Ok (computed (sort_of_value v) (form.Literal v))
row_at scope Expr-F.CountAll = Ok (computed Number (form.Literal (value.Int (pos 1))))
row_at scope (Expr-F.Count w) = w.in_row >>= λ x. Ok (computed Number (form.Present x.formula))
row_at scope (Expr-F.Sum c) = find_spot scope.bounds c >>= λ s. sum_validated s (form.Column s.place)
row_at scope (Expr-F.Min c) = find_spot scope.bounds c >>= λ s. Ok (best_validated s (form.Column s.place))
row_at scope (Expr-F.Max c) = find_spot scope.bounds c >>= λ s. Ok (best_validated s (form.Column s.place))
row_at scope (Expr-F.Length w) = w.in_row >>= λ x. Ok (computed Number (form.Length x.formula))
row_at scope (Expr-F.Concat ws) = each_in_row ws >>= λ fs. Ok (computed Words (form.Concat fs))
row_at scope (Expr-F.Call word ws) = call_validated scope (in_capitals word) (length ws)

-- COUNT of a value, beside aggregates
abbrev pub counted : Result Validated SqlError → List Fold → Result Beside SqlError
counted of folds = of >>= λ x. Ok (computed Number (folded folds), with_fold folds (aggregate.Count x.formula))

abbrev pub group_at : Scope → Expr-F Ways → List Fold → Result Beside SqlError
group_at scope (Expr-F.Column c) folds = find_spot scope.bounds c >>= λ s. Err (not_supported (codes "mixed aggregate"))
group_at scope (Expr-F.Literal v) folds = Ok (computed (sort_of_value v) (form.Literal v), folds)
group_at scope Expr-F.CountAll folds = Ok (computed Number (folded folds), with_fold folds aggregate.CountAll)
group_at scope (Expr-F.Count w) folds = counted w.in_row folds
group_at scope (Expr-F.Sum c) folds = find_spot scope.bounds c >>= λ s. sum_validated s (folded folds) >>= λ x. Ok (x, with_fold folds (aggregate.Sum s.place))
group_at scope (Expr-F.Min c) folds = find_spot scope.bounds c >>= λ s. Ok (best_validated s (folded folds), with_fold folds (aggregate.Least s.place))
group_at scope (Expr-F.Max c) folds = find_spot scope.bounds c >>= λ s. Ok (best_validated s (folded folds), with_fold folds (aggregate.Greatest s.place))
group_at scope (Expr-F.Length w) folds = w.in_group folds >>= λ x. Ok (computed Number (form.Length x.0.formula), x.1)
group_at scope (Expr-F.Concat ws) folds = each_in_group ws folds >>= λ xs. Ok (computed Words (form.Concat xs.0), xs.1)
group_at scope (Expr-F.Call word ws) folds = call_validated scope (in_capitals word) (length ws) >>= λ x. Ok (x, folds)

abbrev pub ways_at : Scope → Expr-F Ways → Ways
ways_at scope e = record { in_row = row_at scope e; in_group = group_at scope e }

abbrev pub ways : Scope → Expr → Ways
ways scope e = fold_expr (ways_at scope) e

abbrev pub row_validated : Scope → Expr → Result Validated SqlError
row_validated scope e = (ways scope e).in_row

abbrev pub count_validated : Scope → Expr → List Fold → Result Beside SqlError
count_validated scope e folds = counted (row_validated scope e) folds

abbrev pub group_validated : Scope → Expr → List Fold → Result Beside SqlError
group_validated scope e folds = (ways scope e).in_group folds

-- by whether the select has an aggregate
abbrev pub value_validated : Bool → Scope → Expr → List Fold → Result Beside SqlError
value_validated true scope e folds = group_validated scope e folds
value_validated false scope e folds = row_validated scope e >>= λ x. Ok (x, folds)
