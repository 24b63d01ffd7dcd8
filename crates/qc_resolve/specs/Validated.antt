-- How a SELECT is validated: the steps of `rows`, with formulas and tests in the place of functions.
use Rattle.std.specs.Prelude.{ℕ, ◌^◌, Bool, true, false, ◌&&◌, List, [], ◌∷◌, ◌++◌, length, map, Option, Some, None, Result, Ok, Err, ◌==◌, nat_lt, codes, if◌then◌else◌}
use Rattle.std.specs.List.{list_any}
use Rattle.qc_types.specs.declared.sql_error.SqlError.{SqlError}
use Rattle.qc_types.specs.declared.names.Value.{Value}
use Rattle.qc_types.specs.declared.names.Value.TheVariants as value
use Rattle.qc_sql.specs.declared.replies.ColumnDef.{ColumnDef}
use Rattle.qc_sql.specs.declared.session.Flags.{Flags}
use Rattle.qc_sql.specs.declared.statements.Expr.{Expr}
use Rattle.qc_sql.specs.declared.statements.Cond.{Cond}
use Rattle.qc_sql.specs.declared.statements.Cond.TheOpen.{Cond-F}
use Rattle.qc_sql.specs.declared.statements.Op.{Op}
use Rattle.qc_sql.specs.declared.statements.Item.{Item}
use Rattle.qc_sql.specs.declared.statements.Limit.{Limit}
use Rattle.qc_sql.specs.declared.statements.Order.{Order}
use Rattle.qc_sql.specs.declared.statements.Select.{Select}
use Rattle.qc_sql.specs.Trees.{fold_expr, fold_cond}
use Rattle.qc_sql.specs.Database.{Name, Database, Table}
use Rattle.qc_sql.specs.Errors.{not_supported, name_not_unique, too_many_combinations, too_many_columns}
use Rattle.qc_sql.specs.Rows.{Bound, Scope, Found, Sort, mixes, sort_of_value, each, ◌>>=◌, refuse_if, refuse_some, bind, first_repeated, combination_count, aggregate_at, has_aggregate, of_column, definition_of, value_cmp, sorted}
use Rattle.qc_resolve.specs.declared.definitions.ColumnNames.{ColumnNames}
use Rattle.qc_resolve.specs.declared.formula.Formula.{Formula}
use Rattle.qc_resolve.specs.declared.formula.Formula.TheVariants as form
use Rattle.qc_resolve.specs.declared.test.Test.{Test}
use Rattle.qc_resolve.specs.declared.test.Test.TheVariants as test
use Rattle.qc_resolve.specs.declared.items.Shown.{Shown}
use Rattle.qc_resolve.specs.declared.resolved.Fold.TheVariants as aggregate
use Rattle.qc_resolve.specs.declared.resolved.OrderKey.{OrderKey}
use Rattle.qc_resolve.specs.declared.resolved.Output.{Output}
use Rattle.qc_resolve.specs.declared.resolved.Output.TheVariants as output
use Rattle.qc_resolve.specs.declared.resolved.Resolved.{Resolved}
use Rattle.qc_resolve.specs.declared.select.Selection.{Selection}
use Rattle.qc_resolve.specs.Columns.{Spot, found_at, find_spot, all_spots}
use Rattle.qc_resolve.specs.Values.{Validated, folded, with_fold, row_validated, value_validated}
use Rattle.qc_resolve.specs.Steps.{run}

-- ---- conditions

abbrev pub comparable : Sort → Sort → Result (Unit {0}) SqlError
comparable a b = refuse_if (mixes a b) (not_supported (codes "mixed comparison"))

abbrev pub compare_validated : Scope → Expr → Op → Expr → Result Test SqlError
compare_validated scope a o b = row_validated scope a >>= λ x. row_validated scope b >>= λ y. comparable x.sort y.sort >>= λ _. Ok (test.Compare x.formula o y.formula)

abbrev pub null_validated : Scope → Expr → Result Test SqlError
null_validated scope a = row_validated scope a >>= λ x. Ok (test.IsNull x.formula)

abbrev pub in_validated : Scope → Expr → List Value → Result Test SqlError
in_validated scope a vs = row_validated scope a >>= λ x.
    refuse_if (list_any (λ v. mixes x.sort (sort_of_value v)) vs) (not_supported (codes "mixed comparison")) >>= λ _. Ok (test.In x.formula (sorted value_cmp vs))

-- the test of three values that were found good
abbrev pub between_values : Validated → Validated → Validated → Result Test SqlError
between_values x y z = comparable x.sort y.sort >>= λ _. comparable x.sort z.sort >>= λ _. Ok (test.Between x.formula y.formula z.formula)

abbrev pub between_validated : Scope → Expr → Expr → Expr → Result Test SqlError
between_validated scope a low high = row_validated scope a >>= λ x. row_validated scope low >>= λ y. row_validated scope high >>= λ z. between_values x y z

abbrev pub test_at : Scope → Cond-F (Result Test SqlError) → Result Test SqlError
test_at scope (Cond-F.Or all) = each (λ t. t) all >>= λ ts. Ok (test.Any ts)
test_at scope (Cond-F.And all) = each (λ t. t) all >>= λ ts. Ok (test.All ts)
test_at scope (Cond-F.Not t) = t >>= λ x. Ok (test.Not x)
test_at scope (Cond-F.Compare a o b) = compare_validated scope a o b
test_at scope (Cond-F.IsNull a) = null_validated scope a
test_at scope (Cond-F.In a vs) = in_validated scope a vs
test_at scope (Cond-F.Between a low high) = between_validated scope a low high

abbrev pub test_validated : Scope → Cond → Result Test SqlError
test_validated scope c = fold_cond (test_at scope) c

abbrev pub condition_validated : Scope → Option Cond → Result (Option Test) SqlError
condition_validated scope None = Ok None
condition_validated scope (Some c) = test_validated scope c >>= λ t. Ok (Some t)

-- ---- items

-- the definition of a column of no table
abbrev pub plain_def : ℕ → ℕ → ℕ → ℕ → Name → ColumnDef
plain_def charset length kind flags name = record { schema = []; table = []; org_table = []; name = name; org_name = []; charset = charset; length = length; kind = kind; flags = flags; decimals = 0 }

-- the names of a column in its table, and of the table
abbrev pub names_of : Found → ColumnNames
names_of f = record { schema = f.bound.name.db; table = f.bound.called; org_table = f.bound.name.name; org_name = f.column.name }

abbrev pub in_table : ColumnNames → ColumnDef → ColumnDef
in_table names d = record { schema = names.schema; table = names.table; org_table = names.org_table; name = d.name; org_name = names.org_name; charset = d.charset; length = d.length; kind = d.kind; flags = d.flags; decimals = d.decimals }

abbrev pub definition_for : Flags → Item → Validated → ColumnDef
definition_for flags item x = definition_of flags item (record { sort = x.sort; origin = x.origin; value_over = λ group. value.Null })

abbrev pub has_aggregate_item : Item → Bool
has_aggregate_item item = fold_expr aggregate_at item.value

-- nothing is shown yet
abbrev pub none_shown : Shown
none_shown = record { columns = []; formulas = []; folds = [] }

-- one item more
abbrev pub item_step : Flags → Scope → Bool → Item → Shown → Result Shown SqlError
item_step flags scope beside item s = value_validated beside scope item.value s.folds >>= λ x.
    Ok (record { columns = s.columns ++ definition_for flags item x.0 ∷ []; formulas = s.formulas ++ x.0.formula ∷ []; folds = x.1 })

-- one column more: in a select with an aggregate, its value in the first combination
abbrev pub spot_step : Flags → Bool → Shown → Spot → Shown
spot_step flags true s spot = record {
  columns = s.columns ++ of_column flags (found_at spot) spot.column.name ∷ [];
  formulas = s.formulas ++ folded s.folds ∷ [];
  folds = with_fold s.folds (aggregate.First spot.place);
}
spot_step flags false s spot = record {
  columns = s.columns ++ of_column flags (found_at spot) spot.column.name ∷ [];
  formulas = s.formulas ++ form.Column spot.place ∷ [];
  folds = s.folds;
}

-- these columns more
abbrev pub with_spots : Flags → Bool → Shown → List Spot → Shown
with_spots flags beside s [] = s
with_spots flags beside s (x ∷ xs) = with_spots flags beside (spot_step flags beside s x) xs

abbrev pub shown_validated : Flags → Scope → Select → Result Shown SqlError
shown_validated flags scope select =
    if select.star
    then (refuse_if (length select.from == 0) (not_supported (codes "star")) >>= λ _. Ok (with_spots flags (has_aggregate select) none_shown (all_spots 0 scope.bounds)))
    else run (item_step flags scope (has_aggregate select)) select.items none_shown

-- ---- order

abbrev pub key_validated : Scope → Order → Result OrderKey SqlError
key_validated scope o = find_spot scope.bounds o.column >>= λ s. Ok (record { desc = o.desc; place = s.place })

abbrev pub order_validated : Scope → List Order → Result (List OrderKey) SqlError
order_validated scope orders = each (key_validated scope) orders

-- ---- the whole

abbrev pub output_validated : Bool → Shown → List OrderKey → Output
output_validated true s order = output.Folded s.folds s.formulas
output_validated false s order = output.Each s.formulas order

abbrev pub offset_of : Option Limit → ℕ
offset_of None = 0
offset_of (Some limit) = limit.offset

abbrev pub count_of : Option Limit → ℕ → ℕ
count_of None row_limit = row_limit
count_of (Some limit) row_limit = limit.count

-- the names and the number of combinations are refused
abbrev pub bounds_validated : List Bound → Result (Unit {0}) SqlError
bounds_validated bounds =
    refuse_some (first_repeated [] (map (λ b. b.called) bounds)) name_not_unique >>= λ _.
    refuse_if (nat_lt (2 ^ 40) (combination_count bounds)) too_many_combinations

-- what is shown, in at most 64 columns
abbrev pub few_shown : Flags → Scope → Select → Result Shown SqlError
few_shown flags scope select = shown_validated flags scope select >>= λ s. refuse_if (nat_lt 64 (length s.columns)) too_many_columns >>= λ _. Ok s

-- the order, which may not stand beside an aggregate
abbrev pub order_allowed : Scope → Select → Result (List OrderKey) SqlError
order_allowed scope select =
    refuse_if (has_aggregate select && nat_lt 0 (length select.order)) (not_supported (codes "ordered aggregate")) >>= λ _.
    order_validated scope select.order

-- which combinations are kept, in which order
abbrev pub selection_validated : Scope → Select → Result Selection SqlError
selection_validated scope select =
    condition_validated scope select.cond >>= λ t.
    order_allowed scope select >>= λ order.
    Ok (record { test = t; order = order })

abbrev pub resolved_of : Select → Flags → List Table → Shown → Selection → Resolved
resolved_of select flags tables s kept = record {
  columns = s.columns;
  tables = tables;
  test = kept.test;
  output = output_validated (has_aggregate select) s kept.order;
  offset = offset_of select.limit;
  count = count_of select.limit flags.row_limit;
}

-- what is shown, and which combinations are kept, in which order
unfoldable pub parts_validated : Select → Flags → Scope → Result Resolved SqlError
parts_validated select flags scope =
    few_shown flags scope select >>= λ s.
    selection_validated scope select >>= λ kept.
    Ok (resolved_of select flags (map (λ b. b.table) scope.bounds) s kept)

unfoldable pub validated_over : Select → Flags → Scope → Result Resolved SqlError
validated_over select flags scope = bounds_validated scope.bounds >>= λ _. parts_validated select flags scope

unfoldable pub validated : Select → Database → Name → Flags → ℕ → Result Resolved SqlError
validated select d db flags session =
    refuse_if (select.lock && flags.in_trans) (not_supported (codes "locking read")) >>= λ _.
    each (bind d db) select.from >>= λ bounds.
    validated_over select flags (record { bounds = bounds; db = db; session = session })
