-- How many combinations a validated SELECT has, and how many columns.
use Rattle.std.proofs.Common.{◌≡◌, ℕ, suc, ◌+◌, ◌*◌, ◌^◌, ◌≤◌, Bool, true, false, cond, List, [], ◌∷◌, ◌++◌, length, map, refl, ap, sym, ◌∙◌, subst, Result, Ok, Err, arith}
use Rattle.std.specs.Prelude.{Option, Some, None, ◌&&◌, ◌==◌, nat_lt, codes, IfOk}
use Rattle.std.specs.List.{flat_map}
use Rattle.std.proofs.lemmas.Bool.Decides.{nat_tests}
use Rattle.std.proofs.lemmas.List.{length-map, length-append}
use Rattle.qc_types.specs.Answers.{Gives}
use Rattle.qc_types.specs.declared.memory.Or.{Or}
use Rattle.qc_types.specs.declared.memory.Or.TheVariants as or
use Rattle.qc_types.specs.declared.sql_error.SqlError.{SqlError}
use Rattle.qc_sql.specs.declared.replies.ColumnDef.{ColumnDef}
use Rattle.qc_sql.specs.declared.session.Flags.{Flags}
use Rattle.qc_sql.specs.declared.statements.Item.{Item}
use Rattle.qc_sql.specs.declared.statements.Select.{Select}
use Rattle.qc_sql.specs.Database.{Name}
use Rattle.qc_sql.specs.Errors.{not_supported, name_not_unique, too_many_combinations, too_many_columns}
use Rattle.qc_sql.specs.Rows.{Bound, Scope, combinations, combination_count, first_repeated, has_aggregate, refuse_if, refuse_some, ◌>>=◌}
use Rattle.qc_resolve.specs.declared.formula.Formula.{Formula}
use Rattle.qc_resolve.specs.declared.items.Shown.{Shown}
use Rattle.qc_resolve.specs.declared.resolved.OrderKey.{OrderKey}
use Rattle.qc_resolve.specs.declared.resolved.Output.{Output}
use Rattle.qc_resolve.specs.declared.resolved.Resolved.{Resolved}
use Rattle.qc_resolve.specs.Columns.{Spot, all_spots}
use Rattle.qc_resolve.specs.Validated.{none_shown, item_step, spot_step, with_spots, shown_validated, few_shown, selection_validated, output_validated, bounds_validated, parts_validated, validated_over}
use Rattle.qc_resolve.specs.Meaning.{all_combinations, items_of}
use Rattle.qc_resolve.specs.Steps.{run}
use Rattle.qc_resolve.specs.Values.{Beside, value_validated}
use Rattle.qc_resolve.proofs.Agrees.{combinations_same}

-- ---- steps that went on

pub record WentOn {A B : Type 0} (r : Result A SqlError) (f : A → Result B SqlError) (y : B) : Type 0 where
  pub at : A
  pub first : r ≡ Ok at
  pub then : f at ≡ Ok y

went_on : {A B : Type 0} (r : Result A SqlError) (f : A → Result B SqlError) (y : B) → (r >>= f) ≡ Ok y → WentOn r f y
went_on (Ok x) f y h = record { at = x; first = refl; then = h }
went_on (Err e) f y h = absurd cc

not_refused : (b : Bool) (e : SqlError) (u : Unit {0}) → refuse_if b e ≡ Ok u → b ≡ false
not_refused true e u h = absurd cc
not_refused false e u h = refl

-- ---- combinations

length_flat_map : {A B : Type 0} (n : ℕ) (f : A → List B) → ((x : A) → length (f x) ≡ n) → (xs : List A) → length (flat_map f xs) ≡ length xs * n
length_flat_map n f h [] = grind arith
length_flat_map n f h (x ∷ xs) =
    length-append (f x) (flat_map f xs) ∙ (λ i. h x i + length_flat_map n f h xs i) ∙ one_more n (length xs)
  where
    one_more : (n k : ℕ) → n + k * n ≡ suc k * n
    one_more n k = grind arith

count_is : (bs : List Bound) → length (combinations bs) ≡ combination_count bs
count_is [] = refl
count_is (b ∷ bs) = length_flat_map (combination_count bs) (λ entry. map (λ c. entry.1 ∷ c) (combinations bs)) (λ entry. length-map (combinations bs) (λ c. entry.1 ∷ c) ∙ count_is bs) b.table.rows

not_above : (m n : ℕ) → nat_lt m n ≡ false → n ≤ m
not_above m n h = grind (arith, nat_tests)

few_bounds : (bs : List Bound) (u : Unit {0}) → bounds_validated bs ≡ Ok u → length (all_combinations (map (λ b. b.table) bs)) ≤ 2 ^ 40
few_bounds bs u h =
    let w = went_on (refuse_some (first_repeated [] (map (λ (b : Bound). b.called) bs)) name_not_unique) (λ _. refuse_if (nat_lt (2 ^ 40) (combination_count bs)) too_many_combinations) u h in
    let below = not_above (2 ^ 40) (combination_count bs) (not_refused (nat_lt (2 ^ 40) (combination_count bs)) too_many_combinations u w.then) in
    subst (λ n. n ≤ 2 ^ 40) (sym (sym (ap length (combinations_same bs)) ∙ count_is bs)) below

-- ---- columns

abbrev Even : Shown → Type 0
Even s = length s.columns ≡ length s.formulas

both_longer : (ds : List ColumnDef) (fs : List Formula) (d : ColumnDef) (f : Formula) → length ds ≡ length fs → length (ds ++ d ∷ []) ≡ length (fs ++ f ∷ [])
both_longer ds fs d f h = length-append ds (d ∷ []) ∙ ap (λ (n : ℕ). n + 1) h ∙ sym (length-append fs (f ∷ []))

ok_same : (s t : Shown) → ◌≡◌ {A = Result Shown SqlError} (Ok s) (Ok t) → s ≡ t
ok_same s t e = cc

item_even : (flags : Flags) (scope : Scope) (aggregated : Bool) (item : Item) (s t : Shown) → Even s → item_step flags scope aggregated item s ≡ Ok t → Even t
item_even flags scope aggregated item s t h e =
    let w = went_on (value_validated aggregated scope item.value s.folds) _ t e in
    subst Even (ok_same _ t w.then) (both_longer s.columns s.formulas _ _ h)

run_even : (flags : Flags) (scope : Scope) (aggregated : Bool) (items : List Item) (s t : Shown) → Even s → run (item_step flags scope aggregated) items s ≡ Ok t → Even t
run_even flags scope aggregated [] s t h e = let k : s ≡ t = cc in subst Even k h
run_even flags scope aggregated (item ∷ items) s t h e =
    let w = went_on (item_step flags scope aggregated item s) (run (item_step flags scope aggregated) items) t e in
    run_even flags scope aggregated items w.at t (item_even flags scope aggregated item s w.at h w.first) w.then

spots_even : (flags : Flags) (aggregated : Bool) (spots : List Spot) (s : Shown) → Even s → Even (with_spots flags aggregated s spots)
spots_even flags aggregated [] s h = h
spots_even flags true (x ∷ xs) s h = spots_even flags true xs (spot_step flags true s x) (both_longer s.columns s.formulas _ _ h)
spots_even flags false (x ∷ xs) s h = spots_even flags false xs (spot_step flags false s x) (both_longer s.columns s.formulas _ _ h)

shown_even : (flags : Flags) (scope : Scope) (select : Select) (star : Bool) (t : Shown)
    → cond star (refuse_if (length select.from == 0) (not_supported (codes "star")) >>= λ _. Ok (with_spots flags (has_aggregate select) none_shown (all_spots 0 scope.bounds))) (run (item_step flags scope (has_aggregate select)) select.items none_shown) ≡ Ok t
    → Even t
shown_even flags scope select true t e =
    let w = went_on (refuse_if (length select.from == 0) (not_supported (codes "star"))) (λ _. Ok (with_spots flags (has_aggregate select) none_shown (all_spots 0 scope.bounds))) t e in
    let k : with_spots flags (has_aggregate select) none_shown (all_spots 0 scope.bounds) ≡ t = ok_same _ t w.then in
    subst Even k (spots_even flags (has_aggregate select) (all_spots 0 scope.bounds) none_shown refl)
shown_even flags scope select false t e = run_even flags scope (has_aggregate select) select.items none_shown t refl e

items_are : (aggregated : Bool) (s : Shown) (order : List OrderKey) → items_of (output_validated aggregated s order) ≡ s.formulas
items_are true s order = refl
items_are false s order = refl

-- ---- both

record IsSized (scope : Scope) (x : Resolved) : Type 0 where
  pub tables : x.tables ≡ map (λ b. b.table) scope.bounds
  pub full : length (items_of x.output) ≡ length x.columns

parts_sized : (select : Select) (flags : Flags) (scope : Scope) (x : Resolved) → parts_validated select flags scope ≡ Ok x → IsSized scope x
unfolding parts_validated
parts_sized select flags scope x e =
    let a = went_on (few_shown flags scope select) _ x e in
    let b = went_on (selection_validated scope select) _ x a.then in
    let c = went_on (shown_validated flags scope select) _ a.at a.first in
    let d = went_on (refuse_if (nat_lt 64 (length c.at.columns)) too_many_columns) _ a.at c.then in
    let even = subst Even (ok_same c.at a.at d.then) (shown_even flags scope select select.star c.at c.first) in
    subst (IsSized scope) (ok_is _ x b.then) (record { tables = refl; full = ap length (items_are (has_aggregate select) a.at b.at.order) ∙ sym even })
  where
    ok_is : (s t : Resolved) → ◌≡◌ {A = Result Resolved SqlError} (Ok s) (Ok t) → s ≡ t
    ok_is s t e = cc

over_sized : (select : Select) (flags : Flags) (scope : Scope) (x : Resolved) → validated_over select flags scope ≡ Ok x → (length (all_combinations x.tables) ≤ 2 ^ 40) × (length (items_of x.output) ≡ length x.columns)
unfolding validated_over
over_sized select flags scope x e =
    let w = went_on (bounds_validated scope.bounds) (λ _. parts_validated select flags scope) x e in
    let sized = parts_sized select flags scope x w.then in
    (subst (λ (ts : List _). length (all_combinations ts) ≤ 2 ^ 40) (sym sized.tables) (few_bounds scope.bounds w.at w.first), sized.full)

pub few_given : (r : Result Resolved (Or SqlError)) (select : Select) (flags : Flags) (scope : Scope) → Gives (λ x. x) (λ e. e) r (validated_over select flags scope) → IfOk r (λ x. length (all_combinations x.tables) ≤ 2 ^ 40)
few_given (Ok x) select flags scope g = (over_sized select flags scope x g).0
few_given (Err e) select flags scope g = tt

pub full_given : (r : Result Resolved (Or SqlError)) (select : Select) (flags : Flags) (scope : Scope) → Gives (λ x. x) (λ e. e) r (validated_over select flags scope) → IfOk r (λ x. length (items_of x.output) ≡ length x.columns)
full_given (Ok x) select flags scope g = (over_sized select flags scope x g).1
full_given (Err e) select flags scope g = tt
