-- The variants of an expression beside aggregates whose parts are lists.
use Rattle.std.proofs.Common.{◌≡◌, ℕ, List, [], ◌∷◌, length, map, refl, ap, ◌∙◌, Result, Ok, Err, sym}
use Rattle.std.proofs.lemmas.List.{length-map}
use Rattle.qc_types.specs.declared.sql_error.SqlError.{SqlError}
use Rattle.qc_sql.specs.declared.statements.Expr.{Expr}
use Rattle.qc_sql.specs.declared.statements.Expr.TheVariants.{Concat, Call}
use Rattle.qc_sql.specs.Database.{Name}
use Rattle.qc_sql.specs.Rules.{in_capitals}
use Rattle.qc_sql.specs.Rows.{Scope, Words, each, ◌>>=◌}
use Rattle.qc_sql.specs.Trees.{fold_expr-Concat, fold_expr-Call}
use Rattle.qc_resolve.specs.declared.formula.Formula.{Formula}
use Rattle.qc_resolve.specs.declared.formula.Formula.TheVariants as form
use Rattle.qc_resolve.specs.declared.resolved.Fold.{Fold}
use Rattle.qc_resolve.specs.Steps.{run}
use Rattle.qc_resolve.specs.Values.{Beside, Ways, computed, call_validated, group_step, group_validated, ways, ways_at}

abbrev pub step_of : Scope → Expr → List Formula × List Fold → Result (List Formula × List Fold) SqlError
step_of scope e = group_step (ways scope e)

run_of_map : {A B S : Type 0} (step : B → S → Result S SqlError) (g : A → B) (xs : List A) (s : S) → run step (map g xs) s ≡ run (λ x. step (g x)) xs s
run_of_map step g [] s = refl
run_of_map step g (x ∷ xs) s = ap (λ (f : _ → _). step (g x) s >>= f) (λ i t. run_of_map step g xs t i)

abbrev pub joined : List Formula × List Fold → Result Beside SqlError
joined xs = Ok (computed Words (form.Concat xs.0), xs.1)

pub concat_in_group : (scope : Scope) (e : Expr) (es ys : List Expr) (folds : List Fold) → e ≡ Concat es → ys ≡ es → group_validated scope e folds ≡ (run (step_of scope) ys ([], folds) >>= joined)
concat_in_group scope e es ys folds h k =
    ap (λ x. group_validated scope x folds) h
    ∙ ap (λ (w : Ways). w.in_group folds) (fold_expr-Concat (ways_at scope) es)
    ∙ ap (λ r. r >>= joined) (run_of_map group_step (ways scope) es ([], folds))
    ∙ ap (λ zs. run (step_of scope) zs ([], folds) >>= joined) (sym k)

pub call_in_group : (scope : Scope) (e : Expr) (w v : Name) (es ys : List Expr) (folds : List Fold) → e ≡ Call w es → v ≡ w → ys ≡ es
    → group_validated scope e folds ≡ (call_validated scope (in_capitals v) (length ys) >>= λ x. Ok (x, folds))
call_in_group scope e w v es ys folds h j k =
    ap (λ x. group_validated scope x folds) h
    ∙ ap (λ (x : Ways). x.in_group folds) (fold_expr-Call (ways_at scope) w es)
    ∙ ap (λ n. call_validated scope (in_capitals w) n >>= λ x. Ok (x, folds)) (length-map es (ways scope))
    ∙ (λ i. call_validated scope (in_capitals (sym j i)) (length (sym k i)) >>= λ x. Ok (x, folds))
