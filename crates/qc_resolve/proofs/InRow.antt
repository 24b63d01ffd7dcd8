-- The variants of an expression whose parts are lists.
use Rattle.std.proofs.Common.{◌≡◌, ℕ, List, length, map, ap, ◌∙◌, Result, Ok, Err, sym}
use Rattle.std.proofs.lemmas.List.{length-map}
use Rattle.qc_types.specs.declared.sql_error.SqlError.{SqlError}
use Rattle.qc_sql.specs.declared.statements.Expr.{Expr}
use Rattle.qc_sql.specs.declared.statements.Expr.TheVariants.{Concat, Call}
use Rattle.qc_sql.specs.Database.{Name}
use Rattle.qc_sql.specs.Rules.{in_capitals}
use Rattle.qc_sql.specs.Rows.{Scope, Words, each, ◌>>=◌}
use Rattle.qc_sql.specs.Trees.{fold_expr-Concat, fold_expr-Call}
use Rattle.qc_resolve.specs.declared.formula.Formula.{Formula}
use Rattle.qc_resolve.specs.declared.formula.Formula.TheVariants as form
use Rattle.qc_resolve.specs.Values.{Validated, Ways, computed, call_validated, formula_in_row, ways, ways_at, row_validated}
use Rattle.qc_resolve.proofs.Steps.{each_of_map}

-- the formula of an expression in a row
abbrev pub formula_of : Scope → Expr → Result Formula SqlError
formula_of scope e = formula_in_row (ways scope e)

pub concat_in_row : (scope : Scope) (e : Expr) (es ys : List Expr) → e ≡ Concat es → ys ≡ es → row_validated scope e ≡ (each (formula_of scope) ys >>= λ fs. Ok (computed Words (form.Concat fs)))
concat_in_row scope e es ys h k =
    ap (row_validated scope) h
    ∙ ap (λ (w : Ways). w.in_row) (fold_expr-Concat (ways_at scope) es)
    ∙ ap (λ r. r >>= λ fs. Ok (computed Words (form.Concat fs))) (each_of_map formula_in_row (ways scope) es)
    ∙ ap (λ zs. each (formula_of scope) zs >>= λ fs. Ok (computed Words (form.Concat fs))) (sym k)

pub call_in_row : (scope : Scope) (e : Expr) (w v : Name) (es ys : List Expr) → e ≡ Call w es → v ≡ w → ys ≡ es → row_validated scope e ≡ call_validated scope (in_capitals v) (length ys)
call_in_row scope e w v es ys h j k =
    ap (row_validated scope) h
    ∙ ap (λ (x : Ways). x.in_row) (fold_expr-Call (ways_at scope) w es)
    ∙ ap (call_validated scope (in_capitals w)) (length-map es (ways scope))
    ∙ (λ i. call_validated scope (in_capitals (sym j i)) (length (sym k i)))
