use Rattle.std.proofs.Common.{◌≡◌, drop, Result}
use Rattle.qc_types.specs.declared.sql_error.SqlError.{SqlError}
use Rattle.qc_sql.specs.declared.statements.Expr.{Expr}
use Rattle.qc_sql.specs.Rows.{each}
use Rattle.qc_resolve.specs.declared.formula.Formula.{Formula}
use Rattle.qc_resolve.specs.Values.{formula_in_row, ways}
use Rattle.qc_resolve.specs.Steps.{run, push_made}
use Rattle.qc_resolve.proofs.values.+row.Given as goal

abbrev pub invariant-row_values-loop-expr : goal.invariant-row_values-loop-expr
invariant-row_values-loop-expr l =
    let f : Expr → Result Formula SqlError = λ e. formula_in_row (ways l.scope e) in
    each f l.exprs ≡ run (push_made f) (drop l.expr-index l.exprs) l.formulas
