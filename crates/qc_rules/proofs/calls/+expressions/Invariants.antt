use Rattle.std.proofs.Common.{◌≡◌, map, drop}
use Rattle.qc_sql.specs.Rules.{calls_of, joined}
use Rattle.qc_rules.specs.Functions.{first_name}
use Rattle.qc_rules.proofs.calls.+expressions.Given as goal

abbrev pub invariant-in_expressions-loop-expr : goal.invariant-in_expressions-loop-expr
invariant-in_expressions-loop-expr l = first_name (joined (map calls_of (drop l.expr-index l.exprs))) ≡ first_name (joined (map calls_of l.exprs))
