use Rattle.std.proofs.Common.{sym, ◌∙◌, ap, map, ◌∷◌, length}
use Rattle.std.proofs.lemmas.List.{length-map}
use Rattle.qc_sql.specs.Rules.{calls_at, calls_of, in_capitals, joined}
use Rattle.qc_sql.specs.Trees.{fold_expr-Call}
use Rattle.qc_rules.specs.Functions.{first_name}
use Rattle.qc_rules.proofs.Firsts.{name_at, no_name_at}
use Rattle.qc_rules.proofs.calls.+expressions.Goals as goal

pub in_expression-returns-in-Call : goal.in_expression-returns-in-Call
in_expression-returns-in-Call t c =
    c.in_call.ensures
    ∙ (λ i. first_name ((in_capitals (c.bytes.ensures i), length (c.items-in-Call.ensures i)) ∷ joined (map calls_of (c.items-in-Call.ensures i))))
    ∙ ap (λ k. first_name ((in_capitals c.in-Call.word, k) ∷ joined (map calls_of c.in-Call.arguments))) (sym (length-map c.in-Call.arguments calls_of))
    ∙ ap first_name (sym (ap calls_of c.in-Call.is ∙ fold_expr-Call calls_at c.in-Call.word c.in-Call.arguments))

pub in_expressions-returns-in-Some : goal.in_expressions-returns-in-Some
in_expressions-returns-in-Some t c =
    name_at calls_of c.args.exprs.now c.loop-expr.expr-index c.expr-item.result c.in-Some.name.now c.loop-expr-test.true c.expr-item.is c.in-Some.ensures ∙ c.loop-expr.invariant

pub in_expressions-loop-expr-preserved : goal.in_expressions-loop-expr-preserved
in_expressions-loop-expr-preserved t c =
    no_name_at calls_of c.args.exprs.now c.loop-expr.expr-index c.expr-item.result c.loop-expr-test.true c.expr-item.is c.in_default.ensures ∙ c.loop-expr.invariant
