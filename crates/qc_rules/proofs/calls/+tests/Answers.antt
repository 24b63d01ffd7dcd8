use Rattle.std.proofs.Common.{◌∙◌}
use Rattle.qc_sql.specs.Rules.{cond_calls_at}
use Rattle.qc_sql.specs.Trees.{fold_cond}
use Rattle.qc_rules.proofs.Firsts.{name_at, no_name_at}
use Rattle.qc_rules.proofs.calls.+tests.Goals as goal

pub in_tests-returns-in-Some : goal.in_tests-returns-in-Some
in_tests-returns-in-Some t c =
    name_at (fold_cond cond_calls_at) c.args.conds.now c.loop-cond.cond-index c.cond-item.result c.in-Some.name.now c.loop-cond-test.true c.cond-item.is c.in-Some.ensures ∙ c.loop-cond.invariant

pub in_tests-loop-cond-preserved : goal.in_tests-loop-cond-preserved
in_tests-loop-cond-preserved t c =
    no_name_at (fold_cond cond_calls_at) c.args.conds.now c.loop-cond.cond-index c.cond-item.result c.loop-cond-test.true c.cond-item.is c.in_default.ensures ∙ c.loop-cond.invariant
