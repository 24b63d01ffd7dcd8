use Rattle.std.proofs.Common.{◌≡◌, map, drop}
use Rattle.qc_sql.specs.Rules.{cond_calls_at, joined}
use Rattle.qc_sql.specs.Trees.{fold_cond}
use Rattle.qc_rules.specs.Functions.{first_name}
use Rattle.qc_rules.proofs.calls.+tests.Given as goal

abbrev pub invariant-in_tests-loop-cond : goal.invariant-in_tests-loop-cond
invariant-in_tests-loop-cond l = first_name (joined (map (fold_cond cond_calls_at) (drop l.cond-index l.conds))) ≡ first_name (joined (map (fold_cond cond_calls_at) l.conds))
