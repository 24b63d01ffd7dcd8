use Rattle.std.proofs.Common.{◌≡◌, drop}
use Rattle.qc_sql.specs.Rows.{each}
use Rattle.qc_resolve.specs.Validated.{test_validated}
use Rattle.qc_resolve.specs.Steps.{run, push_made}
use Rattle.qc_resolve.proofs.conditions.+tests.Given as goal

abbrev pub invariant-tests-loop-cond : goal.invariant-tests-loop-cond
invariant-tests-loop-cond l = each (test_validated l.scope) l.conds ≡ run (push_made (test_validated l.scope)) (drop l.cond-index l.conds) l.tests
