use Rattle.std.proofs.Common.{Option, List, ℕ, subst}
use Rattle.qc_types.specs.Answers.{Gives}
use Rattle.qc_sql.specs.Rows.{Scope}
use Rattle.qc_resolve.specs.declared.test.Test.{Test}
use Rattle.qc_resolve.specs.Validated.{condition_validated}
use Rattle.qc_resolve.specs.Kept.{under_its_name}
use Rattle.qc_resolve.proofs.OneTable.{condition_kept}
use Rattle.qc_resolve.proofs.matching.resolve_condition.Goals as goal

pub returns : goal.returns
returns c =
    condition_kept (under_its_name c.args.name.now c.args.version.now) c.args.db.now c.args.session c.args.cond.now c.condition.result c.in_ok-scope.ensures.sound
    (subst (λ (s : Scope). Gives (λ (t : Option Test). t) (λ e. e) c.condition.result (condition_validated s c.args.cond.now)) c.in_ok-scope.ensures.value c.condition.ensures)
