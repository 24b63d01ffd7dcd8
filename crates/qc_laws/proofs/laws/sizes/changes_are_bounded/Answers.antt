use Rattle.qc_laws.proofs.sizes.Changes.{changes_are_bounded, change_errors_fit}
use Rattle.qc_laws.proofs.laws.sizes.changes_are_bounded.Goals as goal

pub returns-clause-operations : goal.returns-clause-operations
returns-clause-operations c = changes_are_bounded

pub returns-clause-errors : goal.returns-clause-errors
returns-clause-errors c = change_errors_fit
