use Rattle.qc_laws.proofs.sizes.Selects.{select_errors_fit, select_rows_fit}
use Rattle.qc_laws.proofs.laws.sizes.select_replies_fit.Goals as goal

pub returns-clause-errors : goal.returns-clause-errors
returns-clause-errors c = select_errors_fit

pub returns-clause-rows : goal.returns-clause-rows
returns-clause-rows c = select_rows_fit
