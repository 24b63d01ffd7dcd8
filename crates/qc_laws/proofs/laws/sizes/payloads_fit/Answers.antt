use Rattle.qc_laws.proofs.sizes.Payloads.{error_payloads_fit, row_payloads_fit, reply_payloads_fit}
use Rattle.qc_laws.proofs.laws.sizes.payloads_fit.Goals as goal

pub returns-clause-errors : goal.returns-clause-errors
returns-clause-errors c = error_payloads_fit

pub returns-clause-rows : goal.returns-clause-rows
returns-clause-rows c = row_payloads_fit

pub returns-clause-reply : goal.returns-clause-reply
returns-clause-reply c = reply_payloads_fit
