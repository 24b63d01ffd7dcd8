use Rattle.std.proofs.Common.{◌≡◌, sym, subst}
use Rattle.qc_sql.specs.Errors.{syntax_error}
use Rattle.qc_laws.specs.sizes.Replies.{FitsError}
use Rattle.qc_statements.proofs.Calls.{if_ok}
use Rattle.qc_statements.proofs.Sizes.{syntax_fits}
use Rattle.qc_statements.proofs.replies.fault_error.Goals as goal

pub returns-in-Syntax-clause-fits : goal.returns-in-Syntax-clause-fits
returns-in-Syntax-clause-fits c = λ _. if_ok (λ e. e ≡ syntax_error c.from.result) FitsError (λ e h. subst FitsError (sym h) (syntax_fits c.from.result)) c.syntax_error.result c.syntax_error.ensures
