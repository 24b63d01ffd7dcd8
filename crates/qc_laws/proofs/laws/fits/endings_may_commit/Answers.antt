use Rattle.qc_laws.proofs.fits.Open.{endings_fit, statements_may_commit, commits_grow}
use Rattle.qc_laws.proofs.fits.Full.{none_is_full, within_is_not_full}
use Rattle.qc_laws.proofs.laws.fits.endings_may_commit.Goals as goal

pub returns-clause-fit : goal.returns-clause-fit
returns-clause-fit c = endings_fit

pub returns-clause-none : goal.returns-clause-none
returns-clause-none c = none_is_full

pub returns-clause-full : goal.returns-clause-full
returns-clause-full c = within_is_not_full

pub returns-clause-statements : goal.returns-clause-statements
returns-clause-statements c = statements_may_commit

pub returns-clause-journal : goal.returns-clause-journal
returns-clause-journal c = commits_grow
