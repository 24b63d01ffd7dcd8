use Rattle.qc_laws.proofs.fits.Changes.{changes_fit, changes_stay_within}
use Rattle.qc_laws.proofs.laws.fits.changes_fit.Goals as goal

pub returns-clause-fit : goal.returns-clause-fit
returns-clause-fit c = changes_fit

pub returns-clause-within : goal.returns-clause-within
returns-clause-within c = changes_stay_within
