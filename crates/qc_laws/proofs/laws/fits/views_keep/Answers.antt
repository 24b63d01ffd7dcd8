use Rattle.qc_laws.proofs.fits.Journals.{journals_keep, views_keep}
use Rattle.qc_laws.proofs.laws.fits.views_keep.Goals as goal

pub returns-clause-journals : goal.returns-clause-journals
returns-clause-journals c = journals_keep

pub returns-clause-views : goal.returns-clause-views
returns-clause-views c = views_keep
