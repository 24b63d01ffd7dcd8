use Rattle.qc_laws.proofs.fits.Written.{forms_stay, rows_stay}
use Rattle.qc_laws.proofs.laws.fits.unwritten_rows_stay.Goals as goal

pub returns-clause-columns : goal.returns-clause-columns
returns-clause-columns c = forms_stay

pub returns-clause-rows : goal.returns-clause-rows
returns-clause-rows c = rows_stay
