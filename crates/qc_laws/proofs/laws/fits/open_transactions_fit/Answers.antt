use Rattle.qc_laws.proofs.fits.Open.{new_ones_fit, arrived_ones_fit, arrived_have_snapshots, grown_ones_fit, fitting_stays}
use Rattle.qc_laws.proofs.laws.fits.open_transactions_fit.Goals as goal

pub returns-clause-begun : goal.returns-clause-begun
returns-clause-begun c = new_ones_fit

pub returns-clause-arrived : goal.returns-clause-arrived
returns-clause-arrived c = arrived_ones_fit

pub returns-clause-snapshots : goal.returns-clause-snapshots
returns-clause-snapshots c = arrived_have_snapshots

pub returns-clause-grown : goal.returns-clause-grown
returns-clause-grown c = grown_ones_fit

pub returns-clause-later : goal.returns-clause-later
returns-clause-later c = fitting_stays
