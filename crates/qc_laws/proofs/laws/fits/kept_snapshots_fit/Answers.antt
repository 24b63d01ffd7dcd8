use Rattle.qc_laws.proofs.fits.Kept.{kept_snapshots_fit}
use Rattle.qc_laws.proofs.laws.fits.kept_snapshots_fit.Goals as goal

pub returns : goal.returns
returns c = record { fit = kept_snapshots_fit }
