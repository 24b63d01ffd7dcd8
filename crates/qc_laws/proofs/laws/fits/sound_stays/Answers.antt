use Rattle.qc_laws.proofs.fits.Stays.{sound_stays, sound_empty}
use Rattle.qc_laws.proofs.laws.fits.sound_stays.Goals as goal

pub returns-clause-stays : goal.returns-clause-stays
returns-clause-stays c = sound_stays

pub returns-clause-empty : goal.returns-clause-empty
returns-clause-empty c = sound_empty
