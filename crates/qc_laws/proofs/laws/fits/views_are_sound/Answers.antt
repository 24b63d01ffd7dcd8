use Rattle.qc_laws.proofs.fits.Open.{views_are_sound, views_are_within}
use Rattle.qc_laws.proofs.laws.fits.views_are_sound.Goals as goal

pub returns-clause-sound : goal.returns-clause-sound
returns-clause-sound c = views_are_sound

pub returns-clause-within : goal.returns-clause-within
returns-clause-within c = views_are_within
