use Rattle.qc_laws.proofs.fits.Journals.{lawful_commits_fit, lawful_stays_within, journals_are_sound}
use Rattle.qc_laws.proofs.laws.fits.journals_are_sound.Goals as goal

pub returns-clause-fit : goal.returns-clause-fit
returns-clause-fit c = lawful_commits_fit

pub returns-clause-within : goal.returns-clause-within
returns-clause-within c = lawful_stays_within

pub returns-clause-sound : goal.returns-clause-sound
returns-clause-sound c = journals_are_sound
