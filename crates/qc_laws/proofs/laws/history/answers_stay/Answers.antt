use Rattle.qc_laws.proofs.history.Stays.{answers_stay}
use Rattle.qc_laws.proofs.laws.history.answers_stay.Goals as goal

pub returns : goal.returns
returns c = answers_stay
