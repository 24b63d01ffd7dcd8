use Rattle.qc_laws.proofs.history.Stays.{hits_are_whole}
use Rattle.qc_laws.proofs.laws.history.hits_are_whole.Goals as goal

pub returns : goal.returns
returns c = hits_are_whole
