use Rattle.qc_key.proofs.OneSpelling.{one_spelling}
use Rattle.qc_key.proofs.laws.one_spelling.Goals as goal

pub returns : goal.returns
returns c = one_spelling
