use Rattle.qc_laws.proofs.history.Apart.{keys_apart}
use Rattle.qc_laws.proofs.laws.history.keys_are_apart.Goals as goal

pub returns : goal.returns
returns c = keys_apart
