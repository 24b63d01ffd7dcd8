use Rattle.qc_laws.proofs.history.Serials.{serials_apart}
use Rattle.qc_laws.proofs.laws.history.entries_are_apart.Goals as goal

pub returns : goal.returns
returns c = serials_apart
