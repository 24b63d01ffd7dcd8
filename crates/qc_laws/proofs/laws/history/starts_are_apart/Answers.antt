use Rattle.qc_laws.proofs.history.Starts.{starts_once}
use Rattle.qc_laws.proofs.laws.history.starts_are_apart.Goals as goal

pub returns : goal.returns
returns c = starts_once
