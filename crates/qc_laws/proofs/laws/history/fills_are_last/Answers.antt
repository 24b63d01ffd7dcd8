use Rattle.qc_laws.proofs.history.Fillings.{fills_are_last}
use Rattle.qc_laws.proofs.laws.history.fills_are_last.Goals as goal

pub returns : goal.returns
returns c = fills_are_last
