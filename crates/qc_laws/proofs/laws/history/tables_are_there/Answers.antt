use Rattle.qc_laws.proofs.history.Named.{tables_are_there}
use Rattle.qc_laws.proofs.laws.history.tables_are_there.Goals as goal

pub returns : goal.returns
returns c = tables_are_there
