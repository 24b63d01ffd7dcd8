use Rattle.qc_laws.proofs.sizes.Applied.{databases_stay_bounded}
use Rattle.qc_laws.proofs.laws.sizes.databases_stay_bounded.Goals as goal

pub returns-clause-stay : goal.returns-clause-stay
returns-clause-stay c = databases_stay_bounded
