use Rattle.qc_app.proofs.Rounding.{options_are_rounded}
use Rattle.qc_app.proofs.arguments.laws.options_are_rounded.Goals as goal

pub returns : goal.returns
returns c = options_are_rounded
