use Rattle.qc_laws.proofs.sizes.Tokens.{tokens_are_short}
use Rattle.qc_laws.proofs.laws.sizes.tokens_are_short.Goals as goal

pub returns : goal.returns
returns c = record { short = tokens_are_short }
