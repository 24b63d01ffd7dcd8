use Rattle.qc_parse.proofs.Alike.{tokens_decide}
use Rattle.qc_parse.proofs.laws.tokens_decide.Goals as goal

pub returns : goal.returns
returns c = record { decides = tokens_decide }
