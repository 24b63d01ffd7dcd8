use Rattle.qc_parse.proofs.Prefixes.{first_tokens_refuse}
use Rattle.qc_parse.proofs.laws.first_tokens_refuse.Goals as goal

pub returns : goal.returns
returns c = record { refuse = first_tokens_refuse }
