use Rattle.qc_laws.proofs.sizes.Parsed.{parsed_names_are_short}
use Rattle.qc_laws.proofs.laws.sizes.parsed_names_are_short.Goals as goal

pub returns : goal.returns
returns c = record { short = parsed_names_are_short }
