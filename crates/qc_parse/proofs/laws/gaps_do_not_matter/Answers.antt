use Rattle.qc_parse.proofs.Gaps.{gaps_do_not_matter}
use Rattle.qc_parse.proofs.laws.gaps_do_not_matter.Goals as goal

pub returns : goal.returns
returns c = record { alike = gaps_do_not_matter }
