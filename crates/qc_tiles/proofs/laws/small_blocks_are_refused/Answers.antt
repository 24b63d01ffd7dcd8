use Rattle.qc_tiles.proofs.Refusals.{taken-some}
use Rattle.qc_tiles.proofs.laws.small_blocks_are_refused.Goals as goal

pub returns : goal.returns
returns c = taken-some
