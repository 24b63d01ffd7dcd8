use Rattle.qc_tiles.proofs.Crowds.{bounds_region}
use Rattle.qc_tiles.proofs.laws.small_blocks_crowd.Goals as goal

pub returns : goal.returns
returns c = bounds_region
