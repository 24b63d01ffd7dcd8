use Rattle.qc_sound.proofs.Few.{are_few}
use Rattle.qc_sound.proofs.blocks_are_few.Goals as goal

pub returns : goal.returns
returns c = are_few
