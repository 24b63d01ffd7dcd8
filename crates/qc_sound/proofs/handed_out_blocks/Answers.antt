use Rattle.qc_sound.proofs.Handed.{pinned_all, gives_all}
use Rattle.qc_sound.proofs.handed_out_blocks.Goals as goal

pub returns-clause-pins : goal.returns-clause-pins
returns-clause-pins c = pinned_all

pub returns-clause-gives : goal.returns-clause-gives
returns-clause-gives c = gives_all
