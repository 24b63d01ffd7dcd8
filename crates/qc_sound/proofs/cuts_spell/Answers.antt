use Rattle.qc_sound.proofs.Cuts.{cuts_spell}
use Rattle.qc_sound.proofs.cuts_spell.Goals as goal

pub returns : goal.returns
returns c = cuts_spell
