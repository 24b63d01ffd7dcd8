use Rattle.qc_sound.proofs.NewServer.{new_is_sound}
use Rattle.qc_sound.proofs.new_server_is_sound.Goals as goal

pub returns : goal.returns
returns c = new_is_sound
