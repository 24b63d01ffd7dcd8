use Rattle.std.proofs.Common.{refl}
use Rattle.qc_dir.specs.Keys.{pair_of}
use Rattle.qc_dir.proofs.keys.pair.Goals as goal

pub returns : goal.returns
unfolding pair_of
returns c = refl
