use Rattle.std.proofs.Common.{refl}
use Rattle.qc_chain.specs.Filed.{bucket_of}
use Rattle.qc_chain.proofs.slot_lists.bucket.Goals as goal

pub returns : goal.returns
unfolding bucket_of
returns c = refl
