use Rattle.qc_serve.proofs.Replying.{planned}
use Rattle.qc_serve.proofs.rows_sent.loaded.Goals as goal

pub of-requires : goal.of-requires
of-requires g c = planned c.args.plan c.load.new.self c.requires c.in_ok-load.ensures.loads
