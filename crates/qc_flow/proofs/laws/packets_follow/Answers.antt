use Rattle.qc_flow.proofs.Begins.{packets_follow}
use Rattle.qc_flow.proofs.laws.packets_follow.Goals as goal

pub returns : goal.returns
returns c = packets_follow
