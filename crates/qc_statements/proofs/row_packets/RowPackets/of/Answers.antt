use Rattle.qc_statements.specs.Answers.{rest_of}
use Rattle.qc_statements.proofs.Packets.{whole_is}
use Rattle.qc_statements.proofs.row_packets.RowPackets.of.Goals as goal

pub returns : goal.returns
returns c = whole_is c.args.plan.columns (rest_of c.args.plan) c.args.status
