use Rattle.std.proofs.Common.{arith}
use Rattle.qc_core.proofs.Resetting.{emptied_spare}
use Rattle.qc_core.proofs.server_state.ServerState.reset.Goals as goal

pub push-requires : goal.push-requires
push-requires c = omega (arith, c.requires.room, emptied_spare c.args.self.now c.drop_all.new.self c.drop_all.ensures)

pub returns-clause-reset : goal.returns-clause-reset
returns-clause-reset c = record { mid = c.drop_all.new.self; emptied = c.drop_all.ensures; server = c.push.ensures.pushed }
