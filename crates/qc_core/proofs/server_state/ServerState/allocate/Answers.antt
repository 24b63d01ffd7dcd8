use Rattle.qc_core.proofs.Searching.{takes_ok, takes_err}
use Rattle.qc_core.proofs.server_state.ServerState.allocate.Goals as goal

pub returns-clause-ok : goal.returns-clause-ok
returns-clause-ok c = λ u.
    takes_ok c.args.need c.args.hand.now c.prune.new.hand c.args.self.now c.prune.new.self u (c.prune.ensures.pruned u) c.take.result c.take.new.self c.take.ensures.block c.take.ensures.tiles

pub returns-clause-err : goal.returns-clause-err
returns-clause-err c = λ u.
    takes_err c.args.need c.args.hand.now c.prune.new.hand c.args.self.now c.prune.new.self u (c.prune.ensures.pruned u) c.take.result _ c.in_ok-prune.ensures.ok c.take.ensures.block
