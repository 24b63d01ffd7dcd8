use Rattle.qc_serve.proofs.Pushing.{run_pushed}
use Rattle.qc_serve.proofs.events.push_run.Goals as goal

pub returns-clause-pushes : goal.returns-clause-pushes
returns-clause-pushes c = let n = c.note in run_pushed c.args.who c.args.how c.args.held.now n.new.held c.requires.ready n.ensures.stands n.ensures.ranges n.ensures.pushed
