use Rattle.qc_serve.proofs.Pushing.{commit_made, commit_pushed, refused_ready}
use Rattle.qc_serve.proofs.events.push_commit.Goals as goal

pub returns-clause-made : goal.returns-clause-made
returns-clause-made c = let n = c.commit in commit_made c.args.ops c.args.held.now.value.database n.new.held.value.database n.result n.ensures.made

pub returns-clause-pushes : goal.returns-clause-pushes
returns-clause-pushes c = let n = c.commit in commit_pushed c.args.who c.args.ops c.args.held.now n.new.held n.result c.requires.ready n.ensures.stands n.ensures.ranges n.ensures.committed n.ensures.listed

pub returns-clause-kept : goal.returns-clause-kept
returns-clause-kept c = let n = c.commit in refused_ready c.args.who c.args.held.now n.new.held n.result c.requires.ready n.ensures.stands n.ensures.ranges n.ensures.kept
