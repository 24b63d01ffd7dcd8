use Rattle.qc_serve.proofs.Turning.{spells}
use Rattle.qc_serve.proofs.holding.go_on.Goals as goal

pub release-requires-clause-content : goal.release-requires-clause-content
release-requires-clause-content c = spells c.args.task c.args.held c.requires
