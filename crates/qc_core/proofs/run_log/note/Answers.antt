use Rattle.qc_core.proofs.Noting.{noted_nothing}
use Rattle.qc_core.proofs.run_log.note.Goals as goal

pub push_run-requires-clause-nothing : goal.push_run-requires-clause-nothing
push_run-requires-clause-nothing c = noted_nothing c.args.held.now.value c.args.how c.requires.noted
