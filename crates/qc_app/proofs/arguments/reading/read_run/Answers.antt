use Rattle.std.proofs.Common.{rules}
use Rattle.qc_app.proofs.Options.{refused_words, taken_words}
use Rattle.qc_app.proofs.arguments.reading.read_run.Goals as goal

pub returns-in-Ok : goal.returns-in-Ok
returns-in-Ok c = taken_words _ _ _ _ c.in_ok-command.ensures c.in-Ok.ensures.matches c.in-Ok.ensures.kinds c.options_in.ensures

pub returns-in-Err-2 : goal.returns-in-Err-2
returns-in-Err-2 c = refused_words _ _ c.in-Err.error c.in_ok-command.ensures c.in-Err.ensures.passes (λ is. search rules)
