use Rattle.std.proofs.Common.{◌∙◌}
use Rattle.qc_serve.specs.declared.execution.Executed.TheVariants as executed
use Rattle.qc_serve.proofs.Breaking.{ended, never_quits, same_log}
use Rattle.qc_serve.proofs.execution.execute_keeping.Goals as goal

pub returns-in-Err : goal.returns-in-Err
returns-in-Err g c =
    let r = c.reply in
    let f = c.finish-in-Err in
    let leaves = f.ensures.leaves in
    let e = c.in-Err.ensures in
    record {
      executes = λ other. (ended c.args.turn.now c.args.command.now c.args.session.now r.new.self f.new.self (g.K.ReplySink.held c.args.sink.now) (g.K.ReplySink.held r.new.sink) c.in-Err.end e.ends leaves, e.cause);
      quits = never_quits c.args.turn.now c.args.command.now c.args.session.now f.new.self (g.K.ReplySink.held c.args.sink.now) (g.K.ReplySink.held r.new.sink) (executed.Ended c.in-Err.end) c.in_default.not-Quit;
      later = r.ensures.later;
      hits_read_no_row = λ line is hit. r.ensures.hits_read_no_row line (same_log c.args.turn.now r.new.self f.new.self c.in-Err.end leaves ∙ is) hit;
    }
