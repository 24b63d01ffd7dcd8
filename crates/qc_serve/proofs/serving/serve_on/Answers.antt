use Rattle.std.proofs.Common.{arith, subst}
use Rattle.qc_serve.specs.declared.ending.End.{End}
use Rattle.qc_serve.specs.Executed.{Leaves}
use Rattle.qc_serve.proofs.Rounds.{ended_here, ended_reading, goes_on_here, serving_begins}
use Rattle.qc_serve.proofs.serving.serve_on.Goals as goal

pub loop-init : goal.loop-init
loop-init g c = (serving_begins c.args.turn.now c.args.session.now (g.S.Source.left c.args.source.now) (g.K.ReplySink.held c.args.sink.now) c.requires.0 c.requires.1, omega arith, omega arith)

pub returns-in-Err-clause-served : goal.returns-in-Err-clause-served
returns-in-Err-clause-served g c =
    let t = c.args.turn.now in
    let middle = c.loop.session in
    let new = c.finish.new.self in
    ended_reading t c.args.session.now middle new (g.S.Source.left c.args.source.now) (g.S.Source.left c.loop.source) (g.S.Source.left c.read_command.new.source) (g.K.ReplySink.held c.args.sink.now) (g.K.ReplySink.held c.loop.sink) c.in-Err.why c.requires.0.reached c.loop.invariant.0
    c.in-Err.ensures.command (subst (λ (e : End). Leaves t middle new e) c.reading_end.ensures c.finish.ensures.leaves)

pub returns-in-Ended-clause-served : goal.returns-in-Ended-clause-served
returns-in-Ended-clause-served g c =
    let x = c.execute_keeping in
    ended_here c.args.turn.now c.args.session.now c.loop.session x.new.session (g.S.Source.left c.args.source.now) (g.S.Source.left c.loop.source) (g.S.Source.left c.read_command.new.source) (g.K.ReplySink.held c.args.sink.now) (g.K.ReplySink.held c.loop.sink) (g.K.ReplySink.held x.new.sink)
    c.in-Ok.command (g.K.ReplySink.faults c.loop.sink) (g.K.ReplySink.faults x.new.sink) x.result c.in-Ended.field-0 c.requires.0.reached c.loop.invariant.0 c.in-Ok.ensures.command (record { executes = x.ensures.executes; quits = x.ensures.quits }) c.in-Ended.is

pub loop-preserved-in_default : goal.loop-preserved-in_default
loop-preserved-in_default g c =
    let x = c.execute_keeping in (
      goes_on_here c.args.turn.now c.args.session.now c.loop.session x.new.session (g.S.Source.left c.args.source.now) (g.S.Source.left c.loop.source) (g.S.Source.left c.read_command.new.source) (g.K.ReplySink.held c.args.sink.now) (g.K.ReplySink.held c.loop.sink)
          (g.K.ReplySink.held x.new.sink) c.in-Ok.command (g.K.ReplySink.faults c.loop.sink) (g.K.ReplySink.faults x.new.sink) x.result c.requires.0.reached c.loop.invariant.0 c.in-Ok.ensures.command (record { executes = x.ensures.executes; quits = x.ensures.quits }) c.in_default.is,
      omega (arith, c.loop.invariant.1, c.read_command.ensures.later),
      omega (arith, c.loop.invariant.2, x.ensures.later),
    )

pub loop-preserved-in_default-2 : goal.loop-preserved-in_default-2
loop-preserved-in_default-2 g c =
    let x = c.execute_keeping in (
      goes_on_here c.args.turn.now c.args.session.now c.loop.session x.new.session (g.S.Source.left c.args.source.now) (g.S.Source.left c.loop.source) (g.S.Source.left c.read_command.new.source) (g.K.ReplySink.held c.args.sink.now) (g.K.ReplySink.held c.loop.sink)
          (g.K.ReplySink.held x.new.sink) c.in-Ok.command (g.K.ReplySink.faults c.loop.sink) (g.K.ReplySink.faults x.new.sink) x.result c.requires.0.reached c.loop.invariant.0 c.in-Ok.ensures.command (record { executes = x.ensures.executes; quits = x.ensures.quits }) c.in_default.is,
      omega (arith, c.loop.invariant.1, c.read_command.ensures.later),
      omega (arith, c.loop.invariant.2, x.ensures.later),
    )

pub loop-preserved : goal.loop-preserved
loop-preserved g c =
    let x = c.execute_keeping in (
      goes_on_here c.args.turn.now c.args.session.now c.loop.session x.new.session (g.S.Source.left c.args.source.now) (g.S.Source.left c.loop.source) (g.S.Source.left c.read_command.new.source) (g.K.ReplySink.held c.args.sink.now) (g.K.ReplySink.held c.loop.sink)
          (g.K.ReplySink.held x.new.sink) c.in-Ok.command (g.K.ReplySink.faults c.loop.sink) (g.K.ReplySink.faults x.new.sink) x.result c.requires.0.reached c.loop.invariant.0 c.in-Ok.ensures.command (record { executes = x.ensures.executes; quits = x.ensures.quits }) c.in_default.is,
      omega (arith, c.loop.invariant.1, c.read_command.ensures.later),
      omega (arith, c.loop.invariant.2, x.ensures.later),
    )
