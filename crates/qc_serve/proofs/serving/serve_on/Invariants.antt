use Rattle.std.proofs.Common.{◌≤◌}
use Rattle.qc_serve.specs.Served.{IsServing}
use Rattle.qc_serve.proofs.serving.serve_on.Given as goal

abbrev pub invariant-loop : goal.invariant-loop
invariant-loop g l =
    IsServing l.turn l.fn.session l.session (g.S.Source.left l.fn.source) (g.S.Source.left l.source) (g.K.ReplySink.held l.fn.sink) (g.K.ReplySink.held l.sink)
    × (g.S.Source.faults l.fn.source ≤ g.S.Source.faults l.source) × (g.K.ReplySink.faults l.fn.sink ≤ g.K.ReplySink.faults l.sink)
