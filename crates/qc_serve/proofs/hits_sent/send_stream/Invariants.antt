use Rattle.std.specs.Prelude.{◌+◌, ◌-◌, ◌≤◌}
use Rattle.qc_serve.proofs.Streaming.{Streaming}
use Rattle.qc_serve.proofs.hits_sent.send_stream.Given as goal

abbrev pub invariant-loop-count : goal.invariant-loop-count
invariant-loop-count g l = record {
  streams : Streaming l.turn l.fn.seat l.seat l.fn.stream l.stream l.count l.piece (g.K.ReplySink.held l.fn.sink) (g.K.ReplySink.held l.sink);
  later : g.K.ReplySink.faults l.fn.sink ≤ g.K.ReplySink.faults l.sink;
}

abbrev pub decreases-loop-count : goal.decreases-loop-count
decreases-loop-count g l = (l.stream.bytes - l.stream.sent) + l.count
