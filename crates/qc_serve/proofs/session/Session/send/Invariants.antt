use Rattle.std.specs.Prelude.{◌≤◌, length}
use Rattle.qc_serve.specs.Sent.{packet_size}
use Rattle.qc_serve.proofs.Cutting.{CutOn}
use Rattle.qc_serve.proofs.Sending.{Went}
use Rattle.qc_serve.proofs.session.Session.send.Given as goal

abbrev pub invariant-loop-rest : goal.invariant-loop-rest
invariant-loop-rest g l = record {
  sent : Went l.reply l.rest (g.K.ReplySink.held l.fn.sink) (g.K.ReplySink.held l.sink);
  cut : CutOn packet_size (length l.rest) (g.K.ReplySink.held l.fn.sink) (g.K.ReplySink.held l.sink);
  later : g.K.ReplySink.faults l.fn.sink ≤ g.K.ReplySink.faults l.sink;
}

abbrev pub decreases-loop-rest : goal.decreases-loop-rest
decreases-loop-rest g l = length l.rest
