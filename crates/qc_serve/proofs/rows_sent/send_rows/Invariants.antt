use Rattle.std.specs.Prelude.{◌≤◌, length}
use Rattle.std.specs.List.{concat}
use Rattle.qc_serve.proofs.Cutting.{PacketsOn}
use Rattle.qc_serve.proofs.Sending.{Went}
use Rattle.qc_serve.proofs.rows_sent.send_rows.Given as goal

abbrev pub invariant-loop-packet : goal.invariant-loop-packet
invariant-loop-packet g l = record {
  sent : Went (concat l.fn.packets) (concat l.packets) (g.K.ReplySink.held l.fn.sink) (g.K.ReplySink.held l.sink);
  cut : PacketsOn l.fn.packets l.packets (g.K.ReplySink.held l.fn.sink) (g.K.ReplySink.held l.sink);
  later : g.K.ReplySink.faults l.fn.sink ≤ g.K.ReplySink.faults l.sink;
}

abbrev pub decreases-loop-packet : goal.decreases-loop-packet
decreases-loop-packet g l = length l.packets
