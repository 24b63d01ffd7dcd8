use Rattle.std.specs.Prelude.{◌≤◌, length}
use Rattle.qc_turn.specs.Seats.{view}
use Rattle.qc_serve.proofs.Cutting.{PacketsOn}
use Rattle.qc_serve.proofs.Fillings.{Filling, StoredOn}
use Rattle.qc_serve.proofs.rows_sent.fill_rows.Given as goal

abbrev pub invariant-loop-packet : goal.invariant-loop-packet
invariant-loop-packet g l = record {
  fills : Filling l.turn l.fn.seat l.seat l.fn.packets l.packets l.fn.fill l.fill (g.K.ReplySink.held l.fn.sink) (g.K.ReplySink.held l.sink);
  cut : PacketsOn l.fn.packets l.packets (g.K.ReplySink.held l.fn.sink) (g.K.ReplySink.held l.sink);
  stored : StoredOn l.fill (view l.fn.seat) (view l.seat) (g.K.ReplySink.held l.fn.sink) (g.K.ReplySink.held l.sink);
  later : g.K.ReplySink.faults l.fn.sink ≤ g.K.ReplySink.faults l.sink;
}

abbrev pub decreases-loop-packet : goal.decreases-loop-packet
decreases-loop-packet g l = length l.packets
