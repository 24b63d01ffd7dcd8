use Rattle.std.proofs.Common.{◌≡◌, ℕ, ◌+◌, ◌++◌, List, length}
use Rattle.qc_turn.specs.Seats.{view, IsSeatOf}
use Rattle.qc_turn.specs.Views.{with_content}
use Rattle.qc_flow.specs.Fills.{IsFillOf}
use Rattle.qc_flow.proofs.fills.Fill.store.Given as goal

abbrev pub invariant-loop-rest : goal.invariant-loop-rest
invariant-loop-rest l = record {
  seated : IsSeatOf l.turn l.seat × (l.seat.ranges ≡ l.initial.seat.ranges);
  split : (done : List ℕ) × (l.bytes ≡ done ++ l.rest) × (view l.seat ≡ with_content (view l.initial.seat) ((view l.initial.seat).content ++ done));
  fills : IsFillOf l.self l.seat;
  same : (l.self.serial ≡ l.initial.self.serial) × (l.self.limit ≡ l.initial.self.limit);
  bytes : l.self.bytes + length l.rest ≡ l.initial.self.bytes + length l.bytes;
}

abbrev pub decreases-loop-rest : goal.decreases-loop-rest
decreases-loop-rest l = length l.rest
