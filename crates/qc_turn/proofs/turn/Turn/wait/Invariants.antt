use Rattle.std.proofs.Common.{◌≡◌, ◌≤◌}
use Rattle.qc_turn.specs.Seats.{view, IsSeatOf}
use Rattle.qc_turn.proofs.turn.Turn.wait.Given as goal

abbrev pub invariant-loop : goal.invariant-loop
invariant-loop g l = IsSeatOf l.self l.seat × (view l.seat ≡ view l.initial.seat) × (l.seat.pass.table_id ≡ l.initial.seat.pass.table_id) × (l.seat.ranges ≡ l.initial.seat.ranges) × (l.tries ≤ 40)
