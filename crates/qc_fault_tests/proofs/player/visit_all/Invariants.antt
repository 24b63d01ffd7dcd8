use Rattle.std.proofs.Common.{◌≡◌}
use Rattle.qc_turn.specs.Seats.{view}
use Rattle.qc_serve.specs.Connecting.{MayConnect}
use Rattle.qc_fault_tests.proofs.player.visit_all.Given as goal

abbrev pub ghosts-visit_by : goal.ghosts-visit_by
ghosts-visit_by g a = record { name = a.blank.name; parts = a.blank.parts }

abbrev pub invariant-loop-visit : goal.invariant-loop-visit
invariant-loop-visit g l = MayConnect l.turn l.options l.seat × ((view l.seat).number ≡ (view l.fn.seat).number)
