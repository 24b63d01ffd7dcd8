use Rattle.std.proofs.Common.{◌≡◌}
use Rattle.qc_turn.specs.Seats.{IsSeatOf, view}
use Rattle.qc_turn.specs.declared.task.Task.TheVariants.{Rest}
use Rattle.qc_memory_tests.proofs.lock.add.add_all.Given as goal

abbrev pub invariant-loop-number : goal.invariant-loop-number
invariant-loop-number g l = IsSeatOf l.turn l.seat × ((view l.seat).number ≡ (view l.initial.seat).number) × ((view l.seat).task ≡ Rest)
