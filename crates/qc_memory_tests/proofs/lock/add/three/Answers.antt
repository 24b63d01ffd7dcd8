use Rattle.std.proofs.Common.{rules, ℕ}
use Rattle.qc_turn.specs.Seats.{view}
use Rattle.qc_memory_tests.specs.declared.lock.entry.Entry.{Entry}
use Rattle.qc_memory_tests.specs.contracts.lock.log.LogKept.TheImpl.{ghosts}
use Rattle.qc_memory_tests.proofs.Pushes.{done}
use Rattle.qc_memory_tests.proofs.Threes.{met_three}
use Rattle.qc_memory_tests.proofs.lock.add.three.Goals as goal

abbrev event : ℕ → ℕ → Entry
event session number = record { session = session; number = number }

pub close_three-requires-clause-met : goal.close_three-requires-clause-met
close_three-requires-clause-met g c =
    met_three ghosts event (view c.in_ok-turn.first) (view c.split.new.self) (view c.meet.new.self) (view c.in-Ok.second) (view c.add.new.seat) (view c.add-2.new.seat) (view c.add-3.new.seat)
    (search rules) c.in-Ok.ensures.next.1 c.in-Ok.ensures.ok.0
    c.add.ensures.number (done _ _ c.add.ensures.ok c.if-one.ensures.value)
    c.add-2.ensures.number (done _ _ c.add-2.ensures.ok c.if-two.ensures.value)
    c.add-3.ensures.number (done _ _ c.add-3.ensures.ok c.if-three.ensures.value)
    c.add-3.ensures.own c.meet.ensures.view
