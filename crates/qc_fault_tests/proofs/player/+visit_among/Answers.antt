use Rattle.qc_turn.specs.Seats.{view}
use Rattle.qc_fault_tests.specs.Seats.{other_number}
use Rattle.qc_fault_tests.proofs.Meetings.{met_among}
use Rattle.qc_fault_tests.proofs.player.+visit_among.Goals as goal

pub returns-clause-met : goal.returns-clause-met
returns-clause-met g t c =
    met_among (view c.args.first.now).registry (view c.join-other.new.first).registry (view c.visit_among-seat.new.first).registry (view c.part.new.first).registry (other_number c.join-other.result)
    c.join-other.ensures.split c.visit_among-seat.ensures.met c.join-other.ensures.other.1 c.part.ensures.met
