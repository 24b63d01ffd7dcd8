use Rattle.qc_core.specs.TaskEnd.{rested}
use Rattle.qc_turn.specs.Seats.{holder}
use Rattle.qc_serve.proofs.Parting.{left, left_connected, left_events}
use Rattle.qc_serve.proofs.leaving.leave_held.Goals as goal

pub returns-clause-go : goal.returns-clause-go
returns-clause-go c = left c.args.session c.args.held.now c.leave.new.held c.requires c.leave.ensures.stands c.leave.ensures.ranges c.leave.ensures.rests

pub returns-clause-connected : goal.returns-clause-connected
returns-clause-connected c =
    let h = c.args.held.now in
    let go = left c.args.session h c.leave.new.held c.requires c.leave.ensures.stands c.leave.ensures.ranges c.leave.ensures.rests in
    left_connected h c.leave.new.held (rested (holder h).number h.value) go.1 c.leave.ensures.left

pub returns-clause-events : goal.returns-clause-events
returns-clause-events c = left_events c.args.held.now c.leave.new.held c.leave.ensures.left
