use Rattle.qc_serve.proofs.Parting.{entered, entered_connected}
use Rattle.qc_serve.proofs.leaving.enter_held.Goals as goal

pub returns-clause-go : goal.returns-clause-go
returns-clause-go c = entered c.args.held.now c.enter.new.held c.requires.stranger c.enter.ensures.stands c.enter.ensures.ranges c.in-Ok.ensures.ok.1

pub returns-clause-connected : goal.returns-clause-connected
returns-clause-connected c =
    let go = entered c.args.held.now c.enter.new.held c.requires.stranger c.enter.ensures.stands c.enter.ensures.ranges c.in-Ok.ensures.ok.1 in
    entered_connected c.args.held.now c.enter.new.held go.1 c.in-Ok.ensures.ok.1
