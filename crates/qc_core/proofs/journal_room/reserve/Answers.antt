use Rattle.std.proofs.Common.{ap, subst, ◌∙◌}
use Rattle.qc_turn.specs.Tasks.{listed_for}
use Rattle.qc_turn.specs.Seats.{holder}
use Rattle.qc_turn.proofs.Holders.{same_on}
use Rattle.qc_core.specs.declared.server_state.ServerState.{ServerState}
use Rattle.qc_core.specs.Whole.{tasks_of}
use Rattle.qc_core.specs.Calls.{HasMoreRoom}
use Rattle.qc_core.proofs.journal_room.reserve.Goals as goal

pub returns-clause-stands : goal.returns-clause-stands
returns-clause-stands c =
    let one = c.reap_own_stream.ensures.stands in
    let two = c.make_room.ensures.stands in
    (two.0, same_on c.args.held.now c.reap_own_stream.new.held c.make_room.new.held one.1 two.1)

pub returns-clause-same : goal.returns-clause-same
returns-clause-same c = subst (λ (s : ServerState). HasMoreRoom s c.make_room.new.held.value) c.reap_own_stream.ensures.struck c.make_room.ensures.same

pub returns-clause-rests : goal.returns-clause-rests
returns-clause-rests c = ap (λ (s : ServerState). listed_for (holder c.args.held.now).number (tasks_of s)) c.make_room.ensures.same.same ∙ c.reap_own_stream.ensures.rests
