use Rattle.std.proofs.Common.{ap, subst, ◌∙◌}
use Rattle.qc_turn.specs.Tasks.{listed_for}
use Rattle.qc_core.specs.Whole.{tasks_of}
use Rattle.qc_turn.specs.Seats.{holder}
use Rattle.qc_core.specs.declared.server_state.ServerState.{ServerState}
use Rattle.qc_core.specs.ServerStatus.{TellsStatus}
use Rattle.qc_core.proofs.Sweeping.{finds_same, next_swept, spare_swept}
use Rattle.qc_core.proofs.server_status.status.Goals as goal

pub push_status-requires-clause-next : goal.push_status-requires-clause-next
push_status-requires-clause-next c = let w = c.reap_ended_streams.ensures.swept in next_swept c.args.held.now c.reap_ended_streams.new.held c.args.who w.0 w.1 w.2 c.requires.next

pub push_status-requires-clause-room : goal.push_status-requires-clause-room
push_status-requires-clause-room c = let w = c.reap_ended_streams.ensures.swept in spare_swept (holder c.args.held.now).number c.args.held.now.value c.reap_ended_streams.new.held.value w.0 w.2 c.requires.room

pub returns-clause-told : goal.returns-clause-told
returns-clause-told c =
    let h = c.args.held.now in
    let k = c.reap_ended_streams.new.held in
    let m = c.push_status.new.held in
    let w = c.reap_ended_streams.ensures.swept in
    let p = c.push_status.ensures in
    (w.0, w.3, finds_same h k m w.0 w.1 p.stands.1 p.ranges, subst (λ (s : ServerState). TellsStatus c.args.who s m.value c.push_status.result) w.2.value p.told)

pub returns-clause-rests : goal.returns-clause-rests
returns-clause-rests c =
    let h = c.args.held.now in
    let own = λ (s : ServerState). listed_for (holder h).number (tasks_of s) in
    ap own c.push_status.ensures.told.server ∙ (c.reap_ended_streams.ensures.swept.2.listed ∙ c.requires.next.free)
