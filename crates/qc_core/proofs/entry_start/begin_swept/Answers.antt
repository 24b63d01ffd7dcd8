use Rattle.std.proofs.Common.{◌≡◌, ℕ, refl, ap, subst}
use Rattle.qc_chain.specs.Chains.{Ranged}
use Rattle.qc_turn.specs.Tasks.{listed_for}
use Rattle.qc_turn.specs.Seats.{holder, with_ranges}
use Rattle.qc_core.specs.declared.server_state.ServerState.{ServerState}
use Rattle.qc_core.specs.Whole.{tasks_of}
use Rattle.qc_core.specs.EntryStart.{IsBegun, begun_tasks}
use Rattle.qc_core.specs.EndedStreams.{Finds}
use Rattle.qc_core.proofs.Sweeping.{finds_same, next_swept}
use Rattle.qc_core.proofs.Freshening.{may_begin_swept, start_room_swept, ready_swept, ranges_swept}
use Rattle.qc_core.proofs.entry_start.begin_swept.Goals as goal

pub begin-requires-clause-next : goal.begin-requires-clause-next
begin-requires-clause-next c = let w = c.reap_ended_streams.ensures.swept in next_swept c.args.held.now c.reap_ended_streams.new.held c.args.who w.0 w.1 w.2 c.requires.next

pub begin-requires-clause-may : goal.begin-requires-clause-may
begin-requires-clause-may c = let w = c.reap_ended_streams.ensures.swept in may_begin_swept (holder c.args.held.now).number c.args.held.now.value c.reap_ended_streams.new.held.value w.0 w.2 c.args.key c.args.tables c.requires.may

pub begin-requires-clause-ranges : goal.begin-requires-clause-ranges
begin-requires-clause-ranges c = let w = c.reap_ended_streams.ensures.swept in ranges_swept (holder c.args.held.now).number c.args.held.now.value c.reap_ended_streams.new.held.value w.0 w.2 c.args.held.now.ranges c.reap_ended_streams.new.held.ranges w.1.ranges c.requires.ranges

pub begin-requires-clause-room : goal.begin-requires-clause-room
begin-requires-clause-room c = let w = c.reap_ended_streams.ensures.swept in start_room_swept (holder c.args.held.now).number c.args.held.now.value c.reap_ended_streams.new.held.value w.0 w.2 c.requires.room

pub begin-requires-clause-ready : goal.begin-requires-clause-ready
begin-requires-clause-ready c = let w = c.reap_ended_streams.ensures.swept in ready_swept (holder c.args.held.now).number c.args.held.now.value c.reap_ended_streams.new.held.value w.0 w.2 c.args.tables c.args.ready c.requires.ready

pub returns-clause-begun : goal.returns-clause-begun
returns-clause-begun c =
    let h = c.args.held.now in
    let k = c.reap_ended_streams.new.held in
    let m = c.begin.new.held in
    let w = c.reap_ended_streams.ensures.swept in
    let p = c.begin.ensures.stands.1 in (
      w.0,
      subst (λ (r : Ranged). Finds h (with_ranges m r) w.0) w.1.ranges (finds_same h k (with_ranges m k.ranges) w.0 w.1 (record { seat = p.seat; turn = p.turn; holder = p.holder }) refl),
      w.3,
      subst (λ (p : ℕ × ServerState × Ranged). IsBegun p.0 c.args.who c.args.key c.args.tables p.1 m.value p.2 m.ranges c.begin.result) (λ i. (ap (λ v. v.number) w.1.holder i, w.2.value i, w.1.ranges i)) c.begin.ensures.begun,
    )

pub returns-clause-listed : goal.returns-clause-listed
returns-clause-listed c =
    let w = c.reap_ended_streams.ensures.swept in
    subst (λ n. listed_for n (tasks_of c.begin.new.held.value) ≡ begun_tasks n c.begin.new.held.ranges c.begin.result) (ap (λ v. v.number) w.1.holder) c.begin.ensures.listed
