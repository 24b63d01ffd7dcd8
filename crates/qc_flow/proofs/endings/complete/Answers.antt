use Rattle.std.proofs.Common.{rules, ap}
use Rattle.qc_model.specs.declared.events.Event.TheVariants as event
use Rattle.qc_turn.specs.Seats.{view, holder}
use Rattle.qc_flow.specs.Growths.{settled}
use Rattle.qc_flow.proofs.Holdings.{quiet_done}
use Rattle.qc_flow.proofs.Takings.{took_fill, stores_whole}
use Rattle.qc_flow.proofs.EndedSeats.{ended_seat, done_by}
use Rattle.qc_flow.proofs.endings.complete.Goals as goal

pub done-ended-requires-clause-stored : goal.done-ended-requires-clause-stored
done-ended-requires-clause-stored g c =
    let h = c.take-held.result in
    let v = view c.args.seat.now in
    let t = c.take-held.ensures in
    stores_whole v h c.args.serial c.args.bytes (took_fill v h c.args.serial t.held.0 t.taken t.holds c.requires.seated.1) t.taken c.requires.whole c.requires.bytes

pub returns-clause-goes_on : goal.returns-clause-goes_on
returns-clause-goes_on g c =
    let n = c.args.serial in
    let h = c.take-held.result in
    let v = view c.args.seat.now in
    let t = c.take-held.ensures in
    let f = took_fill v h n t.held.0 t.taken t.holds c.requires.seated.1 in
    let k = c.done-ended.new.held in
    let e = c.done-ended.ensures in
    let r = c.done-ended.result in
    let told = (ended_seat (event.Done n) n v _ h k r (quiet_done n) f t.taken c.requires.seated.0.free (ap settled e.stands.1.holder) (ap (λ u. u.turns) e.stands.1.holder) e.there (done_by n (holder h).number c.args.bytes h.value k.value r e.ok) e.err e.rests c.release.ensures.view).goes_on in
    search (rules, told)

pub returns-clause-err : goal.returns-clause-err
returns-clause-err g c =
    let n = c.args.serial in
    let h = c.take-held.result in
    let v = view c.args.seat.now in
    let t = c.take-held.ensures in
    let f = took_fill v h n t.held.0 t.taken t.holds c.requires.seated.1 in
    let k = c.done-ended.new.held in
    let e = c.done-ended.ensures in
    let r = c.done-ended.result in
    let told = (ended_seat (event.Done n) n v _ h k r (quiet_done n) f t.taken c.requires.seated.0.free (ap settled e.stands.1.holder) (ap (λ u. u.turns) e.stands.1.holder) e.there (done_by n (holder h).number c.args.bytes h.value k.value r e.ok) e.err e.rests c.release.ensures.view).err in
    search (rules, told)
