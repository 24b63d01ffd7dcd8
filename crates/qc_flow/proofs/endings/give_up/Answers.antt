use Rattle.std.proofs.Common.{rules, ap}
use Rattle.qc_model.specs.declared.events.Event.TheVariants as event
use Rattle.qc_turn.specs.Seats.{view, holder}
use Rattle.qc_flow.specs.Growths.{settled}
use Rattle.qc_flow.proofs.Holdings.{quiet_gone}
use Rattle.qc_flow.proofs.Takings.{took_fill}
use Rattle.qc_flow.proofs.EndedSeats.{ended_seat}
use Rattle.qc_flow.proofs.endings.give_up.Goals as goal

pub gone-ended-requires-clause-room : goal.gone-ended-requires-clause-room
gone-ended-requires-clause-room g c =
    let h = c.take-held.result in
    c.requires.other (holder h).number h.value

pub returns-clause-goes_on : goal.returns-clause-goes_on
returns-clause-goes_on g c =
    let n = c.args.serial in
    let h = c.take-held.result in
    let v = view c.args.seat.now in
    let t = c.take-held.ensures in
    let f = took_fill v h n t.held.0 t.taken t.holds c.requires.seated.1 in
    let e = c.gone-ended.ensures in
    let told = (ended_seat (event.Gone n c.args.why) n v _ h c.gone-ended.new.held c.gone-ended.result (quiet_gone n c.args.why) f t.taken c.requires.seated.0.free (ap settled e.stands.1.holder) (ap (λ u. u.turns) e.stands.1.holder) e.there e.ok e.err e.rests c.release.ensures.view).goes_on in
    search (rules, told)

pub returns-clause-alone : goal.returns-clause-alone
returns-clause-alone g c =
    let n = c.args.serial in
    let h = c.take-held.result in
    let v = view c.args.seat.now in
    let t = c.take-held.ensures in
    let f = took_fill v h n t.held.0 t.taken t.holds c.requires.seated.1 in
    let e = c.gone-ended.ensures in
    let told = (ended_seat (event.Gone n c.args.why) n v _ h c.gone-ended.new.held c.gone-ended.result (quiet_gone n c.args.why) f t.taken c.requires.seated.0.free (ap settled e.stands.1.holder) (ap (λ u. u.turns) e.stands.1.holder) e.there e.ok e.err e.rests c.release.ensures.view).alone in
    search (rules, told)

pub returns-clause-err : goal.returns-clause-err
returns-clause-err g c =
    let n = c.args.serial in
    let h = c.take-held.result in
    let v = view c.args.seat.now in
    let t = c.take-held.ensures in
    let f = took_fill v h n t.held.0 t.taken t.holds c.requires.seated.1 in
    let e = c.gone-ended.ensures in
    let told = (ended_seat (event.Gone n c.args.why) n v _ h c.gone-ended.new.held c.gone-ended.result (quiet_gone n c.args.why) f t.taken c.requires.seated.0.free (ap settled e.stands.1.holder) (ap (λ u. u.turns) e.stands.1.holder) e.there e.ok e.err e.rests c.release.ensures.view).err in
    search (rules, told)
