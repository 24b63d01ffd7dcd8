use Rattle.std.proofs.Common.{◌+◌, length, ap, sym, subst, ◌∙◌}
use Rattle.qc_turn.specs.Seats.{view}
use Rattle.qc_flow.specs.Growths.{Wants}
use Rattle.qc_flow.proofs.Licences.{wants_packet, put_fits}
use Rattle.qc_flow.proofs.fills.Fill.put.Goals as goal

pub make_room-step-requires-clause-wants : goal.make_room-step-requires-clause-wants
make_room-step-requires-clause-wants g c =
    let f = c.args.self.now in
    let v = view c.args.seat.now in
    let packet = c.args.packet.now in
    subst (λ n. Wants f.serial n v) (ap (λ n. n + length packet) (sym (c.from.ensures ∙ c.requires.fills.bytes))) (wants_packet f.serial packet v c.requires.next)

pub store-requires-clause-fits : goal.store-requires-clause-fits
store-requires-clause-fits g c =
    let m = c.make_room-step.ensures in
    put_fits c.args.self.now.serial c.args.packet.now (view c.args.seat.now) (view c.make_room-step.new.seat) c.requires.next m.seated.0.was_sound m.goes_on c.in-More.ensures.step.1
