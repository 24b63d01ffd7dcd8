use Rattle.std.proofs.Common.{◌≡◌, ◌∷◌, subst, sym, ◌∙◌, Option, Some}
use Rattle.qc_flow.specs.declared.fills.Fill.{Fill}
use Rattle.qc_serve.specs.Filling.{Fills}
use Rattle.qc_serve.proofs.Fillings.{next_packet, stored_packet}
use Rattle.qc_serve.proofs.rows_sent.store.Goals as goal

pub put-requires-clause-next : goal.put-requires-clause-next
put-requires-clause-next g c =
    let packet = c.args.packet.now in
    let seat = c.args.seat.now in
    let f = c.requires.fills in
    let was : c.args.fill.now ≡ Some c.in-Some.going = sym c.take.ensures.value ∙ c.in-Some.is in
    next_packet f.0 packet f.1.0 c.in-Some.going seat (subst (λ (o : Option Fill). Fills f.0 (packet ∷ f.1.0) o seat) was f.1.1)

pub returns-in-More-clause-fills : goal.returns-in-More-clause-fills
returns-in-More-clause-fills g c = λ serial later fills.
    let packet = c.args.packet.now in
    let seat = c.args.seat.now in
    let was : c.args.fill.now ≡ Some c.in-Some.going = sym c.take.ensures.value ∙ c.in-Some.is in
    stored_packet serial packet later c.in-Some.going c.put.new.self seat c.put.new.seat (subst (λ (o : Option Fill). Fills serial (packet ∷ later) o seat) was fills) c.put.ensures.goes_on c.in-More.ensures.step
