use Rattle.std.proofs.Common.{refl, sym, subst, ◌∙◌}
use Rattle.qc_model.specs.declared.events.Event.{Event}
use Rattle.qc_turn.specs.declared.seat.Seat.{Seat}
use Rattle.qc_turn.specs.declared.task.Task.{Task}
use Rattle.qc_turn.specs.declared.task.Task.TheVariants as task
use Rattle.qc_turn.specs.Seats.{Held}
use Rattle.qc_core.specs.contracts.server.ServerKept.TheImpl.{ghosts}
use Rattle.qc_core.specs.declared.server_state.ServerState.{ServerState}
use Rattle.qc_serve.specs.Holding.{IsReleased, TurnsHeld, TurnsTo}
use Rattle.qc_serve.proofs.Turning.{is_taken, released, turned}
use Rattle.qc_serve.proofs.holding.hold.Goals as goal

pub decide_held-requires-clause-taken : goal.decide_held-requires-clause-taken
decide_held-requires-clause-taken g c =
    let t = c.take-held in
    is_taken c.args.desk.turn.now c.args.session c.args.seat.now t.result c.requires.rests t.ensures.held.0 t.ensures.taken t.ensures.holds

pub returns-in-Ok-clause-turns : goal.returns-in-Ok-clause-turns
returns-in-Ok-clause-turns g c =
    let t = c.take-held in
    let k = c.decide_held.new.held in
    let w = c.in-Ok in
    let x = g.Q.Request.leaves w.answer in
    let turn = c.args.desk.turn.now in
    let turns = subst (λ (y : Task). TurnsHeld y t.result k) w.ensures.task w.ensures.turns in
    subst (λ (s : Seat ServerState Event ghosts). TurnsTo turn c.args.session x c.args.seat.now s) (sym (c.seat-1.given.1 (sym (turns.same.seat ∙ t.ensures.same_seat))))
    (turned turn c.args.session x c.args.seat.now _ t.result k c.requires.rests t.ensures.ranges t.ensures.holds t.ensures.held.1 turns c.go_on.ensures.seated (released x w.task k _ turns.may w.ensures.task c.go_on.ensures.view c.go_on.ensures.ranges))

pub returns-in-Ok-clause-keeps : goal.returns-in-Ok-clause-keeps
returns-in-Ok-clause-keeps g c =
    let t = c.take-held in
    let k = c.decide_held.new.held in
    let w = c.in-Ok in
    let x = g.Q.Request.leaves w.answer in
    let keeps = g.Q.Request.keeps c.args.request.now w.answer in
    let turns = subst (λ (y : Task). TurnsHeld y t.result k) w.ensures.task w.ensures.turns in
    subst (λ (s : Seat ServerState Event ghosts). (h : Held ServerState Event ghosts) × IsReleased x h s × keeps h) (sym (c.seat-1.given.1 (sym (turns.same.seat ∙ t.ensures.same_seat))))
    (k, released x w.task k _ turns.may w.ensures.task c.go_on.ensures.view c.go_on.ensures.ranges, w.ensures.keeps)

pub returns-in-Err-clause-turns : goal.returns-in-Err-clause-turns
returns-in-Err-clause-turns g c =
    let t = c.take-held in
    let k = c.decide_held.new.held in
    let turns = c.in-Err.ensures.turns in
    let turn = c.args.desk.turn.now in
    let gone = c.go_on-in-Err in
    subst (λ (s : Seat ServerState Event ghosts). TurnsTo turn c.args.session task.Rest c.args.seat.now s) (sym (c.seat-in-Err-1.given.1 (sym (turns.same.seat ∙ t.ensures.same_seat))))
    (turned turn c.args.session task.Rest c.args.seat.now _ t.result k c.requires.rests t.ensures.ranges t.ensures.holds t.ensures.held.1 turns gone.ensures.seated (released task.Rest task.Rest k _ turns.may refl gone.ensures.view gone.ensures.ranges))
