use Rattle.std.proofs.Common.{sym, subst}
use Rattle.qc_model.specs.Machine.{ok_reply, refused, used}
use Rattle.qc_statements.proofs.Calls.{if_ok}
use Rattle.qc_sql.specs.declared.commands.Command.{Command}
use Rattle.qc_sql.specs.Errors.{unknown_command}
use Rattle.qc_serve.specs.Going.{DoesOne, GivesOut, IsEventOf, Stops, TellsOut, next_who}
use Rattle.qc_serve.proofs.Answering.{choose_does, choose_stops, empty_does, ping_does, unknown_does}
use Rattle.qc_serve.proofs.Resting.{on_err}
use Rattle.qc_serve.proofs.session.Session.reply_to.Goals as goal
use Rattle.std.specs.Prelude.{IfOk, OnErr}

pub returns-in-InitDb-clause-does : goal.returns-in-InitDb-clause-does
returns-in-InitDb-clause-does g c =
    let t = c.args.turn.now in
    let old = c.args.self.now in
    let u = c.use_db in
    let name = c.in-InitDb.name in
    subst (λ (x : Command). IfOk u.result (DoesOne t x old u.new.self)) (sym c.in-InitDb.is)
    (if_ok (λ reply. GivesOut t old u.new.self reply (λ journal. used (next_who old) old.state.state journal name)) (λ reply. DoesOne t _ old u.new.self reply) (λ reply out. choose_does t name old u.new.self reply out) u.result u.ensures.gives)

pub returns-in-Ping-clause-does : goal.returns-in-Ping-clause-does
returns-in-Ping-clause-does g c =
    let t = c.args.turn.now in
    let old = c.args.self.now in
    let u = c.tell_ok in
    subst (λ (x : Command). IfOk u.result (DoesOne t x old u.new.self)) (sym c.in-Ping.is)
    (if_ok (λ reply. TellsOut t old u.new.self reply (ok_reply old.state.state 0) old.state.state) (λ reply. DoesOne t _ old u.new.self reply) (λ reply out. ping_does t old u.new.self reply out) u.result u.ensures.tells)

pub returns-in-Unknown-clause-does : goal.returns-in-Unknown-clause-does
returns-in-Unknown-clause-does g c =
    let t = c.args.turn.now in
    let old = c.args.self.now in
    let u = c.refuse_command in
    subst (λ (x : Command). IfOk u.result (DoesOne t x old u.new.self)) (sym c.in-Unknown.is)
    (if_ok (λ reply. TellsOut t old u.new.self reply (refused unknown_command) old.state.state) (λ reply. DoesOne t _ old u.new.self reply) (λ reply out. unknown_does t c.in-Unknown.field-0 old u.new.self reply out) u.result u.ensures.tells)

pub returns-in-Empty-clause-does : goal.returns-in-Empty-clause-does
returns-in-Empty-clause-does g c =
    let t = c.args.turn.now in
    let old = c.args.self.now in
    let u = c.refuse_command-in-Empty in
    subst (λ (x : Command). IfOk u.result (DoesOne t x old u.new.self)) (sym c.in-Empty.is)
    (if_ok (λ reply. TellsOut t old u.new.self reply (refused unknown_command) old.state.state) (λ reply. DoesOne t _ old u.new.self reply) (λ reply out. empty_does t old u.new.self reply out) u.result u.ensures.tells)

pub returns-in-InitDb-clause-stops : goal.returns-in-InitDb-clause-stops
returns-in-InitDb-clause-stops g c =
    let t = c.args.turn.now in
    let old = c.args.self.now in
    let u = c.use_db in
    subst (λ (x : Command). OnErr u.result (Stops t old u.new.self (IsEventOf x old))) (sym c.in-InitDb.is) (on_err u.result (choose_stops t c.in-InitDb.name old u.new.self) u.ensures.stops)
