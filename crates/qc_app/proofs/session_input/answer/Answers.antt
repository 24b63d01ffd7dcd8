use Rattle.std.proofs.Common.{subst, Some, [], List}
use Rattle.qc_serve.specs.declared.sinks.Piece.{Piece}
use Rattle.qc_serve.specs.Executed.{IsReplied}
use Rattle.qc_app.proofs.Serving.{ends_at, last_line, was_answered}
use Rattle.qc_app.proofs.session_input.answer.Goals as goal

pub returns-in-Ended-clause-ends : goal.returns-in-Ended-clause-ends
returns-in-Ended-clause-ends g c = ends_at c.args.turn.now c.args.command.now c.args.session.now c.execute_keeping.new.session _ _ 0 0 c.in-Ended.end c.in-Ended.ensures.executes c.in-Ended.ensures.quits

pub returns-in-Ok-clause-answers : goal.returns-in-Ok-clause-answers
returns-in-Ok-clause-answers g c =
    let t = c.args.turn.now in
    let command = c.args.command.now in
    let old = c.args.session.now in
    let new = c.execute_keeping.new.session in
    let a = was_answered t command old new (Some c.clear.new.self) (Some c.execute_keeping.new.sink) 0 0 c.in-Replied.ensures.executes c.in-Replied.ensures.quits in
    let replied : IsReplied t command old new (Some []) (Some c.execute_keeping.new.sink) = subst (λ (ps : List Piece). IsReplied t command old new (Some ps) (Some c.execute_keeping.new.sink)) c.clear.ensures a.0 in
    let last = last_line t command old new c.execute_keeping.new.sink replied in
    record { going = a.1; reply = replied.reply; does = replied.does; kept = c.in-Ok.ensures.kept replied.does.answered last }
