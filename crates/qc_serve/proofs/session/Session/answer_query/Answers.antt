use Rattle.qc_sql.specs.declared.commands.Command.TheVariants as sent
use Rattle.qc_serve.proofs.Moving.{looks_end, moved_ends, moved_may, moved_replied}
use Rattle.qc_serve.proofs.Parsing.{on_ok}
use Rattle.qc_serve.proofs.Resting.{on_err, or_err}
use Rattle.qc_serve.proofs.session.Session.answer_query.Goals as goal

pub returns-in_err-found-clause-ends : goal.returns-in_err-found-clause-ends
returns-in_err-found-clause-ends g c = or_err _ (looks_end c.args.turn.now (sent.Query c.args.text.now) c.args.self.now c.look.new.self (g.K.ReplySink.held c.args.sink.now) c.in_err-found.ensures.memory)

pub answer_hit-requires : goal.answer_hit-requires
answer_hit-requires g c = (c.args.text.now, c.args.self.now, c.requires.rest, rw c.in-Some.is at c.in_ok-found.ensures.found)

pub answer_text-requires-clause-rest : goal.answer_text-requires-clause-rest
answer_text-requires-clause-rest g c = moved_may c.args.turn.now c.args.self.now c.look.new.self c.requires.rest (rw c.in-None.is at c.in_ok-found.ensures.found)

pub returns-in-None-clause-replied : goal.returns-in-None-clause-replied
returns-in-None-clause-replied g c =
    let n = c.answer_text in
    on_ok n.result
    (moved_replied c.args.turn.now (sent.Query c.args.text.now) c.args.self.now c.look.new.self n.new.self (g.K.ReplySink.held c.args.sink.now) (g.K.ReplySink.held n.new.sink) c.requires.rest.rest (rw c.in-None.is at c.in_ok-found.ensures.found))
    n.ensures.replied

pub returns-in-None-clause-ends : goal.returns-in-None-clause-ends
returns-in-None-clause-ends g c =
    let n = c.answer_text in
    on_err n.result
    (moved_ends c.args.turn.now (sent.Query c.args.text.now) c.args.self.now c.look.new.self n.new.self (g.K.ReplySink.held c.args.sink.now) (g.K.ReplySink.held n.new.sink) c.requires.rest.rest (rw c.in-None.is at c.in_ok-found.ensures.found))
    n.ensures.ends
