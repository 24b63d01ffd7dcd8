use Rattle.std.proofs.Common.{List, sym, subst}
use Rattle.std.specs.Prelude.{IfSome}
use Rattle.qc_model.specs.declared.reports.ReportLine.{ReportLine}
use Rattle.qc_app.specs.SessionInput.{HasAnswered, HasGone}
use Rattle.qc_app.proofs.Serving.{answered_at, answered_end, ended_at, goes_on, gone_none}
use Rattle.qc_app.proofs.session_input.serve_input.Goals as goal

pub loop-init : goal.loop-init
loop-init g c =
    subst (λ (ls : List ReportLine). HasGone c.args.turn.now c.args.session.now c.args.session.now c.args.input.now c.args.input.now ls) (sym c.requires.none)
    (gone_none c.args.turn.now c.args.session.now c.args.input.now c.requires.rests.0 c.requires.rests.1)

pub returns-in-Err-clause-answered : goal.returns-in-Err-clause-answered
returns-in-Err-clause-answered g c =
    let i = c.loop.invariant in
    let rests = c.requires.rests.0 in
    answered_end c.args.turn.now c.args.session.now c.loop.session c.finish.new.self c.args.input.now c.loop.left.now _ c.loop.lines c.in-Err.why c.reading_end-end.result c.ending.result rests.reached i c.in-Err.ensures.command c.reading_end-end.ensures c.ending.ensures c.finish.ensures.leaves

pub returns-in-Err-answer-clause-ended : goal.returns-in-Err-answer-clause-ended
returns-in-Err-answer-clause-ended g c = ended_at c.args.turn.now c.args.session.now c.loop.session c.answer.new.session c.args.input.now c.loop.left.now c.loop.lines c.in-Ok.command c.in-Err-answer.end c.loop.invariant c.in-Err-answer.ensures.ends

pub returns-in-Err-answer-clause-answered : goal.returns-in-Err-answer-clause-answered
returns-in-Err-answer-clause-answered g c =
    let rests = c.requires.rests.0 in
    subst (λ (ls : List ReportLine). IfSome c.ending-in-Err-answer.result (HasAnswered c.args.session.now c.answer.new.session c.args.input.now ls)) (sym c.in-Err-answer.ensures.same)
    (answered_at c.args.turn.now c.args.session.now c.loop.session c.answer.new.session c.args.input.now c.loop.left.now _ c.loop.lines c.in-Ok.command c.in-Err-answer.end c.ending-in-Err-answer.result rests.reached c.loop.invariant c.in-Ok.ensures.command c.in-Err-answer.ensures.ends c.ending-in-Err-answer.ensures)

pub loop-preserved-in_default : goal.loop-preserved-in_default
loop-preserved-in_default g c =
    let rests = c.requires.rests.0 in
    goes_on c.args.turn.now c.args.session.now c.loop.session c.answer.new.session c.args.input.now c.loop.left.now c.read_command.new.source.now c.in-Ok.command c.loop.lines c.answer.new.lines rests.reached c.loop.invariant c.in-Ok.ensures.command c.in_default.ensures.answers

pub loop-preserved-in_default-2 : goal.loop-preserved-in_default-2
loop-preserved-in_default-2 g c =
    let rests = c.requires.rests.0 in
    goes_on c.args.turn.now c.args.session.now c.loop.session c.answer.new.session c.args.input.now c.loop.left.now c.read_command.new.source.now c.in-Ok.command c.loop.lines c.answer.new.lines rests.reached c.loop.invariant c.in-Ok.ensures.command c.in_default.ensures.answers

pub loop-preserved : goal.loop-preserved
loop-preserved g c =
    let rests = c.requires.rests.0 in
    goes_on c.args.turn.now c.args.session.now c.loop.session c.answer.new.session c.args.input.now c.loop.left.now c.read_command.new.source.now c.in-Ok.command c.loop.lines c.answer.new.lines rests.reached c.loop.invariant c.in-Ok.ensures.command c.in_default.ensures.answers
