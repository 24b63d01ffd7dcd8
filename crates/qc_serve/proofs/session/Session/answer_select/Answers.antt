use Rattle.qc_sql.specs.declared.commands.Command.TheVariants as sent
use Rattle.qc_serve.proofs.Parsing.{on_four}
use Rattle.qc_serve.proofs.Resting.{on_err, or_err}
use Rattle.qc_serve.proofs.SelectReplies.{lacks_ends, logged_hits, may_send, sent_ends, sent_replies}
use Rattle.qc_serve.proofs.session.Session.answer_select.Goals as goal

pub send_selected-requires : goal.send_selected-requires
send_selected-requires g c =
    let ok = c.in_ok-selected in
    may_send c.args.turn.now c.args.text.now c.args.select.now c.args.self.now c.decide.new.self ok.selected c.requires.rest.rest c.requires.short c.requires.means ok.ensures.decided

pub returns-in_err-selected-clause-ends : goal.returns-in_err-selected-clause-ends
returns-in_err-selected-clause-ends g c =
    or_err _ (lacks_ends c.args.turn.now (sent.Query c.args.text.now) c.args.self.now c.decide.new.self (g.K.ReplySink.held c.args.sink.now) c.in_err-selected.ensures.memory)

pub returns-clause-replied : goal.returns-clause-replied
returns-clause-replied g c =
    let ok = c.in_ok-selected in
    let n = c.send_selected in
    on_four n.result
    (λ sends filled as_it some. sent_replies c.args.turn.now c.args.text.now c.args.select.now c.args.self.now c.decide.new.self n.new.self ok.selected (g.K.ReplySink.held c.args.sink.now) (g.K.ReplySink.held n.new.sink) c.requires.rest.rest c.requires.means ok.ensures.decided
    n.ensures.seat n.ensures.same filled sends as_it n.ensures.cut some) n.ensures.sends n.ensures.ended n.ensures.at n.ensures.some

pub returns-clause-ends : goal.returns-clause-ends
returns-clause-ends g c =
    let ok = c.in_ok-selected in
    let n = c.send_selected in
    on_err n.result
    (λ front. sent_ends c.args.turn.now c.args.text.now c.args.select.now c.args.self.now c.decide.new.self n.new.self ok.selected (g.K.ReplySink.held c.args.sink.now) (g.K.ReplySink.held n.new.sink) c.requires.rest.rest c.requires.means ok.ensures.decided
    n.ensures.seat n.ensures.same front n.ensures.cut) n.ensures.front

pub returns-clause-hits_read_no_row : goal.returns-clause-hits_read_no_row
returns-clause-hits_read_no_row g c = λ l lines how_is.
    let ok = c.in_ok-selected in
    let n = c.send_selected in
    n.ensures.hits_read_no_row (logged_hits c.args.turn.now c.args.text.now c.args.select.now c.args.self.now c.decide.new.self n.new.self ok.selected l ok.ensures.decided n.ensures.same lines how_is)
