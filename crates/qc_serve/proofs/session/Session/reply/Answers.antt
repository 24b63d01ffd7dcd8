use Rattle.std.proofs.Common.{List, ℕ, OnErr, OnOk, sym, ap, ◌∙◌, subst}
use Rattle.qc_sql.specs.declared.commands.Command.{Command}
use Rattle.qc_sql.specs.declared.commands.Command.TheVariants as sent
use Rattle.qc_serve.specs.Executed.{IsReplied, MustEnd}
use Rattle.qc_serve.proofs.Breaking.{must_end_from, replied_from, untouched}
use Rattle.qc_serve.proofs.Parsing.{on_ok}
use Rattle.qc_serve.proofs.Resting.{on_err}
use Rattle.qc_serve.proofs.session.Session.reply.Goals as goal

pub returns-in-Query-clause-replied : goal.returns-in-Query-clause-replied
returns-in-Query-clause-replied g c =
    let t = c.args.turn.now in
    let k = c.args.command.now in
    let old = c.args.self.now in
    let log = c.reserve.new.self in
    let a = c.answer_query in
    let held = g.K.ReplySink.held c.args.sink.now in
    let out = g.K.ReplySink.held a.new.sink in
    on_ok a.result (replied_from t k old a.new.self log held out c.reserve.ensures.same)
    (subst (λ (x : Command). OnOk a.result (IsReplied t x (record old { log = log }) a.new.self held out)) (ap (λ (b : List ℕ). sent.Query b) c.bytes.ensures ∙ sym c.in-Query.is) a.ensures.replied)

pub returns-in-Query-clause-ends : goal.returns-in-Query-clause-ends
returns-in-Query-clause-ends g c =
    let t = c.args.turn.now in
    let k = c.args.command.now in
    let old = c.args.self.now in
    let log = c.reserve.new.self in
    let a = c.answer_query in
    let held = g.K.ReplySink.held c.args.sink.now in
    let out = g.K.ReplySink.held a.new.sink in
    on_err a.result (must_end_from t k old a.new.self log held out c.reserve.ensures.same)
    (subst (λ (x : Command). OnErr a.result (MustEnd t x (record old { log = log }) a.new.self held out)) (ap (λ (b : List ℕ). sent.Query b) c.bytes.ensures ∙ sym c.in-Query.is) a.ensures.ends)

pub returns-then-is_err-clause-ends : goal.returns-then-is_err-clause-ends
returns-then-is_err-clause-ends g c = untouched c.args.turn.now c.args.command.now c.args.self.now c.reserve.new.self (g.K.ReplySink.held c.args.sink.now) c.requires.rests.rests c.reserve.ensures.same

pub returns-in_default-clause-replied : goal.returns-in_default-clause-replied
returns-in_default-clause-replied g c =
    let a = c.answer_other in
    on_ok a.result (replied_from c.args.turn.now c.args.command.now c.args.self.now a.new.self c.reserve.new.self (g.K.ReplySink.held c.args.sink.now) (g.K.ReplySink.held a.new.sink) c.reserve.ensures.same) a.ensures.replied

pub returns-in_default-clause-ends : goal.returns-in_default-clause-ends
returns-in_default-clause-ends g c =
    let a = c.answer_other in
    on_err a.result (must_end_from c.args.turn.now c.args.command.now c.args.self.now a.new.self c.reserve.new.self (g.K.ReplySink.held c.args.sink.now) (g.K.ReplySink.held a.new.sink) c.reserve.ensures.same) a.ensures.ends
