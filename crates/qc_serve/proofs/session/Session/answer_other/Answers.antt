use Rattle.std.proofs.Common.{List, ℕ, sym, subst}
use Rattle.qc_serve.specs.Going.{DoesOne}
use Rattle.qc_serve.proofs.Breaking.{on_errs, put_failed, stopped}
use Rattle.qc_serve.proofs.Parsing.{does_replies, on_all}
use Rattle.qc_serve.proofs.PiecesPut.{put_command, size_command}
use Rattle.qc_serve.proofs.session.Session.answer_other.Goals as goal

pub returns-in-Ok-clause-replied : goal.returns-in-Ok-clause-replied
returns-in-Ok-clause-replied g c =
    let t = c.args.turn.now in
    let k = c.args.command.now in
    let old = c.args.self.now in
    let mid = c.reply_to.new.self in
    let s = c.send_reply in
    let reply = c.bytes.result.now in
    let does : DoesOne t k old mid reply = subst (λ (b : List ℕ). DoesOne t k old mid b) (sym c.bytes.ensures) c.in-Ok.ensures.does in
    on_all s.result (λ same sends some. does_replies t k old mid s.new.self reply (g.K.ReplySink.held c.args.sink.now) (g.K.ReplySink.held s.new.sink) does (put_command t k old mid reply does c.requires.other) (size_command t k old mid reply does c.requires.other) s.ensures.cut same sends some) s.ensures.same s.ensures.sends s.ensures.some

pub returns-in-Ok-clause-ends : goal.returns-in-Ok-clause-ends
returns-in-Ok-clause-ends g c =
    let t = c.args.turn.now in
    let k = c.args.command.now in
    let old = c.args.self.now in
    let mid = c.reply_to.new.self in
    let s = c.send_reply in
    let reply = c.bytes.result.now in
    let does : DoesOne t k old mid reply = subst (λ (b : List ℕ). DoesOne t k old mid b) (sym c.bytes.ensures) c.in-Ok.ensures.does in
    on_errs s.result (λ log front. put_failed t k old mid s.new.self reply (g.K.ReplySink.held c.args.sink.now) (g.K.ReplySink.held s.new.sink) does (put_command t k old mid reply does c.requires.other) (size_command t k old mid reply does c.requires.other) log front s.ensures.cut) s.ensures.log s.ensures.front

pub returns-in-Err-clause-ends : goal.returns-in-Err-clause-ends
returns-in-Err-clause-ends g c = stopped c.args.turn.now c.args.command.now c.args.self.now c.reply_to.new.self (g.K.ReplySink.held c.args.sink.now) c.in-Err.ensures.stops
