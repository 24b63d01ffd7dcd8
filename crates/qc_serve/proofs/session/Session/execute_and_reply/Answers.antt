use Rattle.std.proofs.Common.{List, ℕ, ap, sym, subst}
use Rattle.qc_sql.specs.declared.commands.Command.TheVariants as sent
use Rattle.qc_serve.specs.Going.{DoesStatement}
use Rattle.qc_serve.specs.declared.session.Session.{Session}
use Rattle.qc_serve.proofs.Breaking.{on_errs, put_failed, stopped}
use Rattle.qc_serve.proofs.Parsing.{by_result, does_replies, dropped_other, means_other, on_all, replied_other, stopped_other}
use Rattle.qc_serve.proofs.PiecesPut.{put_text, size_text}
use Rattle.qc_serve.proofs.Resting.{or_err}
use Rattle.qc_serve.proofs.session.Session.execute_and_reply.Goals as goal

pub returns-in_err-reply-clause-ends : goal.returns-in_err-reply-clause-ends
returns-in_err-reply-clause-ends g c = λ text means. or_err _ (stopped c.args.turn.now (sent.Query text) c.args.self.now c.execute_statement.new.self (g.K.ReplySink.held c.args.sink.now) (c.in_err-reply.ensures.stops text means))

pub returns-in_err-reply-clause-no_hit : goal.returns-in_err-reply-clause-no_hit
returns-in_err-reply-clause-no_hit g c = λ text l means lines how_is. stopped_other c.args.turn.now c.args.self.now c.execute_statement.new.self l (c.in_err-reply.ensures.stops text means) lines how_is

pub returns-clause-replied : goal.returns-clause-replied
returns-clause-replied g c = λ text means.
    let t = c.args.turn.now in
    let old = c.args.self.now in
    let mid = c.execute_statement.new.self in
    let n = c.send_reply in
    let does : DoesStatement t c.args.statement.now old mid c.bytes.result.now = subst (λ (b : List ℕ). DoesStatement t c.args.statement.now old mid b) (sym c.bytes.ensures) c.in_ok-reply.ensures.does in
    on_all n.result
    (λ same sends some. does_replies t (sent.Query text) old mid n.new.self c.bytes.result.now (g.K.ReplySink.held c.args.sink.now) (g.K.ReplySink.held n.new.sink) (does text means)
    (put_text t text old mid c.bytes.result.now (does text means) (means_other text old.state.state.ansi c.args.statement.now means c.requires.other))
    (size_text t text old mid c.bytes.result.now (does text means) (means_other text old.state.state.ansi c.args.statement.now means c.requires.other)) n.ensures.cut same sends some) n.ensures.same n.ensures.sends n.ensures.some

pub returns-clause-ends : goal.returns-clause-ends
returns-clause-ends g c = λ text means.
    let t = c.args.turn.now in
    let old = c.args.self.now in
    let mid = c.execute_statement.new.self in
    let n = c.send_reply in
    let does : DoesStatement t c.args.statement.now old mid c.bytes.result.now = subst (λ (b : List ℕ). DoesStatement t c.args.statement.now old mid b) (sym c.bytes.ensures) c.in_ok-reply.ensures.does in
    on_errs n.result (λ log front. put_failed t (sent.Query text) old mid n.new.self c.bytes.result.now (g.K.ReplySink.held c.args.sink.now) (g.K.ReplySink.held n.new.sink) (does text means)
    (put_text t text old mid c.bytes.result.now (does text means) (means_other text old.state.state.ansi c.args.statement.now means c.requires.other))
    (size_text t text old mid c.bytes.result.now (does text means) (means_other text old.state.state.ansi c.args.statement.now means c.requires.other)) log front n.ensures.cut) n.ensures.log n.ensures.front

pub returns-clause-no_hit : goal.returns-clause-no_hit
returns-clause-no_hit g c = λ text l means lines how_is.
    let t = c.args.turn.now in
    let old = c.args.self.now in
    let mid = c.execute_statement.new.self in
    let n = c.send_reply in
    let does : DoesStatement t c.args.statement.now old mid c.bytes.result.now = subst (λ (b : List ℕ). DoesStatement t c.args.statement.now old mid b) (sym c.bytes.ensures) c.in_ok-reply.ensures.does in
    let free = means_other text old.state.state.ansi c.args.statement.now means c.requires.other in
    by_result n.result
    (λ same. replied_other t text old mid c.bytes.result.now n.new.self.log.lines l free (does text means) (ap (λ (x : Session). x.log.lines) same) lines how_is)
    (λ log. dropped_other t text old mid c.bytes.result.now n.new.self.log.lines l free (does text means) log.0 lines how_is) n.ensures.same n.ensures.log
