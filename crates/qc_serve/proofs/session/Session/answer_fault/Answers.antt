use Rattle.std.proofs.Common.{List, ℕ, sym, subst}
use Rattle.qc_sql.specs.declared.commands.Command.TheVariants as sent
use Rattle.qc_model.specs.Machine.{fault_error, refused}
use Rattle.qc_parse.specs.Refusals.{as_meant}
use Rattle.qc_serve.specs.Going.{TellsOut}
use Rattle.qc_serve.proofs.Answering.{fault_told}
use Rattle.qc_serve.proofs.Breaking.{on_errs, put_failed}
use Rattle.qc_serve.proofs.Parsing.{does_replies, ends_same, fault_other, on_all}
use Rattle.qc_serve.proofs.PiecesPut.{put_text, size_text}
use Rattle.qc_serve.proofs.Resting.{or_err}
use Rattle.qc_serve.proofs.session.Session.answer_fault.Goals as goal

pub returns-in_err-reply-clause-ends : goal.returns-in_err-reply-clause-ends
returns-in_err-reply-clause-ends g c = λ text means. or_err _ (ends_same c.args.turn.now (sent.Query text) c.args.self.now c.tell_fault.new.self (g.K.ReplySink.held c.args.sink.now) c.requires.rest.rest c.in_err-reply.ensures.same)

pub returns-clause-replied : goal.returns-clause-replied
returns-clause-replied g c = λ text means.
    let t = c.args.turn.now in
    let old = c.args.self.now in
    let mid = c.tell_fault.new.self in
    let n = c.send_reply in
    let fault = as_meant c.args.refusal.now in
    let tells : TellsOut t old mid c.bytes.result.now (refused (fault_error fault)) old.state.state = subst (λ (b : List ℕ). TellsOut t old mid b (refused (fault_error fault)) old.state.state) (sym c.bytes.ensures) c.in_ok-reply.ensures.tells in
    on_all n.result
    (λ same sends some. does_replies t (sent.Query text) old mid n.new.self c.bytes.result.now (g.K.ReplySink.held c.args.sink.now) (g.K.ReplySink.held n.new.sink) (fault_told t text fault old mid c.bytes.result.now means tells)
    (put_text t text old mid c.bytes.result.now (fault_told t text fault old mid c.bytes.result.now means tells) (fault_other text old.state.state.ansi fault means))
    (size_text t text old mid c.bytes.result.now (fault_told t text fault old mid c.bytes.result.now means tells) (fault_other text old.state.state.ansi fault means)) n.ensures.cut same sends some)
    n.ensures.same n.ensures.sends n.ensures.some

pub returns-clause-ends : goal.returns-clause-ends
returns-clause-ends g c = λ text means.
    let t = c.args.turn.now in
    let old = c.args.self.now in
    let mid = c.tell_fault.new.self in
    let n = c.send_reply in
    let fault = as_meant c.args.refusal.now in
    let tells : TellsOut t old mid c.bytes.result.now (refused (fault_error fault)) old.state.state = subst (λ (b : List ℕ). TellsOut t old mid b (refused (fault_error fault)) old.state.state) (sym c.bytes.ensures) c.in_ok-reply.ensures.tells in
    on_errs n.result
    (λ log front. put_failed t (sent.Query text) old mid n.new.self c.bytes.result.now (g.K.ReplySink.held c.args.sink.now) (g.K.ReplySink.held n.new.sink) (fault_told t text fault old mid c.bytes.result.now means tells)
    (put_text t text old mid c.bytes.result.now (fault_told t text fault old mid c.bytes.result.now means tells) (fault_other text old.state.state.ansi fault means))
    (size_text t text old mid c.bytes.result.now (fault_told t text fault old mid c.bytes.result.now means tells) (fault_other text old.state.state.ansi fault means)) log front n.ensures.cut) n.ensures.log n.ensures.front
