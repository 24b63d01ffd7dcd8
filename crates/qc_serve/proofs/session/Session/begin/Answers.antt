use Rattle.std.proofs.Common.{refl, ap, ◌∙◌}
use Rattle.qc_model.specs.Machine.{begun, ended_with}
use Rattle.qc_trx.specs.SnapshotStates.{SnapshotState, after_begin}
use Rattle.qc_serve.specs.Going.{IsGivenBy, next_who}
use Rattle.qc_serve.proofs.Meeting.{ends_fit}
use Rattle.qc_serve.proofs.Resting.{or_err, stops_without}
use Rattle.qc_serve.proofs.Transacting.{begin_out, ended_stops, left_out}
use Rattle.qc_serve.proofs.session.Session.begin.Goals as goal

pub ended_reply-requires : goal.ended_reply-requires
ended_reply-requires g c =
    let old = c.args.self.now in
    let e = c.in_ok-ended in
    let d = e.ensures.logs.decides in
    ends_fit (next_who old) old.state.state d.journal d.event e.ended d.is_so

pub returns-in-Commits-clause-gives : goal.returns-in-Commits-clause-gives
returns-in-Commits-clause-gives g c =
    let e = c.in_ok-ended in
    begin_out c.args.turn.now c.args.self.now c.end_transaction.new.self e.ended c.begin.new.self c.ok_reply.result e.ensures.logs c.in-Commits.is c.requires.rest e.ensures.state c.begin.ensures (rw c.status.ensures at c.ok_reply.ensures)

pub returns-in-Commits-clause-stops : goal.returns-in-Commits-clause-stops
returns-in-Commits-clause-stops g c =
    let e = c.in_ok-ended in
    or_err c.ok_reply.result (ended_stops c.args.turn.now c.args.self.now c.end_transaction.new.self e.ended c.begin.new.self (begun c.args.self.now.state.state) e.ensures.logs (ap (λ (x : SnapshotState). x.state.session) (c.begin.ensures ∙ ap after_begin e.ensures.state)))

pub returns-in_default-clause-gives : goal.returns-in_default-clause-gives
returns-in_default-clause-gives g c =
    let old = c.args.self.now in
    let e = c.in_ok-ended in
    left_out c.args.turn.now old c.end_transaction.new.self e.ended (begun old.state.state) c.ended_reply.result e.ensures.logs c.requires.rest e.ensures.state refl c.in_default.not-Commits c.ended_reply.ensures

pub returns-in_default-clause-stops : goal.returns-in_default-clause-stops
returns-in_default-clause-stops g c =
    let e = c.in_ok-ended in
    or_err c.ended_reply.result (ended_stops c.args.turn.now c.args.self.now c.end_transaction.new.self e.ended c.end_transaction.new.self.state (begun c.args.self.now.state.state) e.ensures.logs (ap (λ (x : SnapshotState). x.state.session) e.ensures.state))

pub returns-in_err-ended-clause-stops : goal.returns-in_err-ended-clause-stops
returns-in_err-ended-clause-stops g c =
    let old = c.args.self.now in
    or_err _ (stops_without c.args.turn.now old c.end_transaction.new.self (IsGivenBy (λ journal. ended_with (next_who old) old.state.state journal (begun old.state.state))) c.in_err-ended.ensures.stops)
