use Rattle.std.proofs.Common.{None, true, refl, ap, ◌∙◌}
use Rattle.qc_trx.specs.SnapshotStates.{SnapshotState}
use Rattle.qc_model.specs.Machine.{ended_with}
use Rattle.qc_model.specs.Session.{with_transaction}
use Rattle.qc_serve.specs.Going.{IsGivenBy, next_who}
use Rattle.qc_serve.proofs.Meeting.{ends_fit}
use Rattle.qc_serve.proofs.Resting.{or_err, stops_without}
use Rattle.qc_serve.proofs.Transacting.{can_put, ended_stops, left_out, on_out, put_session}
use Rattle.qc_serve.proofs.session.Session.turn_on.Goals as goal

pub put-requires : goal.put-requires
put-requires g c = can_put c.args.setting.now c.end_transaction.new.self.state.state c.requires.sets

pub ended_reply-requires : goal.ended_reply-requires
ended_reply-requires g c =
    let old = c.args.self.now in
    let e = c.in_ok-ended in
    let d = e.ensures.logs.decides in
    ends_fit (next_who old) old.state.state d.journal d.event e.ended d.is_so

pub returns-in_ok-put-in-Commits-clause-gives : goal.returns-in_ok-put-in-Commits-clause-gives
returns-in_ok-put-in-Commits-clause-gives g c =
    let e = c.in_ok-ended in
    on_out c.args.turn.now c.args.self.now c.end_transaction.new.self c.args.setting.now e.ended c.put.new.state c.ok_reply.result e.ensures.logs c.in-Commits.is c.requires.rest.rest c.requires.sets e.ensures.state c.in_ok-put-in-Commits.ensures.set c.put.ensures.origin (rw c.status.ensures at c.ok_reply.ensures)

pub returns-in_ok-put-in-Commits-clause-stops : goal.returns-in_ok-put-in-Commits-clause-stops
returns-in_ok-put-in-Commits-clause-stops g c =
    let e = c.in_ok-ended in
    or_err c.ok_reply.result (ended_stops c.args.turn.now c.args.self.now c.end_transaction.new.self e.ended c.put.new.state (with_transaction (record c.args.self.now.state.state { autocommit = true }) None) e.ensures.logs (put_session c.args.setting.now c.end_transaction.new.self.state.state c.put.new.state.state c.requires.sets c.in_ok-put-in-Commits.ensures.set ∙ ap (λ (x : SnapshotState). x.state.session) e.ensures.state))

pub returns-in_err-put-in-Commits-clause-stops : goal.returns-in_err-put-in-Commits-clause-stops
returns-in_err-put-in-Commits-clause-stops g c =
    let e = c.in_ok-ended in
    or_err _ (ended_stops c.args.turn.now c.args.self.now c.end_transaction.new.self e.ended c.put.new.state (with_transaction (record c.args.self.now.state.state { autocommit = true }) None) e.ensures.logs (ap (λ (x : SnapshotState). x.state.session) (c.in_err-put-in-Commits.ensures.err ∙ e.ensures.state)))

pub returns-in_default-clause-gives : goal.returns-in_default-clause-gives
returns-in_default-clause-gives g c =
    let old = c.args.self.now in
    let e = c.in_ok-ended in
    left_out c.args.turn.now old c.end_transaction.new.self e.ended (with_transaction (record old.state.state { autocommit = true }) None) c.ended_reply.result e.ensures.logs c.requires.rest.rest e.ensures.state refl c.in_default.not-Commits c.ended_reply.ensures

pub returns-in_default-clause-stops : goal.returns-in_default-clause-stops
returns-in_default-clause-stops g c =
    let e = c.in_ok-ended in
    or_err c.ended_reply.result (ended_stops c.args.turn.now c.args.self.now c.end_transaction.new.self e.ended c.end_transaction.new.self.state (with_transaction (record c.args.self.now.state.state { autocommit = true }) None) e.ensures.logs (ap (λ (x : SnapshotState). x.state.session) e.ensures.state))

pub returns-in_err-ended-clause-stops : goal.returns-in_err-ended-clause-stops
returns-in_err-ended-clause-stops g c =
    let old = c.args.self.now in
    or_err _ (stops_without c.args.turn.now old c.end_transaction.new.self (IsGivenBy (λ journal. ended_with (next_who old) old.state.state journal (with_transaction (record old.state.state { autocommit = true }) None))) c.in_err-ended.ensures.stops)
