use Rattle.std.proofs.Common.{◌≡◌, List, ℕ, None, ap}
use Rattle.qc_model.specs.Machine.{ended_with}
use Rattle.qc_model.specs.Session.{with_transaction}
use Rattle.qc_sql.specs.Packets.{packets}
use Rattle.qc_trx.specs.SnapshotStates.{SnapshotState}
use Rattle.qc_statements.proofs.Calls.{if_ok}
use Rattle.qc_serve.specs.Ends.{ended_reply}
use Rattle.qc_serve.specs.Going.{GivesOut, IsGivenBy, next_who}
use Rattle.qc_serve.proofs.Meeting.{ends_fit}
use Rattle.qc_serve.proofs.Resting.{or_err, stops_without}
use Rattle.qc_serve.proofs.Transacting.{commit_gives, ended_stops}
use Rattle.qc_serve.proofs.session.Session.commit.Goals as goal

pub ended_reply-requires : goal.ended_reply-requires
ended_reply-requires g c =
    let old = c.args.self.now in
    let e = c.in_ok-ended in
    let d = e.ensures.logs.decides in
    ends_fit (next_who old) old.state.state d.journal d.event e.ended d.is_so

pub returns-clause-gives : goal.returns-clause-gives
returns-clause-gives g c =
    let t = c.args.turn.now in
    let old = c.args.self.now in
    let new = c.end_transaction.new.self in
    let e = c.in_ok-ended in
    let n = c.ended_reply in
    if_ok (λ (bytes : List ℕ). bytes ≡ packets (ended_reply new.state.state e.ended)) (λ (bytes : List ℕ). GivesOut t old new bytes (λ journal. ended_with (next_who old) old.state.state journal (with_transaction old.state.state None)))
    (λ bytes h. commit_gives t old new e.ended bytes e.ensures.logs c.requires.rest e.ensures.state h) n.result n.ensures

pub returns-clause-stops : goal.returns-clause-stops
returns-clause-stops g c =
    let old = c.args.self.now in
    let new = c.end_transaction.new.self in
    let e = c.in_ok-ended in
    or_err c.ended_reply.result (ended_stops c.args.turn.now old new e.ended new.state (with_transaction old.state.state None) e.ensures.logs (ap (λ (x : SnapshotState). x.state.session) e.ensures.state))

pub returns-in_err-ended-clause-stops : goal.returns-in_err-ended-clause-stops
returns-in_err-ended-clause-stops g c =
    let old = c.args.self.now in
    or_err _ (stops_without c.args.turn.now old c.end_transaction.new.self (IsGivenBy (λ journal. ended_with (next_who old) old.state.state journal (with_transaction old.state.state None))) c.in_err-ended.ensures.stops)
