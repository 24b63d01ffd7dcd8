use Rattle.std.proofs.Common.{List, ℕ, None, refl, ap}
use Rattle.qc_model.specs.Machine.{ok_reply, other}
use Rattle.qc_model.specs.Session.{with_transaction}
use Rattle.qc_trx.specs.SnapshotStates.{SnapshotState}
use Rattle.qc_statements.proofs.Calls.{if_ok}
use Rattle.qc_serve.specs.Going.{GivesOut, next_who}
use Rattle.qc_serve.proofs.Resting.{moved_stops, on_err}
use Rattle.qc_serve.proofs.Transacting.{rollback_gives, rollback_may}
use Rattle.qc_serve.proofs.session.Session.rollback.Goals as goal

pub log_ok-requires : goal.log_ok-requires
log_ok-requires g c = rollback_may c.args.turn.now c.args.self.now c.clear.new.self c.requires c.clear.ensures

pub returns-clause-gives : goal.returns-clause-gives
returns-clause-gives g c =
    let t = c.args.turn.now in
    let old = c.args.self.now in
    let x = c.clear.new.self in
    let n = c.log_ok in
    if_ok (λ (bytes : List ℕ). GivesOut t (record old { state = x }) n.new.self bytes (λ journal. other (next_who (record old { state = x })) x.state (ok_reply x.state 0)))
    (λ (bytes : List ℕ). GivesOut t old n.new.self bytes (λ journal. other (next_who old) (with_transaction old.state.state None) (ok_reply (with_transaction old.state.state None) 0))) (λ bytes. rollback_gives t old n.new.self x bytes c.clear.ensures)
    n.result n.ensures.gives

pub returns-clause-stops : goal.returns-clause-stops
returns-clause-stops g c =
    let old = c.args.self.now in
    let n = c.log_ok in
    on_err n.result (moved_stops c.args.turn.now old (record old { state = c.clear.new.self }) n.new.self (λ J e. ⊥) (record { is = refl; session = ap (λ (x : SnapshotState). x.state.session) c.clear.ensures })) n.ensures.stops
