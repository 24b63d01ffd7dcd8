use Rattle.std.proofs.Common.{◌≡◌, List, ℕ, Bool, true, false, refl, sym, ap, ◌∙◌, true≢false}
use Rattle.std.specs.Prelude.{◌&&◌, not, unwrap_or}
use Rattle.qc_sql.specs.declared.session.Flags.{Flags}
use Rattle.qc_model.specs.Machine.{ok_reply, other, refused, set_autocommit}
use Rattle.qc_model.specs.Settings.{set_to}
use Rattle.qc_statements.specs.Statements.{switched}
use Rattle.qc_trx.specs.SnapshotStates.{SnapshotState}
use Rattle.qc_statements.proofs.Calls.{if_ok}
use Rattle.qc_serve.specs.Going.{GivesOut, IsGivenBy, StopsWithout, next_who}
use Rattle.qc_serve.proofs.Autocommit.{off_left, off_right, on_sets}
use Rattle.qc_serve.proofs.Resting.{moved_stops, on_err, stops_without}
use Rattle.qc_serve.proofs.Transacting.{on_stops, plain_gives, set_may, set_same, unset_gives}
use Rattle.qc_serve.proofs.session.Session.set_autocommit.Goals as goal
use Rattle.qc_serve.proofs.session.Session.set_autocommit.Goals.{else-not-flags-via-then-not-flags+else-switches_on, else-not-flags-via-else-not-flags}

was_off : (b : Bool) → not b ≡ true → b ≡ false
was_off true h = absurd (true≢false (sym h))
was_off false h = refl

pub log_ok-requires : goal.log_ok-requires
log_ok-requires g c = set_may c.args.turn.now c.args.self.now c.args.setting.now c.set.new.self c.requires.rest c.in-Ok.ensures.gives c.set.ensures.same

pub returns-in-Ok-clause-gives : goal.returns-in-Ok-clause-gives
returns-in-Ok-clause-gives g c =
    let t = c.args.turn.now in
    let old = c.args.self.now in
    let v = c.args.setting.now in
    let x = c.set.new.self in
    let n = c.log_ok in
    let off : (not old.state.state.autocommit && unwrap_or (switched v) false) ≡ false = elim c.else-not-flags.branch [
      | else-not-flags-via-then-not-flags+else-switches_on w ↦ off_right (not old.state.state.autocommit) (unwrap_or (switched v) false) (sym w.switches_on.ensures ∙ w.if-switches_on.false)
      | else-not-flags-via-else-not-flags w ↦ off_left (not old.state.state.autocommit) (unwrap_or (switched v) false) (sym (ap (λ (f : Flags). not f.autocommit) c.flags.ensures) ∙ w.if-not-flags.false)
    ] in
    if_ok (λ (bytes : List ℕ). GivesOut t (record old { state = x }) n.new.self bytes (λ journal. other (next_who (record old { state = x })) x.state (ok_reply x.state 0)))
    (λ (bytes : List ℕ). GivesOut t old n.new.self bytes (λ journal. set_autocommit (next_who old) old.state.state journal (set_to old.state.state v)))
    (λ bytes. plain_gives t old n.new.self v x bytes c.requires.autocommit off c.in-Ok.ensures.gives) n.result n.ensures.gives

pub returns-in-Ok-clause-stops : goal.returns-in-Ok-clause-stops
returns-in-Ok-clause-stops g c =
    let old = c.args.self.now in
    let x = c.set.new.self in
    let n = c.log_ok in
    on_err n.result
    (λ (s : StopsWithout c.args.turn.now (record old { state = x }) n.new.self). stops_without c.args.turn.now old n.new.self (IsGivenBy (λ journal. set_autocommit (next_who old) old.state.state journal (set_to old.state.state c.args.setting.now)))
    (moved_stops c.args.turn.now old (record old { state = x }) n.new.self (λ J e. ⊥) (set_same old c.args.setting.now x c.in-Ok.ensures.gives) s)) n.ensures.stops

pub returns-in-Err-Other-clause-stops : goal.returns-in-Err-Other-clause-stops
returns-in-Err-Other-clause-stops g c =
    let old = c.args.self.now in
    let x = c.set.new.self in
    let n = c.log_error in
    on_err n.result
    (λ (s : StopsWithout c.args.turn.now (record old { state = x }) n.new.self). stops_without c.args.turn.now old n.new.self (IsGivenBy (λ journal. set_autocommit (next_who old) old.state.state journal (set_to old.state.state c.args.setting.now)))
    (moved_stops c.args.turn.now old (record old { state = x }) n.new.self (λ J e. ⊥) (record { is = refl; session = ap (λ (y : SnapshotState). y.state.session) c.in-Err-Other.ensures.err }) s)) n.ensures.stops

pub returns-in-Err-Other-clause-gives : goal.returns-in-Err-Other-clause-gives
returns-in-Err-Other-clause-gives g c =
    let t = c.args.turn.now in
    let old = c.args.self.now in
    let v = c.args.setting.now in
    let x = c.set.new.self in
    let n = c.log_error in
    let e = c.in-Err-Other.error in
    if_ok (λ (bytes : List ℕ). GivesOut t (record old { state = x }) n.new.self bytes (λ journal. other (next_who (record old { state = x })) x.state (refused e)))
    (λ (bytes : List ℕ). GivesOut t old n.new.self bytes (λ journal. set_autocommit (next_who old) old.state.state journal (set_to old.state.state v)))
    (λ bytes. unset_gives t old n.new.self v x e bytes (rw c.in-Err-Other.field-0-is at c.in-Err-Other.ensures.gives) c.in-Err-Other.ensures.err) n.result n.ensures.gives

pub returns-then-switches_on-clause-stops : goal.returns-then-switches_on-clause-stops
returns-then-switches_on-clause-stops g c =
    let old = c.args.self.now in
    let v = c.args.setting.now in
    let n = c.turn_on in
    let off = was_off old.state.state.autocommit (sym (ap (λ (f : Flags). not f.autocommit) c.flags.ensures) ∙ c.if-not-flags.true) in
    on_err n.result (on_stops c.args.turn.now old n.new.self v (on_sets v c.requires.autocommit (sym c.switches_on.ensures ∙ c.if-switches_on.true) old.state.state) off) n.ensures.stops
