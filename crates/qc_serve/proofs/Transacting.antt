-- Commands that end a transaction, or set a variable, from where the session stood before.
use Rattle.std.proofs.Common.{◌≡◌, ℕ, true, false, List, refl, sym, ap, ◌∙◌, subst, arith, Option, None, Result, Ok, Err}
use Rattle.std.specs.Prelude.{◌&&◌, IfOk, MatchResult, is_ok, not, option_and_then, unwrap_or}
use Rattle.qc_types.specs.declared.sql_error.SqlError.{SqlError}
use Rattle.qc_sql.specs.declared.statements.Setting.{Setting}
use Rattle.qc_sql.specs.Packets.{packets}
use Rattle.qc_model.specs.declared.events.Event.{Event}
use Rattle.qc_model.specs.declared.events.Who.{Who}
use Rattle.qc_model.specs.Journal.{Journal}
use Rattle.qc_model.specs.Machine.{Given, begun, ended_with, ok_reply, other, refused, set_autocommit}
use Rattle.qc_model.specs.Session.{State, Transaction, snapshot_of, with_transaction}
use Rattle.qc_model.specs.Settings.{is_autocommit, set_to}
use Rattle.qc_trx.specs.SnapshotStates.{SnapshotState, after_begin, after_end}
use Rattle.qc_statements.specs.Sound.{IsFitState, IsPast}
use Rattle.qc_statements.specs.Statements.{switched}
use Rattle.qc_statements.proofs.States.{fit_begun, fit_ended}
use Rattle.qc_statements.proofs.Switches.{set_fit, set_keeps, set_session}
use Rattle.qc_turn.specs.declared.turn.Turn.{Turn}
use Rattle.qc_core.specs.declared.server_state.ServerState.{ServerState}
use Rattle.qc_serve.specs.declared.transaction_end.Ended.{Ended}
use Rattle.qc_serve.specs.declared.transaction_end.Ended.TheVariants as ended
use Rattle.qc_serve.specs.declared.session.Session.{Session}
use Rattle.qc_serve.specs.Ends.{EndsAs, ended_reply}
use Rattle.qc_serve.specs.Going.{GivesOut, IsAtRest, IsGivenBy, Logs, MayAnswer, SetsOther, Stops, TellsOut, next_who, number_of, seen_by}
use Rattle.qc_serve.specs.Seats.{next_of}
use Rattle.qc_serve.proofs.Autocommit.{set_on, set_plain, set_refused}
use Rattle.qc_statements.proofs.Calls.{if_ok}
use Rattle.qc_serve.proofs.Meeting.{ended_state, ends_give, ends_given, ends_of}
use Rattle.qc_serve.proofs.Resting.{SameBut, event_stops, logs_moved, moved_gives, moved_may, moved_tells, rest_ended, rest_with, stops_as}

-- ---- ROLLBACK

pub rollback_may : (t : Turn ServerState Event) (old : Session) (x : SnapshotState) → MayAnswer t old → x ≡ after_end old.state → MayAnswer t (record old { state = x })
rollback_may t old x may is =
    let rest = may.rest in
    let same : SameBut old (record old { state = after_end old.state }) = record { is = refl; session = refl } in
    subst (λ (y : SnapshotState). MayAnswer t (record old { state = y })) (sym is) (moved_may t old (record old { state = after_end old.state }) same may (fit_ended (seen_by old) (seen_by old) old.state rest.fit) tt)

pub rollback_gives : (t : Turn ServerState Event) (old new : Session) (x : SnapshotState) (bytes : List ℕ) → x ≡ after_end old.state → GivesOut t (record old { state = x }) new bytes (λ journal. other (next_who (record old { state = x })) x.state (ok_reply x.state 0))
    → GivesOut t old new bytes (λ journal. other (next_who old) (with_transaction old.state.state None) (ok_reply (with_transaction old.state.state None) 0))
rollback_gives t old new x bytes is out =
    let mid : Session = record old { state = after_end old.state } in
    let moved : GivesOut t mid new bytes (λ journal. other (next_who mid) mid.state.state (ok_reply mid.state.state 0))
    = subst (λ (y : SnapshotState). GivesOut t (record old { state = y }) new bytes (λ journal. other (next_who (record old { state = y })) y.state (ok_reply y.state 0))) is out in
    moved_gives t old mid new bytes (λ journal. other (next_who mid) mid.state.state (ok_reply mid.state.state 0)) (record { is = refl; session = refl }) moved

-- ---- COMMIT and BEGIN

-- where it doesn't commit, the transaction is forgotten
pub left_ended : (x : Ended) (state next : State) → (x ≡ ended.Commits → ⊥) → with_transaction state None ≡ ended_state x state next
left_ended ended.Conflict state next h = refl
left_ended (ended.Full t) state next h = refl
left_ended ended.Commits state next h = absurd (h refl)

pub left_gives : (t : Turn ServerState Event) (old new : Session) (x : Ended) (next : State) (bytes : List ℕ) → Logs t old new (λ journal e. EndsAs (next_who old) old.state.state journal e x) → IsAtRest t old → new.state ≡ after_end old.state → next.session ≡ number_of old → (x ≡ ended.Commits → ⊥)
    → bytes ≡ packets (ended_reply new.state.state x) → GivesOut t old new bytes (λ journal. ended_with (next_who old) old.state.state journal next)
left_gives t old new x next bytes logs rest state session other reply =
    ends_give t old new x next bytes logs (rest_ended t old new (λ journal e. EndsAs (next_who old) old.state.state journal e x) rest logs state) session reply (ap (λ (y : SnapshotState). y.state) state ∙ left_ended x old.state.state next other)

commit_state : (x : Ended) (state : State) → with_transaction state None ≡ ended_state x state (with_transaction state None)
commit_state ended.Conflict state = refl
commit_state (ended.Full t) state = refl
commit_state ended.Commits state = refl

pub commit_gives : (t : Turn ServerState Event) (old new : Session) (x : Ended) (bytes : List ℕ) → Logs t old new (λ journal e. EndsAs (next_who old) old.state.state journal e x) → IsAtRest t old → new.state ≡ after_end old.state → bytes ≡ packets (ended_reply new.state.state x)
    → GivesOut t old new bytes (λ journal. ended_with (next_who old) old.state.state journal (with_transaction old.state.state None))
commit_gives t old new x bytes logs rest state reply =
    ends_give t old new x (with_transaction old.state.state None) bytes logs (rest_ended t old new (λ journal e. EndsAs (next_who old) old.state.state journal e x) rest logs state) refl reply (ap (λ (y : SnapshotState). y.state) state ∙ commit_state x old.state.state)

pub begin_gives : (t : Turn ServerState Event) (old new : Session) (bytes : List ℕ) → Logs t old new (λ journal e. EndsAs (next_who old) old.state.state journal e ended.Commits) → IsAtRest t old → new.state ≡ after_begin (after_end old.state) → bytes ≡ packets (ok_reply new.state.state 0)
    → GivesOut t old new bytes (λ journal. ended_with (next_who old) old.state.state journal (begun old.state.state))
begin_gives t old new bytes logs rest state reply =
    let fit : IsFitState (seen_by new) new.state = subst (IsFitState (seen_by new)) (sym state) (fit_begun (seen_by new) (after_end old.state) (fit_ended (seen_by old) (seen_by new) old.state rest.fit) refl) in
    let past : IsPast (seen_by new) (snapshot_of new.state.state) = subst (λ (y : SnapshotState). IsPast (seen_by new) (snapshot_of y.state)) (sym state) tt in
    ends_give t old new ended.Commits (begun old.state.state) bytes logs
    (rest_with t old new rest logs.rests logs.options (ap (λ (y : SnapshotState). y.state.session) state) (omega (arith, logs.place)) fit past) refl reply (ap (λ (y : SnapshotState). y.state) state)

-- ---- SET

set_past : (J : Journal) (v : Setting) (state next : State) → set_to state v ≡ Ok next → IsPast J (snapshot_of state) → IsPast J (snapshot_of next)
set_past J v state next is past = let k = set_keeps state next v is in subst (λ (o : Option Transaction). IsPast J (option_and_then (λ y. y.snapshot) o)) (sym k.transaction) past

pub set_same : (old : Session) (v : Setting) (x : SnapshotState) → set_to old.state.state v ≡ Ok x.state → SameBut old (record old { state = x })
set_same old v x is = record { is = refl; session = set_session old.state.state x.state v is }

pub set_may : (t : Turn ServerState Event) (old : Session) (v : Setting) (x : SnapshotState) → MayAnswer t old → set_to old.state.state v ≡ Ok x.state → x.origin ≡ old.state.origin → MayAnswer t (record old { state = x })
set_may t old v x may is origin =
    let rest = may.rest in
    moved_may t old (record old { state = x }) (set_same old v x is) may (set_fit (seen_by old) v old.state x rest.fit is origin) (set_past (seen_by old) v old.state.state x.state is rest.past)

-- a variable without event
pub set_tells : (t : Turn ServerState Event) (old new : Session) (v : Setting) (x : SnapshotState) (bytes : List ℕ) → set_to old.state.state v ≡ Ok x.state → TellsOut t (record old { state = x }) new bytes (ok_reply x.state 0) x.state → SetsOther t v old new bytes
set_tells t old new v x bytes is out =
    let moved : TellsOut t old new bytes (ok_reply x.state 0) x.state = moved_tells t old (record old { state = x }) new bytes (ok_reply x.state 0) x.state (set_same old v x is) out in
    subst (λ (r : Result State SqlError). MatchResult r (λ next. TellsOut t old new bytes (ok_reply next 0) next) (λ e. TellsOut t old new bytes (refused e) old.state.state)) (sym is) moved

pub unset_tells : (t : Turn ServerState Event) (old new : Session) (v : Setting) (x : SnapshotState) (e : SqlError) (bytes : List ℕ) → set_to old.state.state v ≡ Err e → x ≡ old.state → TellsOut t (record old { state = x }) new bytes (refused e) x.state → SetsOther t v old new bytes
unset_tells t old new v x e bytes is same out =
    let moved : TellsOut t old new bytes (refused e) old.state.state = subst (λ (y : SnapshotState). TellsOut t (record old { state = y }) new bytes (refused e) y.state) same out in
    subst (λ (r : Result State SqlError). MatchResult r (λ next. TellsOut t old new bytes (ok_reply next 0) next) (λ f. TellsOut t old new bytes (refused f) old.state.state)) (sym is) moved

-- autocommit doesn't go from off to on
pub plain_gives : (t : Turn ServerState Event) (old new : Session) (v : Setting) (x : SnapshotState) (bytes : List ℕ) → is_autocommit v ≡ true → (not old.state.state.autocommit && unwrap_or (switched v) false) ≡ false → set_to old.state.state v ≡ Ok x.state
    → GivesOut t (record old { state = x }) new bytes (λ journal. other (next_who (record old { state = x })) x.state (ok_reply x.state 0)) → GivesOut t old new bytes (λ journal. set_autocommit (next_who old) old.state.state journal (set_to old.state.state v))
plain_gives t old new v x bytes auto off is out =
    let mid : Session = record old { state = x } in
    let moved = moved_gives t old mid new bytes (λ journal. other (next_who mid) x.state (ok_reply x.state 0)) (set_same old v x is) out in
    let who : next_who mid ≡ next_who old = ap (λ (n : ℕ). next_of n (seen_by old)) (set_session old.state.state x.state v is) in
    let given : (J : Journal) → other (next_who mid) x.state (ok_reply x.state 0) ≡ set_autocommit (next_who old) old.state.state J (set_to old.state.state v)
    = λ J. ap (λ (w : Who). other w x.state (ok_reply x.state 0)) who ∙ set_plain (next_who old) J v old.state.state x.state auto off is in
    subst (λ (f : Journal → Given). GivesOut t old new bytes f) (λ i J. given J i) moved

-- it is refused
pub unset_gives : (t : Turn ServerState Event) (old new : Session) (v : Setting) (x : SnapshotState) (e : SqlError) (bytes : List ℕ) → set_to old.state.state v ≡ Err e → x ≡ old.state
    → GivesOut t (record old { state = x }) new bytes (λ journal. other (next_who (record old { state = x })) x.state (refused e)) → GivesOut t old new bytes (λ journal. set_autocommit (next_who old) old.state.state journal (set_to old.state.state v))
unset_gives t old new v x e bytes is same out =
    let moved : GivesOut t old new bytes (λ journal. other (next_who old) old.state.state (refused e))
    = subst (λ (y : SnapshotState). GivesOut t (record old { state = y }) new bytes (λ journal. other (next_who (record old { state = y })) y.state (refused e))) same out in
    let given : (J : Journal) → other (next_who old) old.state.state (refused e) ≡ set_autocommit (next_who old) old.state.state J (set_to old.state.state v) = λ J. set_refused (next_who old) J v old.state.state e is in
    subst (λ (f : Journal → Given). GivesOut t old new bytes f) (λ i J. given J i) moved

-- it goes from off to on
pub on_gives : (t : Turn ServerState Event) (old new : Session) (v : Setting) (bytes : List ℕ) → set_to old.state.state v ≡ Ok (record old.state.state { autocommit = true }) → old.state.state.autocommit ≡ false
    → GivesOut t old new bytes (λ journal. ended_with (next_who old) old.state.state journal (with_transaction (record old.state.state { autocommit = true }) None)) → GivesOut t old new bytes (λ journal. set_autocommit (next_who old) old.state.state journal (set_to old.state.state v))
on_gives t old new v bytes is off out =
    let given : (J : Journal) → ended_with (next_who old) old.state.state J (with_transaction (record old.state.state { autocommit = true }) None) ≡ set_autocommit (next_who old) old.state.state J (set_to old.state.state v) = λ J. set_on (next_who old) J v old.state.state is off in
    subst (λ (f : Journal → Given). GivesOut t old new bytes f) (λ i J. given J i) out

pub on_stops : (t : Turn ServerState Event) (old new : Session) (v : Setting) → set_to old.state.state v ≡ Ok (record old.state.state { autocommit = true }) → old.state.state.autocommit ≡ false
    → Stops t old new (IsGivenBy (λ journal. ended_with (next_who old) old.state.state journal (with_transaction (record old.state.state { autocommit = true }) None)))
    → Stops t old new (IsGivenBy (λ journal. set_autocommit (next_who old) old.state.state journal (set_to old.state.state v)))
on_stops t old new v is off stops =
    let given : (J : Journal) → ended_with (next_who old) old.state.state J (with_transaction (record old.state.state { autocommit = true }) None) ≡ set_autocommit (next_who old) old.state.state J (set_to old.state.state v) = λ J. set_on (next_who old) J v old.state.state is off in
    subst (λ (f : Journal → Given). Stops t old new (IsGivenBy f)) (λ i J. given J i) stops

ok_is : (x y : State) → ◌≡◌ {A = Result State SqlError} (Ok x) (Ok y) → x ≡ y
ok_is x y h = cc

-- the transaction has ended by a commit, and then it is set
pub turned_on : (t : Turn ServerState Event) (old new : Session) (v : Setting) (bytes : List ℕ) → Logs t old new (λ journal e. EndsAs (next_who old) old.state.state journal e ended.Commits) → IsAtRest t old
    → ((s : State) → set_to s v ≡ Ok (record s { autocommit = true })) → Ok new.state.state ≡ set_to (with_transaction old.state.state None) v → new.state.origin ≡ None → bytes ≡ packets (ok_reply new.state.state 0)
    → GivesOut t old new bytes (λ journal. ended_with (next_who old) old.state.state journal (with_transaction (record old.state.state { autocommit = true }) None))
turned_on t old new v bytes logs rest sets is origin reply =
    let x : SnapshotState = after_end old.state in
    let next : State = with_transaction (record old.state.state { autocommit = true }) None in
    let state : new.state.state ≡ next = ok_is new.state.state next (is ∙ sets (with_transaction old.state.state None)) in
    let fit : IsFitState (seen_by new) new.state = set_fit (seen_by new) v x new.state (fit_ended (seen_by old) (seen_by new) old.state rest.fit) (sym is) origin in
    let past : IsPast (seen_by new) (snapshot_of new.state.state) = subst (λ (y : State). IsPast (seen_by new) (snapshot_of y)) (sym state) tt in
    ends_give t old new ended.Commits next bytes logs (rest_with t old new rest logs.rests logs.options (ap (λ (y : State). y.session) state) (omega (arith, logs.place)) fit past) refl reply state

-- ---- behind the end of a transaction, where the state is changed then

-- memory lacked
pub ended_stops : (t : Turn ServerState Event) (old mid : Session) (e : Ended) (x : SnapshotState) (next : State) → Logs t old mid (λ journal y. EndsAs (next_who old) old.state.state journal y e) → x.state.session ≡ number_of old
    → Stops t old (record mid { state = x }) (IsGivenBy (λ journal. ended_with (next_who old) old.state.state journal next))
ended_stops t old mid e x next logs session =
    let IsSo : Journal → Event → Type 0 = λ journal y. EndsAs (next_who old) old.state.state journal y e in
    let moved : Logs t old (record mid { state = x }) IsSo = logs_moved t old mid (record mid { state = x }) IsSo logs refl in
    let d = moved.decides in
    stops_as t old (record mid { state = x }) IsSo (IsGivenBy (λ journal. ended_with (next_who old) old.state.state journal next)) (λ J y h. ends_given (next_who old) old.state.state next J y e h)
    (event_stops t old (record mid { state = x }) IsSo moved (ends_of (next_who old) old.state.state d.journal d.event e d.is_so) session)

commits_at : (t : Turn ServerState Event) (old mid : Session) (e : Ended) → e ≡ ended.Commits → Logs t old mid (λ journal y. EndsAs (next_who old) old.state.state journal y e) → Logs t old mid (λ journal y. EndsAs (next_who old) old.state.state journal y ended.Commits)
commits_at t old mid e is logs = subst (λ (z : Ended). Logs t old mid (λ journal y. EndsAs (next_who old) old.state.state journal y z)) is logs

pub begin_out : (t : Turn ServerState Event) (old mid : Session) (e : Ended) (x : SnapshotState) {F : Type 0} (r : Result (List ℕ) F) → Logs t old mid (λ journal y. EndsAs (next_who old) old.state.state journal y e) → e ≡ ended.Commits → IsAtRest t old → mid.state ≡ after_end old.state → x ≡ after_begin mid.state
    → IfOk r (λ bytes. bytes ≡ packets (ok_reply x.state 0)) → IfOk r (λ bytes. GivesOut t old (record mid { state = x }) bytes (λ journal. ended_with (next_who old) old.state.state journal (begun old.state.state)))
begin_out t old mid e x r logs is rest state begins reply =
    let new : Session = record mid { state = x } in
    let IsSo : Journal → Event → Type 0 = λ journal y. EndsAs (next_who old) old.state.state journal y ended.Commits in
    let moved = logs_moved t old mid new IsSo (commits_at t old mid e is logs) refl in
    if_ok (λ (bytes : List ℕ). bytes ≡ packets (ok_reply x.state 0)) (λ (bytes : List ℕ). GivesOut t old new bytes (λ journal. ended_with (next_who old) old.state.state journal (begun old.state.state)))
    (λ bytes h. begin_gives t old new bytes moved rest (begins ∙ ap after_begin state) h) r reply

pub left_out : (t : Turn ServerState Event) (old new : Session) (e : Ended) (next : State) {F : Type 0} (r : Result (List ℕ) F) → Logs t old new (λ journal y. EndsAs (next_who old) old.state.state journal y e) → IsAtRest t old → new.state ≡ after_end old.state → next.session ≡ number_of old → (e ≡ ended.Commits → ⊥)
    → IfOk r (λ bytes. bytes ≡ packets (ended_reply new.state.state e)) → IfOk r (λ bytes. GivesOut t old new bytes (λ journal. ended_with (next_who old) old.state.state journal next))
left_out t old new e next r logs rest state session other reply =
    if_ok (λ (bytes : List ℕ). bytes ≡ packets (ended_reply new.state.state e)) (λ (bytes : List ℕ). GivesOut t old new bytes (λ journal. ended_with (next_who old) old.state.state journal next)) (λ bytes h. left_gives t old new e next bytes logs rest state session other h) r reply

pub on_out : (t : Turn ServerState Event) (old mid : Session) (v : Setting) (e : Ended) (x : SnapshotState) {F : Type 0} (r : Result (List ℕ) F) → Logs t old mid (λ journal y. EndsAs (next_who old) old.state.state journal y e) → e ≡ ended.Commits → IsAtRest t old
    → ((s : State) → set_to s v ≡ Ok (record s { autocommit = true })) → mid.state ≡ after_end old.state → Ok x.state ≡ set_to mid.state.state v → x.origin ≡ mid.state.origin → IfOk r (λ bytes. bytes ≡ packets (ok_reply x.state 0))
    → IfOk r (λ bytes. GivesOut t old (record mid { state = x }) bytes (λ journal. ended_with (next_who old) old.state.state journal (with_transaction (record old.state.state { autocommit = true }) None)))
on_out t old mid v e x r logs is rest sets state set origin reply =
    let new : Session = record mid { state = x } in
    let IsSo : Journal → Event → Type 0 = λ journal y. EndsAs (next_who old) old.state.state journal y ended.Commits in
    let moved = logs_moved t old mid new IsSo (commits_at t old mid e is logs) refl in
    if_ok (λ (bytes : List ℕ). bytes ≡ packets (ok_reply x.state 0))
    (λ (bytes : List ℕ). GivesOut t old new bytes (λ journal. ended_with (next_who old) old.state.state journal (with_transaction (record old.state.state { autocommit = true }) None)))
    (λ bytes h. turned_on t old new v bytes moved rest sets (set ∙ ap (λ (y : SnapshotState). set_to y.state v) state) (origin ∙ ap (λ (y : SnapshotState). y.origin) state) h) r reply

-- a value that switches it on can be set, and leaves the session's number
pub can_put : (v : Setting) (state : State) → ((s : State) → set_to s v ≡ Ok (record s { autocommit = true })) → is_ok (set_to state v) ≡ true
can_put v state sets = ap is_ok (sets state)

pub put_session : (v : Setting) (state next : State) → ((s : State) → set_to s v ≡ Ok (record s { autocommit = true })) → Ok next ≡ set_to state v → next.session ≡ state.session
put_session v state next sets is = set_session state next v (sym is)
