-- What came under the turn is what the machine gives.
use Rattle.std.specs.Prelude.{IfOk, option_map}
use Rattle.std.proofs.Common.{◌≡◌, ℕ, ◌+◌, true, false, List, length, refl, sym, ap, ◌∙◌, subst, Option, None, Result, true≢false}
use Rattle.qc_types.specs.declared.totals.Totals.{Totals}
use Rattle.qc_sql.specs.declared.replies.Reply.{Reply}
use Rattle.qc_sql.specs.declared.statements.Statement.{Statement}
use Rattle.qc_sql.specs.declared.statements.Statement.TheVariants as statement
use Rattle.qc_sql.specs.Effects.{effect}
use Rattle.qc_sql.specs.Errors.{table_full, write_conflict}
use Rattle.qc_sql.specs.Packets.{packets}
use Rattle.qc_model.specs.declared.events.Event.{Event}
use Rattle.qc_model.specs.declared.events.Event.TheVariants as event
use Rattle.qc_model.specs.declared.events.How.TheVariants as how
use Rattle.qc_model.specs.declared.events.Who.{Who}
use Rattle.qc_model.specs.Journal.{Journal}
use Rattle.qc_model.specs.declared.events.Counters.{Counters}
use Rattle.qc_model.specs.Cache.{counters}
use Rattle.qc_model.specs.Machine.{Given, changed_form, changed_rows, ended_with, ok_reply, other, refused, status_reply}
use Rattle.qc_model.specs.Session.{State, Transaction, arrived, base, opened, snapshot_taken, with_transaction}
use Rattle.qc_statements.specs.Statements.{changes_rows}
use Rattle.qc_serve.specs.declared.transaction_end.Ended.{Ended}
use Rattle.qc_serve.specs.declared.transaction_end.Ended.TheVariants as ended
use Rattle.qc_serve.specs.declared.rows.RowsEnd.{RowsEnd}
use Rattle.qc_serve.specs.declared.rows.RowsEnd.TheVariants as rows
use Rattle.qc_serve.specs.declared.schema.FormsEnd.{FormsEnd}
use Rattle.qc_serve.specs.declared.schema.FormsEnd.TheVariants as forms
use Rattle.qc_serve.specs.Ends.{EndsAs, FormsAs, FormsFit, HasFittingError, IsGiven, RowsAs, RowsFit, ended_reply, forms_reply, forms_state, rows_reply}
use Rattle.qc_trx.specs.SnapshotStates.{SnapshotState}
use Rattle.qc_turn.specs.declared.turn.Turn.{Turn}
use Rattle.qc_core.specs.declared.server_state.ServerState.{ServerState}
use Rattle.qc_serve.specs.declared.notes.Note.{Note}
use Rattle.qc_serve.specs.declared.notes.Note.TheVariants as note
use Rattle.qc_serve.specs.Notes.{noted}
use Rattle.qc_serve.specs.declared.session.Session.{Session}
use Rattle.qc_serve.specs.Going.{GivesOut, IsAtRest, IsGivenBy, Logs, Stops, event_given, next_who, number_of, rows_given, status_given}
use Rattle.qc_serve.proofs.Givens.{IsOf, IsOwn, ended_own, forms_own, other_own, rows_own}
use Rattle.qc_serve.proofs.Resting.{Meets, event_stops, gives_out, rest_ended, rest_same, same_gives, stops_as}
use Rattle.qc_statements.proofs.Calls.{if_ok}

-- ---- of any kind

-- the event of what is given is the session's
pub given_of : (who : Who) (session : ℕ) (g : Given) (e : Event) (r : Reply) (next : State) → IsGiven g e r next → IsOwn who session g → IsOf who e
given_of who session g e r next h own = subst (IsOf who) (sym h.event) own.event

pub given_meets : (g : Given) (e : Event) (r : Reply) (next now : State) (bytes : List ℕ) → IsGiven g e r next → bytes ≡ packets r → now ≡ next → Meets g e bytes now
given_meets g e r next now bytes h reply state = record { event = h.event; reply = reply ∙ ap packets (sym h.reply); state = state ∙ sym h.next }

-- a run that says nothing of what it did
pub run_of : (who : Who) (e : Event) → e ≡ event.Run who how.Other → IsOf who e
run_of who e h = subst (IsOf who) (sym h) (record { other = refl; by = refl })

-- ---- the end of a transaction

-- the state that it leaves, where a commit leaves this one
abbrev pub ended_state : Ended → State → State → State
ended_state ended.Commits state next = next
ended_state _ state next = with_transaction state None

pub ends_of : (who : Who) (state : State) (J : Journal) (e : Event) (x : Ended) → EndsAs who state J e x → IsOf who e
ends_of who state J e ended.Conflict h = given_of who state.session (ended_with who state J state) e (refused write_conflict) (with_transaction state None) (h state) (ended_own who J state state refl)
ends_of who state J e (ended.Full t) h = given_of who state.session (ended_with who state J state) e (refused (table_full t)) (with_transaction state None) (h.1 state) (ended_own who J state state refl)
ends_of who state J e ended.Commits h = given_of who state.session (ended_with who state J state) e (ok_reply state 0) state (h state) (ended_own who J state state refl)

-- it is the one that is given, whatever state a commit leaves
pub ends_given : (who : Who) (state next : State) (J : Journal) (e : Event) (x : Ended) → EndsAs who state J e x → e ≡ (ended_with who state J next).event
ends_given who state next J e ended.Conflict h = (h next).event
ends_given who state next J e (ended.Full t) h = (h.1 next).event
ends_given who state next J e ended.Commits h = (h next).event

pub ends_fit : (who : Who) (state : State) (J : Journal) (e : Event) (x : Ended) → EndsAs who state J e x → HasFittingError x
ends_fit who state J e ended.Conflict h = tt
ends_fit who state J e (ended.Full t) h = h.0
ends_fit who state J e ended.Commits h = tt

pub ends_meet : (who : Who) (state next now : State) (J : Journal) (e : Event) (x : Ended) (bytes : List ℕ) → EndsAs who state J e x → bytes ≡ packets (ended_reply now x) → now ≡ ended_state x state next → Meets (ended_with who state J next) e bytes now
ends_meet who state next now J e ended.Conflict bytes h reply is = given_meets (ended_with who state J next) e (refused write_conflict) (with_transaction state None) now bytes (h next) reply is
ends_meet who state next now J e (ended.Full t) bytes h reply is = given_meets (ended_with who state J next) e (refused (table_full t)) (with_transaction state None) now bytes (h.1 next) reply is
ends_meet who state next now J e ended.Commits bytes h reply is = given_meets (ended_with who state J next) e (ok_reply next 0) next now bytes (h next) (reply ∙ ap (λ (s : State). packets (ok_reply s 0)) is) is

-- ---- a statement on rows, outside of a transaction

-- nothing arrives there
opened_alone : (state : State) → state.transaction ≡ None → state.autocommit ≡ true → opened state ≡ None
opened_alone state closed auto = rw (closed, auto) refl

taken_alone : (n : ℕ) (state : State) → state.transaction ≡ None → state.autocommit ≡ true → with_transaction state (option_map (snapshot_taken n) (opened state)) ≡ state
taken_alone n state closed auto = ap (λ (o : Option Transaction). with_transaction state (option_map (snapshot_taken n) o)) (opened_alone state closed auto) ∙ ap (with_transaction state) (sym closed)

pub arrived_alone : (n : ℕ) (s : Statement) (state : State) → changes_rows s ≡ true → state.transaction ≡ None → state.autocommit ≡ true → arrived n s state ≡ state
arrived_alone n (statement.Insert i) state is closed auto = taken_alone n state closed auto
arrived_alone n (statement.Update u) state is closed auto = taken_alone n state closed auto
arrived_alone n (statement.Delete d) state is closed auto = taken_alone n state closed auto
arrived_alone n s state is closed auto = absurd (true≢false (sym is))

pub rows_of : (who : Who) (state : State) (s : Statement) (J : Journal) (e : Event) (x : RowsEnd) → RowsAs who state s J e x → IsOf who e
rows_of who state s J e (rows.Refused error) h = given_of who state.session (changed_rows who state (effect s (base state J) state.db state.session)) e (refused error) state h.1 (rows_own who state (effect s (base state J) state.db state.session))
rows_of who state s J e (rows.Changes n) h = given_of who state.session (changed_rows who state (effect s (base state J) state.db state.session)) e (ok_reply state n) state h (rows_own who state (effect s (base state J) state.db state.session))

alone_given : (who : Who) (state : State) (s : Statement) (J : Journal) (e : Event) (x : RowsEnd) → RowsAs who state s J e x → e ≡ (changed_rows who state (effect s (base state J) state.db state.session)).event
alone_given who state s J e (rows.Refused error) h = h.1.event
alone_given who state s J e (rows.Changes n) h = h.event

pub rows_given_at : (who : Who) (state : State) (s : Statement) (J : Journal) (e : Event) (x : RowsEnd) → changes_rows s ≡ true → state.transaction ≡ None → state.autocommit ≡ true → RowsAs who state s J e x → e ≡ (rows_given who state s J).event
rows_given_at who state s J e x kind closed auto h =
    subst (λ (a : State). e ≡ (changed_rows who a (effect s (base a J) a.db a.session)).event) (sym (arrived_alone (length J + 1) s state kind closed auto)) (alone_given who state s J e x h)

alone_meets : (who : Who) (state now : State) (s : Statement) (J : Journal) (e : Event) (x : RowsEnd) (bytes : List ℕ) → RowsAs who state s J e x → bytes ≡ packets (rows_reply state x) → now ≡ state
    → Meets (changed_rows who state (effect s (base state J) state.db state.session)) e bytes now
alone_meets who state now s J e (rows.Refused error) bytes h reply is = given_meets (changed_rows who state (effect s (base state J) state.db state.session)) e (refused error) state now bytes h.1 reply is
alone_meets who state now s J e (rows.Changes n) bytes h reply is = given_meets (changed_rows who state (effect s (base state J) state.db state.session)) e (ok_reply state n) state now bytes h reply is

pub rows_meet : (who : Who) (state now : State) (s : Statement) (J : Journal) (e : Event) (x : RowsEnd) (bytes : List ℕ) → changes_rows s ≡ true → state.transaction ≡ None → state.autocommit ≡ true → RowsAs who state s J e x → bytes ≡ packets (rows_reply state x) → now ≡ state
    → Meets (rows_given who state s J) e bytes now
rows_meet who state now s J e x bytes kind closed auto h reply is =
    subst (λ (a : State). Meets (changed_rows who a (effect s (base a J) a.db a.session)) e bytes now) (sym (arrived_alone (length J + 1) s state kind closed auto)) (alone_meets who state now s J e x bytes h reply is)

-- ---- a statement that makes, empties or drops something

abbrev pub left_state : FormsEnd → State → State
left_state (forms.Refused x) state = state
left_state _ state = with_transaction state None

pub forms_of : (who : Who) (state : State) (s : Statement) (J : Journal) (e : Event) (x : FormsEnd) → FormsAs who state s J e x → IsOf who e
forms_of who state s J e forms.Conflict h = given_of who state.session (changed_form who state J s) e (refused write_conflict) (with_transaction state None) h (forms_own who J state s)
forms_of who state s J e (forms.Full t) h = given_of who state.session (changed_form who state J s) e (refused (table_full t)) (with_transaction state None) h.1 (forms_own who J state s)
forms_of who state s J e (forms.Refused x) h = given_of who state.session (changed_form who state J s) e (refused x) state h.1 (forms_own who J state s)
forms_of who state s J e (forms.Changes n) h = given_of who state.session (changed_form who state J s) e (ok_reply (with_transaction state None) n) (with_transaction state None) h (forms_own who J state s)

pub forms_given : (who : Who) (state : State) (s : Statement) (J : Journal) (e : Event) (x : FormsEnd) → FormsAs who state s J e x → e ≡ (changed_form who state J s).event
forms_given who state s J e forms.Conflict h = h.event
forms_given who state s J e (forms.Full t) h = h.1.event
forms_given who state s J e (forms.Refused x) h = h.1.event
forms_given who state s J e (forms.Changes n) h = h.event

pub forms_meet : (who : Who) (state now : State) (s : Statement) (J : Journal) (e : Event) (x : FormsEnd) (bytes : List ℕ) → FormsAs who state s J e x → bytes ≡ packets (forms_reply now x) → now ≡ left_state x state → Meets (changed_form who state J s) e bytes now
forms_meet who state now s J e forms.Conflict bytes h reply is = given_meets (changed_form who state J s) e (refused write_conflict) (with_transaction state None) now bytes h reply is
forms_meet who state now s J e (forms.Full t) bytes h reply is = given_meets (changed_form who state J s) e (refused (table_full t)) (with_transaction state None) now bytes h.1 reply is
forms_meet who state now s J e (forms.Refused x) bytes h reply is = given_meets (changed_form who state J s) e (refused x) state now bytes h.1 reply is
forms_meet who state now s J e (forms.Changes n) bytes h reply is =
    given_meets (changed_form who state J s) e (ok_reply (with_transaction state None) n) (with_transaction state None) now bytes h (reply ∙ ap (λ (y : State). packets (ok_reply y n)) is) is

-- ---- a command that changes nothing which a session sees

-- it says nothing of what it did
pub other_gives : (t : Turn ServerState Event) (old new : Session) (bytes : List ℕ) (r : Reply) → Logs t old new (λ journal e. e ≡ event.Run (next_who old) how.Other) → IsAtRest t old → new.state ≡ old.state → bytes ≡ packets r
    → GivesOut t old new bytes (λ journal. other (next_who old) old.state.state r)
other_gives t old new bytes r logs rest state reply =
    let d = logs.decides in
    same_gives t old new bytes (λ journal. other (next_who old) old.state.state r) (λ journal e. e ≡ event.Run (next_who old) how.Other) logs rest state (other_own (next_who old) old.state.state r) (record { event = d.is_so; reply = reply; state = refl })

-- it has an event of its own kind, and answers OK
pub noted_of : (n : Note) (who : Who) → IsOf who (noted n who)
noted_of note.Flush who = record { other = refl; by = refl }
noted_of note.Reset who = record { other = refl; by = refl }
noted_of note.Other who = record { other = refl; by = refl }

pub event_gives : (t : Turn ServerState Event) (old new : Session) (bytes : List ℕ) (e : Event) → Logs t old new (λ journal x. x ≡ e) → IsOf (next_who old) e → IsAtRest t old → new.state ≡ old.state → bytes ≡ packets (ok_reply old.state.state 0)
    → GivesOut t old new bytes (λ journal. event_given e old.state.state)
event_gives t old new bytes e logs of rest state reply =
    let d = logs.decides in
    same_gives t old new bytes (λ journal. event_given e old.state.state) (λ journal x. x ≡ e) logs rest state (record { event = of; session = refl }) (record { event = d.is_so; reply = reply; state = refl })

-- what SHOW STATUS was told
abbrev pub IsStatus : Who → Totals → Counters → Journal → Event → Type 0
IsStatus who t c J e = (e ≡ event.Run who (how.Status t)) × (c ≡ counters J)

pub status_of_it : (who : Who) (t : Totals) (c : Counters) (J : Journal) (e : Event) → IsStatus who t c J e → IsOf who e
status_of_it who t c J e so = subst (IsOf who) (sym so.0) (record { other = refl; by = refl })

pub status_gives : (t : Turn ServerState Event) (old new : Session) (bytes : List ℕ) (x : Totals) (c : Counters) → Logs t old new (IsStatus (next_who old) x c) → IsAtRest t old → new.state ≡ old.state → bytes ≡ packets (status_reply new.state.state c x)
    → GivesOut t old new bytes (status_given (next_who old) old.state.state x)
status_gives t old new bytes x c logs rest state reply =
    let d = logs.decides in
    let so : IsStatus (next_who old) x c d.journal d.event = d.is_so in
    same_gives t old new bytes (status_given (next_who old) old.state.state x) (IsStatus (next_who old) x c) logs rest state (record { event = record { other = refl; by = refl }; session = refl })
    (record { event = so.0; reply = reply ∙ (λ i. let y : SnapshotState = state i in packets (status_reply y.state (so.1 i) x)); state = refl })

-- memory lacked behind it
pub status_stop : (t : Turn ServerState Event) (old new : Session) (x : Totals) (c : Counters) → Logs t old new (IsStatus (next_who old) x c) → number_of new ≡ number_of old
    → Stops t old new (λ journal e. (y : Totals) × IsGivenBy (status_given (next_who old) old.state.state y) journal e)
status_stop t old new x c logs session =
    let d = logs.decides in
    stops_as t old new (IsStatus (next_who old) x c) (λ journal e. (y : Totals) × IsGivenBy (status_given (next_who old) old.state.state y) journal e) (λ J e h. (x, h.0))
    (event_stops t old new (IsStatus (next_who old) x c) logs (status_of_it (next_who old) x c d.journal d.event d.is_so) session)

-- ---- a command that decides

pub ends_give : (t : Turn ServerState Event) (old new : Session) (x : Ended) (next : State) (bytes : List ℕ) → Logs t old new (λ journal e. EndsAs (next_who old) old.state.state journal e x) → IsAtRest t new → next.session ≡ number_of old → bytes ≡ packets (ended_reply new.state.state x)
    → new.state.state ≡ ended_state x old.state.state next → GivesOut t old new bytes (λ journal. ended_with (next_who old) old.state.state journal next)
ends_give t old new x next bytes logs rest session reply state =
    let d = logs.decides in
    gives_out t old new bytes (λ journal. ended_with (next_who old) old.state.state journal next) (λ journal e. EndsAs (next_who old) old.state.state journal e x) logs rest (ended_own (next_who old) d.journal old.state.state next session)
    (ends_meet (next_who old) old.state.state next new.state.state d.journal d.event x bytes d.is_so reply state)

pub rows_give : (t : Turn ServerState Event) (old new : Session) (s : Statement) (x : RowsEnd) (bytes : List ℕ) → Logs t old new (λ journal e. RowsAs (next_who old) old.state.state s journal e x) → IsAtRest t old → new.state ≡ old.state → changes_rows s ≡ true
    → old.state.state.transaction ≡ None → old.state.state.autocommit ≡ true → bytes ≡ packets (rows_reply old.state.state x) → GivesOut t old new bytes (rows_given (next_who old) old.state.state s)
rows_give t old new s x bytes logs rest state kind closed auto reply =
    let d = logs.decides in
    let who : Who = next_who old in
    let now : State = old.state.state in
    let J : Journal = d.journal in
    let a : State = arrived (length J + 1) s now in
    let at : a ≡ now = arrived_alone (length J + 1) s now kind closed auto in
    let own : IsOwn who now.session (rows_given who now s J) = subst (λ (y : State). IsOwn who y.session (rows_given who now s J)) at (rows_own who a (effect s (base a J) a.db a.session)) in
    same_gives t old new bytes (rows_given who now s) (λ journal e. RowsAs who now s journal e x) logs rest state own (rows_meet who now now s J d.event x bytes kind closed auto d.is_so reply refl)

forms_rest : (t : Turn ServerState Event) (old new : Session) (IsSo : Journal → Event → Type 0) (x : FormsEnd) → Logs t old new IsSo → IsAtRest t old → new.state ≡ forms_state x old.state → IsAtRest t new
forms_rest t old new IsSo forms.Conflict logs rest is = rest_ended t old new IsSo rest logs is
forms_rest t old new IsSo (forms.Full n) logs rest is = rest_ended t old new IsSo rest logs is
forms_rest t old new IsSo (forms.Refused e) logs rest is = rest_same t old new IsSo rest logs is
forms_rest t old new IsSo (forms.Changes n) logs rest is = rest_ended t old new IsSo rest logs is

forms_left : (x : FormsEnd) (s : SnapshotState) → (forms_state x s).state ≡ left_state x s.state
forms_left forms.Conflict s = refl
forms_left (forms.Full n) s = refl
forms_left (forms.Refused e) s = refl
forms_left (forms.Changes n) s = refl

pub forms_give : (t : Turn ServerState Event) (old new : Session) (s : Statement) (x : FormsEnd) (bytes : List ℕ) → Logs t old new (λ journal e. FormsAs (next_who old) old.state.state s journal e x) → IsAtRest t old → new.state ≡ forms_state x old.state
    → bytes ≡ packets (forms_reply new.state.state x) → GivesOut t old new bytes (λ journal. changed_form (next_who old) old.state.state journal s)
forms_give t old new s x bytes logs rest state reply =
    let d = logs.decides in
    let IsSo : Journal → Event → Type 0 = λ journal e. FormsAs (next_who old) old.state.state s journal e x in
    let left : new.state.state ≡ left_state x old.state.state = ap (λ (y : SnapshotState). y.state) state ∙ forms_left x old.state in
    gives_out t old new bytes (λ journal. changed_form (next_who old) old.state.state journal s) IsSo logs (forms_rest t old new IsSo x logs rest state) (forms_own (next_who old) d.journal old.state.state s)
    (forms_meet (next_who old) old.state.state new.state.state s d.journal d.event x bytes d.is_so reply left)

pub forms_fit : (who : Who) (state : State) (s : Statement) (J : Journal) (e : Event) (x : FormsEnd) → FormsAs who state s J e x → FormsFit x
forms_fit who state s J e forms.Conflict h = tt
forms_fit who state s J e (forms.Full n) h = h.0
forms_fit who state s J e (forms.Refused error) h = h.0
forms_fit who state s J e (forms.Changes n) h = tt

-- ---- the same of a reply that may fail

pub rows_out : (t : Turn ServerState Event) (old new : Session) (s : Statement) (x : RowsEnd) {F : Type 0} (r : Result (List ℕ) F) → Logs t old new (λ journal e. RowsAs (next_who old) old.state.state s journal e x) → IsAtRest t old → new.state ≡ old.state → changes_rows s ≡ true
    → old.state.state.transaction ≡ None → old.state.state.autocommit ≡ true → IfOk r (λ bytes. bytes ≡ packets (rows_reply new.state.state x)) → IfOk r (λ bytes. GivesOut t old new bytes (rows_given (next_who old) old.state.state s))
rows_out t old new s x r logs rest state kind closed auto reply =
    if_ok (λ (bytes : List ℕ). bytes ≡ packets (rows_reply new.state.state x)) (λ (bytes : List ℕ). GivesOut t old new bytes (rows_given (next_who old) old.state.state s))
    (λ bytes h. rows_give t old new s x bytes logs rest state kind closed auto (h ∙ ap (λ (z : SnapshotState). packets (rows_reply z.state x)) state)) r reply

pub rows_stop : (t : Turn ServerState Event) (old new : Session) (s : Statement) (x : RowsEnd) → Logs t old new (λ journal e. RowsAs (next_who old) old.state.state s journal e x) → new.state ≡ old.state → changes_rows s ≡ true
    → old.state.state.transaction ≡ None → old.state.state.autocommit ≡ true → Stops t old new (IsGivenBy (rows_given (next_who old) old.state.state s))
rows_stop t old new s x logs state kind closed auto =
    let d = logs.decides in
    let IsSo : Journal → Event → Type 0 = λ journal e. RowsAs (next_who old) old.state.state s journal e x in
    stops_as t old new IsSo (IsGivenBy (rows_given (next_who old) old.state.state s)) (λ J e h. rows_given_at (next_who old) old.state.state s J e x kind closed auto h)
    (event_stops t old new IsSo logs (rows_of (next_who old) old.state.state s d.journal d.event x d.is_so) (ap (λ (z : SnapshotState). z.state.session) state))

pub forms_out : (t : Turn ServerState Event) (old new : Session) (s : Statement) (x : FormsEnd) {F : Type 0} (r : Result (List ℕ) F) → Logs t old new (λ journal e. FormsAs (next_who old) old.state.state s journal e x) → IsAtRest t old → new.state ≡ forms_state x old.state
    → IfOk r (λ bytes. bytes ≡ packets (forms_reply new.state.state x)) → IfOk r (λ bytes. GivesOut t old new bytes (λ journal. changed_form (next_who old) old.state.state journal s))
forms_out t old new s x r logs rest state reply =
    if_ok (λ (bytes : List ℕ). bytes ≡ packets (forms_reply new.state.state x)) (λ (bytes : List ℕ). GivesOut t old new bytes (λ journal. changed_form (next_who old) old.state.state journal s))
    (λ bytes h. forms_give t old new s x bytes logs rest state h) r reply

pub forms_fits : (t : Turn ServerState Event) (old new : Session) (s : Statement) (x : FormsEnd) → Logs t old new (λ journal e. FormsAs (next_who old) old.state.state s journal e x) → FormsFit x
forms_fits t old new s x logs = let d = logs.decides in forms_fit (next_who old) old.state.state s d.journal d.event x d.is_so

rows_fit : (who : Who) (state : State) (s : Statement) (J : Journal) (e : Event) (x : RowsEnd) → RowsAs who state s J e x → RowsFit x
rows_fit who state s J e (rows.Refused error) h = h.0
rows_fit who state s J e (rows.Changes n) h = tt

pub rows_fits : (t : Turn ServerState Event) (old new : Session) (s : Statement) (x : RowsEnd) → Logs t old new (λ journal e. RowsAs (next_who old) old.state.state s journal e x) → RowsFit x
rows_fits t old new s x logs = let d = logs.decides in rows_fit (next_who old) old.state.state s d.journal d.event x d.is_so

forms_session : (x : FormsEnd) (s : SnapshotState) → (forms_state x s).state.session ≡ s.state.session
forms_session forms.Conflict s = refl
forms_session (forms.Full n) s = refl
forms_session (forms.Refused e) s = refl
forms_session (forms.Changes n) s = refl

pub forms_stop : (t : Turn ServerState Event) (old new : Session) (s : Statement) (x : FormsEnd) → Logs t old new (λ journal e. FormsAs (next_who old) old.state.state s journal e x) → new.state ≡ forms_state x old.state
    → Stops t old new (IsGivenBy (λ journal. changed_form (next_who old) old.state.state journal s))
forms_stop t old new s x logs state =
    let d = logs.decides in
    let IsSo : Journal → Event → Type 0 = λ journal e. FormsAs (next_who old) old.state.state s journal e x in
    stops_as t old new IsSo (IsGivenBy (λ journal. changed_form (next_who old) old.state.state journal s)) (λ J e h. forms_given (next_who old) old.state.state s J e x h)
    (event_stops t old new IsSo logs (forms_of (next_who old) old.state.state s d.journal d.event x d.is_so) (ap (λ (z : SnapshotState). z.state.session) state ∙ forms_session x old.state))
