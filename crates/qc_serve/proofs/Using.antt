-- A command that shares the database that its event meets: USE, and a statement on rows in a transaction.
use Rattle.std.proofs.Common.{◌≡◌, ℕ, ◌+◌, Bool, true, false, cond, List, [], ◌∷◌, ◌++◌, length, refl, sym, ap, ◌∙◌, subst, arith, length-append, Option, None, Some, Result, Ok, Err, OnOk, true≢false}
use Rattle.std.specs.Prelude.{IfOk, IsSomeAnd, is_some, option_and_then, option_map, unwrap_or}
use Rattle.qc_types.specs.declared.sql_error.SqlError.{SqlError}
use Rattle.qc_sql.specs.declared.statements.Statement.{Statement}
use Rattle.qc_sql.specs.declared.statements.Statement.TheVariants as statement
use Rattle.qc_sql.specs.declared.tables.RowOp.{RowOp}
use Rattle.qc_sql.specs.Database.{Database, Name, apply, tables_of}
use Rattle.qc_sql.specs.Errors.{unknown_database}
use Rattle.qc_sql.specs.Effects.{Effect, effect}
use Rattle.qc_sql.specs.Packets.{packets}
use Rattle.qc_laws.specs.sizes.Names.{is_short_statement}
use Rattle.qc_laws.specs.sizes.Replies.{FitsError}
use Rattle.qc_model.specs.declared.events.Event.{Event}
use Rattle.qc_model.specs.declared.events.Event.TheVariants as event
use Rattle.qc_model.specs.declared.events.How.TheVariants as how
use Rattle.qc_model.specs.declared.events.Who.{Who}
use Rattle.qc_model.specs.Journal.{Journal, operations, present}
use Rattle.qc_model.specs.Licence.{ops_fit}
use Rattle.qc_model.specs.Machine.{Given, changed_rows, full_table, ok_reply, refused, used}
use Rattle.qc_model.specs.Session.{State, Transaction, arrived, base, opened, own_operations, snapshot_of, snapshot_taken}
use Rattle.qc_trx.specs.SnapshotStates.{MayAdd, SnapshotState, added, in_database, seen_on, with_operations}
use Rattle.qc_statements.specs.Sound.{AreOwn, IsFitAt, IsFitIn, IsFitState, IsPast, arrived_snapshot_state}
use Rattle.qc_statements.specs.Statements.{changes_rows, chosen}
use Rattle.qc_statements.proofs.Choices.{chosen_fits, not_chosen, view_is}
use Rattle.qc_statements.proofs.Keeping.{added_room, effect_refused, rows_own as rows_are_own}
use Rattle.qc_statements.proofs.States.{base_is, fit_added, fit_arrived, fit_more}
use Rattle.qc_turn.specs.declared.turn.Turn.{Turn}
use Rattle.qc_core.specs.declared.server_state.ServerState.{ServerState}
use Rattle.qc_serve.specs.declared.session.Session.{Session}
use Rattle.qc_serve.specs.Ends.{Makes}
use Rattle.qc_serve.specs.Going.{GivesOut, IsAtRest, IsGivenBy, Logs, Stops, next_who, number_of, rows_given, runs_in_transaction, seen_by}
use Rattle.qc_serve.proofs.Givens.{IsOf, IsOwn, changed_run, rows_own, used_own, used_run}
use Rattle.qc_serve.proofs.Meeting.{run_of}
use Rattle.qc_serve.proofs.Resting.{decided_on, event_of, event_stops, fit_taken, gives_out, journal_of, logs_moved, past_later, rest_with, stops_as}
use Rattle.qc_statements.proofs.Calls.{if_ok}

-- what is so of the event of such a command
abbrev pub IsShared : Who → Database → Journal → Event → Type 0
IsShared who d J e = (e ≡ event.Run who how.Other) × Makes J d

pub shared_of : (who : Who) (d : Database) (J : Journal) (e : Event) → IsShared who d J e → IsOf who e
shared_of who d J e so = run_of who e so.0

-- a state that fits the journal as it was taken fits the journal with the event
pub fit_behind : (t : Turn ServerState Event) (old new : Session) (d : Database) (logs : Logs t old new (IsShared (next_who old) d)) (x : SnapshotState) → IsFitState (journal_of t old new (IsShared (next_who old) d) logs) x → IsFitState (seen_by new) x
fit_behind t old new d logs x fit =
    let g = logs.decides in
    let so = g.is_so in
    subst (λ (j : Journal). IsFitState j x) (sym g.events) (fit_more g.journal g.event x (ap operations so.0) fit)

-- memory lacked behind it
pub shared_stop : (t : Turn ServerState Event) (old mid new : Session) (d : Database) (given : Journal → Given) → ((J : Journal) → (given J).event ≡ event.Run (next_who old) how.Other) → Logs t old mid (IsShared (next_who old) d) → new ≡ record mid { state = new.state }
    → number_of new ≡ number_of old → Stops t old new (IsGivenBy given)
shared_stop t old mid new d given run logs is session =
    let IsSo : Journal → Event → Type 0 = IsShared (next_who old) d in
    let moved : Logs t old new IsSo = logs_moved t old mid new IsSo logs is in
    let h = moved.decides in
    stops_as t old new IsSo (IsGivenBy given) (λ J e so. so.0 ∙ sym (run J)) (event_stops t old new IsSo moved (shared_of (next_who old) d h.journal h.event h.is_so) session)

-- ---- USE

use_past : (t : Turn ServerState Event) (old new : Session) (IsSo : Journal → Event → Type 0) → IsAtRest t old → Logs t old new IsSo → IsPast (seen_by new) (snapshot_of old.state.state)
use_past t old new IsSo rest logs = past_later (seen_by old) (seen_by new) (snapshot_of old.state.state) (decided_on (number_of old) (seen_by old) (seen_by new) IsSo logs.decides) rest.past

-- the database is seen
pub use_gives : (t : Turn ServerState Event) (old new : Session) (d : Database) (name : Name) (bytes : List ℕ) → IsAtRest t old → Logs t old new (IsShared (next_who old) d) → chosen name d old.state ≡ Ok new.state → bytes ≡ packets (ok_reply new.state.state 0)
    → GivesOut t old new bytes (λ journal. used (next_who old) old.state.state journal name)
use_gives t old new d name bytes rest logs is reply =
    let IsSo : Journal → Event → Type 0 = IsShared (next_who old) d in
    let g = logs.decides in
    let J : Journal = g.journal in
    let so : IsSo J g.event = g.is_so in
    let made = so.1 in
    let c = chosen_fits {o = made.0} (next_who old) J d old.state new.state name made.1 (fit_taken t old J rest g.goes_on) is in
    let session : number_of new ≡ number_of old = ap (λ (x : SnapshotState). x.state.session) c.is in
    let past : IsPast (seen_by new) (snapshot_of new.state.state) = subst (λ (x : SnapshotState). IsPast (seen_by new) (snapshot_of x.state)) (sym c.is) (use_past t old new IsSo rest logs) in
    gives_out t old new bytes (λ journal. used (next_who old) old.state.state journal name) IsSo logs
    (rest_with t old new rest logs.rests logs.options session (omega (arith, logs.place)) (fit_behind t old new d logs new.state c.fit) past)
    (used_own (next_who old) J old.state.state name)
    (record { event = so.0 ∙ ap (λ (x : Given). x.event) c.given; reply = reply ∙ ap (λ (x : Given). packets x.reply) c.given; state = ap (λ (x : Given). x.next) c.given })

-- it isn't
pub use_refused : (t : Turn ServerState Event) (old new : Session) (d : Database) (name : Name) (e : SqlError) (bytes : List ℕ) → IsAtRest t old → Logs t old new (IsShared (next_who old) d) → chosen name d old.state ≡ Err e → new.state ≡ old.state → bytes ≡ packets (refused e)
    → GivesOut t old new bytes (λ journal. used (next_who old) old.state.state journal name)
use_refused t old new d name e bytes rest logs is state reply =
    let IsSo : Journal → Event → Type 0 = IsShared (next_who old) d in
    let g = logs.decides in
    let J : Journal = g.journal in
    let so : IsSo J g.event = g.is_so in
    let made = so.1 in
    let fit : IsFitState J old.state = fit_taken t old J rest g.goes_on in
    let given = (not_chosen {o = made.0} (next_who old) J d old.state name e made.1 fit is).0 in
    let past : IsPast (seen_by new) (snapshot_of new.state.state) = subst (λ (x : SnapshotState). IsPast (seen_by new) (snapshot_of x.state)) (sym state) (use_past t old new IsSo rest logs) in
    gives_out t old new bytes (λ journal. used (next_who old) old.state.state journal name) IsSo logs
    (rest_with t old new rest logs.rests logs.options (ap (λ (x : SnapshotState). x.state.session) state) (omega (arith, logs.place)) (subst (IsFitState (seen_by new)) (sym state) (fit_behind t old new d logs old.state fit)) past)
    (used_own (next_who old) J old.state.state name)
    (record { event = so.0 ∙ ap (λ (x : Given). x.event) given; reply = reply ∙ ap (λ (x : Given). packets x.reply) given; state = ap (λ (x : SnapshotState). x.state) state ∙ ap (λ (x : Given). x.next) given })

-- and the refusal fits a packet
pub use_fits : (t : Turn ServerState Event) (old new : Session) (d : Database) (name : Name) (e : SqlError) → IsAtRest t old → Logs t old new (IsShared (next_who old) d) → new.state ≡ old.state → chosen name d new.state ≡ Err e → FitsError e
use_fits t old new d name e rest logs same refusal =
    let is : chosen name d old.state ≡ Err e = ap (chosen name d) (sym same) ∙ refusal in
    let g = logs.decides in
    let so = g.is_so in
    let made = so.1 in
    (not_chosen {o = made.0} (next_who old) g.journal d old.state name e made.1 (fit_taken t old g.journal rest g.goes_on) is).1

-- the session's number stays
pub choice_session : (old mid : Session) (d : Database) (name : Name) (x : SnapshotState) → mid.state ≡ old.state → chosen name d mid.state ≡ Ok x → x.state.session ≡ number_of old
choice_session old mid d name x same is = by (is_some (tables_of name (seen_on d mid.state))) is
  where
    by : (b : Bool) → cond b (Ok (in_database name mid.state)) (Err (unknown_database name)) ≡ Ok x → x.state.session ≡ number_of old
    by true h = let there : in_database name mid.state ≡ x = cc in ap (λ (y : SnapshotState). y.state.session) (sym there) ∙ ap (λ (y : SnapshotState). y.state.session) same
    by false h = absurd cc

pub kept_session : (old mid : Session) (x : SnapshotState) → mid.state ≡ old.state → x ≡ mid.state → x.state.session ≡ number_of old
kept_session old mid x same is = ap (λ (y : SnapshotState). y.state.session) (is ∙ same)

-- memory lacked
pub use_stops : (t : Turn ServerState Event) (old mid : Session) (d : Database) (name : Name) (x : SnapshotState) → Logs t old mid (IsShared (next_who old) d) → x.state.session ≡ number_of old
    → Stops t old (record mid { state = x }) (IsGivenBy (λ journal. used (next_who old) old.state.state journal name))
use_stops t old mid d name x logs session =
    shared_stop t old mid (record mid { state = x }) d (λ journal. used (next_who old) old.state.state journal name) (λ J. used_run (next_who old) J old.state.state name) logs refl session

-- the same of the session as it is when the event has come, whose state is then changed
pub use_give : (t : Turn ServerState Event) (old mid : Session) (d : Database) (name : Name) (x : SnapshotState) {E : Type 0} (r : Result (List ℕ) E) → IsAtRest t old → Logs t old mid (IsShared (next_who old) d) → mid.state ≡ old.state → chosen name d mid.state ≡ Ok x
    → IfOk r (λ bytes. bytes ≡ packets (ok_reply x.state 0)) → IfOk r (λ bytes. GivesOut t old (record mid { state = x }) bytes (λ journal. used (next_who old) old.state.state journal name))
use_give t old mid d name x r rest logs same is reply =
    let IsSo : Journal → Event → Type 0 = IsShared (next_who old) d in
    let new : Session = record mid { state = x } in
    let there : chosen name d old.state ≡ Ok x = ap (chosen name d) (sym same) ∙ is in
    if_ok (λ (bytes : List ℕ). bytes ≡ packets (ok_reply x.state 0)) (λ (bytes : List ℕ). GivesOut t old new bytes (λ journal. used (next_who old) old.state.state journal name))
    (λ bytes e. use_gives t old new d name bytes rest (logs_moved t old mid new IsSo logs refl) there e) r reply

pub use_refuse : (t : Turn ServerState Event) (old mid : Session) (d : Database) (name : Name) (x : SnapshotState) (e : SqlError) {E : Type 0} (r : Result (List ℕ) E) → IsAtRest t old → Logs t old mid (IsShared (next_who old) d) → mid.state ≡ old.state → chosen name d mid.state ≡ Err e
    → x ≡ mid.state → IfOk r (λ bytes. bytes ≡ packets (refused e)) → IfOk r (λ bytes. GivesOut t old (record mid { state = x }) bytes (λ journal. used (next_who old) old.state.state journal name))
use_refuse t old mid d name x e r rest logs same is unchanged reply =
    let IsSo : Journal → Event → Type 0 = IsShared (next_who old) d in
    let new : Session = record mid { state = x } in
    let there : chosen name d old.state ≡ Err e = ap (chosen name d) (sym same) ∙ is in
    if_ok (λ (bytes : List ℕ). bytes ≡ packets (refused e)) (λ (bytes : List ℕ). GivesOut t old new bytes (λ journal. used (next_who old) old.state.state journal name))
    (λ bytes h. use_refused t old new d name e bytes rest (logs_moved t old mid new IsSo logs refl) there (unchanged ∙ same) h) r reply

-- ---- a statement on rows, in a transaction

pub none_is : {A : Type 0} (o : Option A) → is_some o ≡ false → o ≡ None
none_is None h = refl
none_is (Some x) h = absurd (true≢false h)

-- a transaction is open when it has arrived
opened_there : (state : State) → runs_in_transaction state ≡ true → (x : Transaction) × (opened state ≡ Some x)
opened_there state h = by state.transaction state.autocommit refl refl
  where
    by : (o : Option Transaction) (b : Bool) → state.transaction ≡ o → state.autocommit ≡ b → (x : Transaction) × (opened state ≡ Some x)
    by (Some x) b t a = (x, rw t refl)
    by None true t a = absurd (true≢false (sym h ∙ rw (t, a) refl))
    by None false t a = (record { snapshot = None; operations = [] }, rw (t, a) refl)

-- when it has arrived, a transaction is open that has a snapshot
pub record IsOpened (x : SnapshotState) : Type 0 where
  pub transaction : Transaction
  pub is : x.state.transaction ≡ Some transaction
  pub snapshot : is_some transaction.snapshot ≡ true

snapshot_there : (place : ℕ) (x : Transaction) → is_some (snapshot_taken place x).snapshot ≡ true
snapshot_there place x = by x.snapshot refl
  where
    by : (o : Option ℕ) → x.snapshot ≡ o → is_some (snapshot_taken place x).snapshot ≡ true
    by (Some p) h = rw h refl
    by None h = rw h refl

pub arrived_opened : (place : ℕ) (d : Database) (x : SnapshotState) → runs_in_transaction x.state ≡ true → IsOpened (arrived_snapshot_state place d x)
arrived_opened place d x h =
    let o = opened_there x.state h in
    record { transaction = snapshot_taken place o.0; is = ap (option_map (snapshot_taken place)) o.1; snapshot = snapshot_there place o.0 }

origin_by : (J : Journal) (x : Transaction) (origin : Option Database) → is_some x.snapshot ≡ true → IsFitIn J origin (Some x) → is_some origin ≡ true
origin_by J x origin there fit = by x.snapshot refl
  where
    by : (o : Option ℕ) → x.snapshot ≡ o → is_some origin ≡ true
    by None h = absurd (true≢false (sym there ∙ ap is_some h))
    by (Some p) h = let f = subst (λ (o : Option ℕ). IsFitAt J origin o x.operations) h fit in ap is_some f.is

-- and with it the database at the snapshot
pub origin_there : (J : Journal) (x : SnapshotState) → IsOpened x → IsFitState J x → is_some x.origin ≡ true
origin_there J x o fit = origin_by J o.transaction x.origin o.snapshot (subst (λ (t : Option Transaction). IsFitIn J x.origin t) o.is fit.transaction)

may_by : (ops own : List RowOp) (origin : Option Database) (now : Database) → is_some origin ≡ true → ops_fit ops (apply own (unwrap_or origin now)) ≡ true → IsSomeAnd origin (λ d. ops_fit ops (apply own d) ≡ true)
may_by ops own (Some d) now there h = h
may_by ops own None now there h = absurd (true≢false (sym there))

-- what the statement does may be added
pub adds : (J : Journal) (x : SnapshotState) (ops : List RowOp) → is_some x.origin ≡ true → IsFitState J x → AreOwn ops (base x.state J) → MayAdd ops x
adds J x ops there fit own =
    let follow = own.follow in
    may_by ops (own_operations x.state) x.origin (present J) there (subst (λ (d : Database). ops_fit ops d ≡ true) (sym (base_is J x fit)) follow.fit)

-- the state in which it is validated
pub arrived_is : (place : ℕ) (d : Database) (s : Statement) (x : SnapshotState) → changes_rows s ≡ true → (arrived_snapshot_state place d x).state ≡ arrived place s x.state
arrived_is place d (statement.Insert i) x h = refl
arrived_is place d (statement.Update u) x h = refl
arrived_is place d (statement.Delete e) x h = refl
arrived_is place d s x h = absurd (true≢false (sym h))

changed_in : (who : Who) (x : SnapshotState) (o : IsOpened x) (e : Effect)
    → record { event = event.Run who how.Other; reply = ok_reply (added e.operations x).state e.affected; next = (added e.operations x).state } ≡ changed_rows who x.state (Ok e)
changed_in who x o e = rw o.is refl

-- the journal behind a transaction's statement, and its state
pub own_past : (t : Turn ServerState Event) (old new : Session) (d : Database) (logs : Logs t old new (IsShared (next_who old) d)) (p : Option ℕ) → IsPast (journal_of t old new (IsShared (next_who old) d) logs ++ event_of t old new (IsShared (next_who old) d) logs ∷ []) p → IsPast (seen_by new) p
own_past t old new d logs p h = let g = logs.decides in subst (λ (j : Journal). IsPast j p) (sym g.events) h

past_at : (J : Journal) (e : Event) (x : Transaction) (origin : Option Database) → IsFitIn J origin (Some x) → IsPast (J ++ e ∷ []) x.snapshot
past_at J e x origin fit = by x.snapshot refl
  where
    by : (o : Option ℕ) → x.snapshot ≡ o → IsPast (J ++ e ∷ []) x.snapshot
    by None h = subst (IsPast (J ++ e ∷ [])) (sym h) tt
    by (Some p) h = let f = subst (λ (o : Option ℕ). IsFitAt J origin o x.operations) h fit in subst (IsPast (J ++ e ∷ [])) (sym h) (omega (arith, f.most, length-append J (e ∷ [])))

past_in : (J : Journal) (e : Event) (x : SnapshotState) → IsOpened x → IsFitState J x → IsPast (J ++ e ∷ []) (snapshot_of x.state)
past_in J e x o fit =
    subst (λ (t : Option Transaction). IsPast (J ++ e ∷ []) (option_and_then (λ y. y.snapshot) t)) (sym o.is) (past_at J e o.transaction x.origin (subst (λ (t : Option Transaction). IsFitIn J x.origin t) o.is fit.transaction))

added_opened : (ops : List RowOp) (x : SnapshotState) → IsOpened x → IsOpened (added ops x)
added_opened ops x o = record { transaction = with_operations ops o.transaction; is = ap (option_map (with_operations ops)) o.is; snapshot = o.snapshot }

-- ---- what such a statement gives

own_given : (who : Who) (state : State) (s : Statement) (J : Journal) → changes_rows s ≡ true → IsOwn who state.session (rows_given who state s J)
own_given who state (statement.Insert i) J h = let s = statement.Insert i in let a = arrived (length J + 1) s state in rows_own who a (effect s (base a J) a.db a.session)
own_given who state (statement.Update u) J h = let s = statement.Update u in let a = arrived (length J + 1) s state in rows_own who a (effect s (base a J) a.db a.session)
own_given who state (statement.Delete d) J h = let s = statement.Delete d in let a = arrived (length J + 1) s state in rows_own who a (effect s (base a J) a.db a.session)
own_given who state s J h = absurd (true≢false (sym h))

-- it says nothing of what it did
own_run : (who : Who) (state : State) (s : Statement) (J : Journal) → changes_rows s ≡ true → runs_in_transaction state ≡ true → (rows_given who state s J).event ≡ event.Run who how.Other
own_run who state s J kind runs =
    let n : ℕ = length J + 1 in
    let x : SnapshotState = record { state = state; origin = None } in
    let a : State = arrived n s state in
    let o = arrived_opened n [] x runs in
    changed_run who a o.transaction (effect s (base a J) a.db a.session) (ap (λ (y : State). y.transaction) (sym (arrived_is n [] s x kind)) ∙ o.is)

-- memory lacked behind it
pub own_stop : (t : Turn ServerState Event) (old mid new : Session) (d : Database) (s : Statement) → Logs t old mid (IsShared (next_who old) d) → changes_rows s ≡ true → runs_in_transaction old.state.state ≡ true → new ≡ record mid { state = new.state } → number_of new ≡ number_of old
    → Stops t old new (IsGivenBy (rows_given (next_who old) old.state.state s))
own_stop t old mid new d s logs kind runs is session =
    shared_stop t old mid new d (rows_given (next_who old) old.state.state s) (λ J. own_run (next_who old) old.state.state s J kind runs) logs is session

-- the state when it has arrived: what it is, that it fits, and what it sees
pub record HasArrived (t : Turn ServerState Event) (old new : Session) (d : Database) (logs : Logs t old new (IsShared (next_who old) d)) (x : SnapshotState) : Type 0 where
  pub is : x ≡ arrived_snapshot_state (length (journal_of t old new (IsShared (next_who old) d) logs) + 1) d old.state
  pub fit : IsFitState (journal_of t old new (IsShared (next_who old) d) logs) x
  pub view : seen_on d x ≡ base x.state (journal_of t old new (IsShared (next_who old) d) logs)
  pub opened : IsOpened x
  pub there : is_some x.origin ≡ true

pub has_arrived : (t : Turn ServerState Event) (old new : Session) (d : Database) (logs : Logs t old new (IsShared (next_who old) d)) (x : SnapshotState) → IsAtRest t old → runs_in_transaction old.state.state ≡ true → x ≡ arrived_snapshot_state new.place d old.state → HasArrived t old new d logs x
has_arrived t old new d logs x rest runs is =
    let g = logs.decides in
    let J : Journal = g.journal in
    let so = g.is_so in
    let made = so.1 in
    let long : new.place ≡ length J + 1 = logs.place ∙ (ap length g.events ∙ length-append J (g.event ∷ [])) in
    let here : x ≡ arrived_snapshot_state (length J + 1) d old.state = is ∙ ap (λ (n : ℕ). arrived_snapshot_state n d old.state) long in
    let fit : IsFitState J x = subst (IsFitState J) (sym here) (fit_arrived {o = made.0} J d old.state made.1 (fit_taken t old J rest g.goes_on)) in
    let opened : IsOpened x = subst IsOpened (sym here) (arrived_opened (length J + 1) d old.state runs) in
    record { is = here; fit = fit; view = view_is {o = made.0} J d x made.1 fit; opened = opened; there = origin_there J x opened fit }

session_there : (place : ℕ) (d : Database) (x : SnapshotState) → (arrived_snapshot_state place d x).state.session ≡ x.state.session
session_there place d x = refl

-- what it does is added
pub added_gives : (t : Turn ServerState Event) (old new : Session) (d : Database) (s : Statement) (logs : Logs t old new (IsShared (next_who old) d)) (x : SnapshotState) (e : Effect) (bytes : List ℕ) → IsAtRest t old → changes_rows s ≡ true → HasArrived t old new d logs x
    → effect s (base x.state (journal_of t old new (IsShared (next_who old) d) logs)) x.state.db x.state.session ≡ Ok e → AreOwn e.operations (base x.state (journal_of t old new (IsShared (next_who old) d) logs))
    → new.state ≡ added e.operations x → bytes ≡ packets (ok_reply new.state.state e.affected) → GivesOut t old new bytes (rows_given (next_who old) old.state.state s)
added_gives t old new d s logs x e bytes rest rows a is own state reply =
    let IsSo : Journal → Event → Type 0 = IsShared (next_who old) d in
    let g = logs.decides in
    let J : Journal = g.journal in
    let so : IsSo J g.event = g.is_so in
    let who : Who = next_who old in
    let at : x.state ≡ arrived (length J + 1) s old.state.state = ap (λ (y : SnapshotState). y.state) a.is ∙ arrived_is (length J + 1) d s old.state rows in
    let given : changed_rows who x.state (Ok e) ≡ rows_given who old.state.state s J
    = ap (changed_rows who x.state) (sym is) ∙ ap (λ (y : State). changed_rows who y (effect s (base y J) y.db y.session)) at in
    let same = changed_in who x a.opened e ∙ given in
    let session : number_of new ≡ number_of old = ap (λ (y : SnapshotState). y.state.session) state ∙ ap (λ (y : SnapshotState). y.state.session) a.is in
    let fit : IsFitState J new.state = subst (IsFitState J) (sym state) (fit_added J x e.operations a.fit a.there own) in
    let opened : IsOpened (added e.operations x) = added_opened e.operations x a.opened in
    let past : IsPast (seen_by new) (snapshot_of new.state.state) = own_past t old new d logs (snapshot_of new.state.state) (past_in J g.event new.state (subst IsOpened (sym state) opened) fit) in
    gives_out t old new bytes (rows_given who old.state.state s) IsSo logs
    (rest_with t old new rest logs.rests logs.options session (omega (arith, logs.place)) (fit_behind t old new d logs new.state fit) past)
    (own_given who old.state.state s J rows)
    (record {
      event = so.0 ∙ ap (λ (y : Given). y.event) same;
      reply = reply ∙ (ap (λ (y : SnapshotState). packets (ok_reply y.state e.affected)) state ∙ ap (λ (y : Given). packets y.reply) same);
      state = ap (λ (y : SnapshotState). y.state) state ∙ ap (λ (y : Given). y.next) same;
    })

-- it is refused
pub refused_gives : (t : Turn ServerState Event) (old new : Session) (d : Database) (s : Statement) (logs : Logs t old new (IsShared (next_who old) d)) (x : SnapshotState) (e : SqlError) (bytes : List ℕ) → IsAtRest t old → changes_rows s ≡ true → HasArrived t old new d logs x
    → effect s (base x.state (journal_of t old new (IsShared (next_who old) d) logs)) x.state.db x.state.session ≡ Err e → new.state ≡ x → bytes ≡ packets (refused e) → GivesOut t old new bytes (rows_given (next_who old) old.state.state s)
refused_gives t old new d s logs x e bytes rest rows a is state reply =
    let IsSo : Journal → Event → Type 0 = IsShared (next_who old) d in
    let g = logs.decides in
    let J : Journal = g.journal in
    let so : IsSo J g.event = g.is_so in
    let who : Who = next_who old in
    let at : x.state ≡ arrived (length J + 1) s old.state.state = ap (λ (y : SnapshotState). y.state) a.is ∙ arrived_is (length J + 1) d s old.state rows in
    let given : changed_rows who x.state (Err e) ≡ rows_given who old.state.state s J
    = ap (changed_rows who x.state) (sym is) ∙ ap (λ (y : State). changed_rows who y (effect s (base y J) y.db y.session)) at in
    let session : number_of new ≡ number_of old = ap (λ (y : SnapshotState). y.state.session) state ∙ ap (λ (y : SnapshotState). y.state.session) a.is in
    let fit : IsFitState J new.state = subst (IsFitState J) (sym state) a.fit in
    let past : IsPast (seen_by new) (snapshot_of new.state.state) = own_past t old new d logs (snapshot_of new.state.state) (past_in J g.event new.state (subst IsOpened (sym state) a.opened) fit) in
    gives_out t old new bytes (rows_given who old.state.state s) IsSo logs
    (rest_with t old new rest logs.rests logs.options session (omega (arith, logs.place)) (fit_behind t old new d logs new.state fit) past)
    (own_given who old.state.state s J rows)
    (record {
      event = so.0 ∙ ap (λ (y : Given). y.event) given;
      reply = reply ∙ ap (λ (y : Given). packets y.reply) given;
      state = ap (λ (y : SnapshotState). y.state) state ∙ ap (λ (y : Given). y.next) given;
    })

-- ---- the same, from the session as it is when the event has come

-- what is known when the statement has arrived
pub record Sees (t : Turn ServerState Event) (old new : Session) (d : Database) (s : Statement) (x : SnapshotState) : Type 0 where
  pub logs : Logs t old new (IsShared (next_who old) d)
  pub arrived : HasArrived t old new d logs x
  pub sound : Makes (journal_of t old new (IsShared (next_who old) d) logs) d

pub sees : (t : Turn ServerState Event) (old mid new : Session) (d : Database) (s : Statement) (x : SnapshotState) → IsAtRest t old → Logs t old mid (IsShared (next_who old) d) → mid.state ≡ old.state → runs_in_transaction old.state.state ≡ true
    → x ≡ arrived_snapshot_state mid.place d mid.state → new ≡ record mid { state = new.state } → Sees t old new d s x
sees t old mid new d s x rest logs same runs is moved =
    let IsSo : Journal → Event → Type 0 = IsShared (next_who old) d in
    let behind : Logs t old new IsSo = logs_moved t old mid new IsSo logs moved in
    let place : mid.place ≡ new.place = sym (ap (λ (y : Session). y.place) moved) in
    let g = behind.decides in
    let so : IsSo g.journal g.event = g.is_so in
    record { logs = behind; arrived = has_arrived t old new d behind x rest runs (is ∙ (λ i. arrived_snapshot_state (place i) d (same i))); sound = so.1 }

effect_seen : (t : Turn ServerState Event) (old new : Session) (d : Database) (s : Statement) (x : SnapshotState) (y : Sees t old new d s x) (r : Result Effect SqlError) → effect s (seen_on d x) x.state.db x.state.session ≡ r
    → effect s (base x.state (journal_of t old new (IsShared (next_who old) d) y.logs)) x.state.db x.state.session ≡ r
effect_seen t old new d s x y r is = let a = y.arrived in ap (λ (z : Database). effect s z x.state.db x.state.session) (sym a.view) ∙ is

-- it may be kept, and it has room
pub record MayKeep (x : SnapshotState) (ops : List RowOp) : Type 0 where
  pub may : MayAdd ops x
  pub room : full_table (apply ops (seen_on [] x)) ≡ None

own_seen : (t : Turn ServerState Event) (old new : Session) (d : Database) (s : Statement) (x : SnapshotState) (e : Effect) (y : Sees t old new d s x) → changes_rows s ≡ true → is_short_statement s ≡ true → effect s (seen_on d x) x.state.db x.state.session ≡ Ok e
    → AreOwn e.operations (base x.state (journal_of t old new (IsShared (next_who old) d) y.logs))
own_seen t old new d s x e y rows short is =
    let a = y.arrived in
    let made = y.sound in
    rows_are_own {o = made.0} s (journal_of t old new (IsShared (next_who old) d) y.logs) d x e made.1 a.fit rows short (effect_seen t old new d s x y (Ok e) is)

pub may_keep : (t : Turn ServerState Event) (old new : Session) (d : Database) (s : Statement) (x : SnapshotState) (e : Effect) → Sees t old new d s x → changes_rows s ≡ true → is_short_statement s ≡ true → effect s (seen_on d x) x.state.db x.state.session ≡ Ok e → MayKeep x e.operations
may_keep t old new d s x e y rows short is =
    let a = y.arrived in
    let J : Journal = journal_of t old new (IsShared (next_who old) d) y.logs in
    let own = own_seen t old new d s x e y rows short is in
    record { may = adds J x e.operations a.there a.fit own; room = added_room J x e.operations a.fit a.there own }

pub kept_out : (t : Turn ServerState Event) (old new : Session) (d : Database) (s : Statement) (x : SnapshotState) (e : Effect) {F : Type 0} (r : Result (List ℕ) F) → Sees t old new d s x → IsAtRest t old → changes_rows s ≡ true → is_short_statement s ≡ true
    → effect s (seen_on d x) x.state.db x.state.session ≡ Ok e → OnOk r (new.state ≡ added e.operations x) → IfOk r (λ bytes. bytes ≡ packets (ok_reply new.state.state e.affected)) → IfOk r (λ bytes. GivesOut t old new bytes (rows_given (next_who old) old.state.state s))
kept_out t old new d s x e (Err f) y rest rows short is state reply = tt
kept_out t old new d s x e (Ok bytes) y rest rows short is state reply =
    added_gives t old new d s y.logs x e bytes rest rows y.arrived (effect_seen t old new d s x y (Ok e) is) (own_seen t old new d s x e y rows short is) state reply

-- or it is refused
pub refusal_fits : (t : Turn ServerState Event) (old new : Session) (d : Database) (s : Statement) (x : SnapshotState) (e : SqlError) → Sees t old new d s x → is_short_statement s ≡ true → effect s (seen_on d x) x.state.db x.state.session ≡ Err e → FitsError e
refusal_fits t old new d s x e y short is =
    let a = y.arrived in
    let made = y.sound in
    effect_refused {o = made.0} s (journal_of t old new (IsShared (next_who old) d) y.logs) d x e made.1 a.fit short (effect_seen t old new d s x y (Err e) is)

pub refused_out : (t : Turn ServerState Event) (old new : Session) (d : Database) (s : Statement) (x : SnapshotState) (e : SqlError) {F : Type 0} (r : Result (List ℕ) F) → Sees t old new d s x → IsAtRest t old → changes_rows s ≡ true
    → effect s (seen_on d x) x.state.db x.state.session ≡ Err e → new.state ≡ x → IfOk r (λ bytes. bytes ≡ packets (refused e)) → IfOk r (λ bytes. GivesOut t old new bytes (rows_given (next_who old) old.state.state s))
refused_out t old new d s x e r y rest rows is state reply =
    if_ok (λ (bytes : List ℕ). bytes ≡ packets (refused e)) (λ (bytes : List ℕ). GivesOut t old new bytes (rows_given (next_who old) old.state.state s))
    (λ bytes h. refused_gives t old new d s y.logs x e bytes rest rows y.arrived (effect_seen t old new d s x y (Err e) is) state h) r reply
