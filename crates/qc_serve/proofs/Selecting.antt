-- A SELECT is decided.
use Rattle.std.proofs.Common.{◌≡◌, ℕ, ◌*◌, ◌^◌, ◌<◌, ◌≤◌, Bool, true, false, List, [], ◌∷◌, ◌++◌, refl, sym, ap, ◌∙◌, subst, append-nil, Option, None, Some, Ok}
use Rattle.std.specs.Prelude.{is_some, slice_index, if◌then◌else◌}
use Rattle.qc_sql.specs.declared.statements.Select.{Select}
use Rattle.qc_sql.specs.declared.statements.Statement.TheVariants as statement
use Rattle.qc_sql.specs.Database.{Database}
use Rattle.qc_sql.specs.Grammar.{meaning, trimmed}
use Rattle.qc_sql.specs.Rules.{asks}
use Rattle.qc_model.specs.declared.reports.Word.{Word}
use Rattle.qc_model.specs.Journal.{Journal}
use Rattle.qc_model.specs.Session.{State, Transaction, flags_of, key_of_text, opened, snapshot_of, uses_rows, with_transaction}
use Rattle.qc_laws.specs.history.Answers.{CanBeKeyed}
use Rattle.qc_trx.specs.SnapshotStates.{SnapshotState, after_arrival}
use Rattle.qc_turn.specs.declared.seat.Seat.{Seat}
use Rattle.qc_turn.specs.declared.turn.Turn.{Turn}
use Rattle.qc_core.specs.contracts.server.ServerKept.TheImpl.{ghosts}
use Rattle.qc_core.specs.declared.server_state.ServerState.{ServerState}
use Rattle.qc_model.specs.declared.events.Event.{Event}
use Rattle.qc_select.specs.declared.selected.Selected.{Selected}
use Rattle.qc_select.specs.Selects.{place_of}
use Rattle.qc_statements.specs.Sound.{IsFitIn, IsFitState, IsPast}
use Rattle.qc_statements.proofs.Looking.{keyed_by}
use Rattle.qc_serve.specs.declared.session.Session.{Session}
use Rattle.qc_serve.specs.Asking.{LooksOn, MayAskAt, MaySelect, Selects}
use Rattle.qc_serve.specs.Going.{IsAtRest, number_of, seen_by}
use Rattle.qc_serve.specs.Logs.{logged}
use Rattle.qc_serve.specs.Querying.{HasDecided, LacksMemory, arrives, arrives_at, sees_at, word_of_selected}
use Rattle.qc_serve.specs.Seats.{SeatRests}

-- ---- the state in which a select has arrived

-- only its transaction may be another
pub arrives_with : (select : Select) (x : SnapshotState) → (o : Option Transaction) × (arrives select x ≡ record { state = with_transaction x.state o; origin = x.origin })
arrives_with select x = by (uses_rows (statement.Select select))
  where
    by : (b : Bool) → (o : Option Transaction) × ((if b then after_arrival x else x) ≡ record { state = with_transaction x.state o; origin = x.origin })
    by true = (opened x.state, refl)
    by false = (x.state.transaction, refl)

pub arrives_session : (select : Select) (x : SnapshotState) → (arrives select x).state.session ≡ x.state.session
arrives_session select x = let a = arrives_with select x in ap (λ (y : SnapshotState). y.state.session) a.1

pub arrives_ansi : (select : Select) (x : SnapshotState) → (arrives select x).state.ansi ≡ x.state.ansi
arrives_ansi select x = let a = arrives_with select x in ap (λ (y : SnapshotState). y.state.ansi) a.1

pub keyed_with : (J : Journal) (x : SnapshotState) (o : Option Transaction) → IsFitState J x → x.state.row_limit < 2 ^ 64 → CanBeKeyed (with_transaction x.state o)
keyed_with J x o fit limit = record { values = keyed_by J x (flags_of x.state) fit refl (is_some o); limit = limit }

pub arrives_keyed : (J : Journal) (select : Select) (x : SnapshotState) → IsFitState J x → (arrives select x).state.row_limit < 2 ^ 64 → CanBeKeyed (arrives select x).state
arrives_keyed J select x fit limit =
    let a = arrives_with select x in
    subst (λ (y : SnapshotState). CanBeKeyed y.state) (sym a.1) (keyed_with J x a.0 fit (subst (λ (y : SnapshotState). y.state.row_limit < 2 ^ 64) a.1 limit))

opened_fits : (J : Journal) (autocommit : Bool) (s : State) (t : Option Transaction) (origin : Option Database) → IsFitIn J origin t → IsFitIn J origin (opened (record s { autocommit = autocommit; transaction = t }))
opened_fits J autocommit s (Some t) origin h = h
opened_fits J true s None origin h = h
opened_fits J false s None origin h = (h, refl)

pub arrives_fit : (J : Journal) (select : Select) (x : SnapshotState) → IsFitState J x → IsFitState J (arrives select x)
arrives_fit J select x fit = by (uses_rows (statement.Select select))
  where
    by : (b : Bool) → IsFitState J (if b then after_arrival x else x)
    by true = record { db = fit.db; charset = fit.charset; transaction = opened_fits J x.state.autocommit x.state x.state.transaction x.origin fit.transaction }
    by false = fit

opened_past : (J : Journal) (autocommit : Bool) (s : State) (t : Option Transaction) → IsPast J (snapshot_of (with_transaction s t)) → IsPast J (snapshot_of (with_transaction s (opened (record s { autocommit = autocommit; transaction = t }))))
opened_past J autocommit s (Some t) h = h
opened_past J true s None h = tt
opened_past J false s None h = tt

pub arrives_past : (J : Journal) (select : Select) (x : SnapshotState) → IsPast J (snapshot_of x.state) → IsPast J (snapshot_of (arrives select x).state)
arrives_past J select x past = by (uses_rows (statement.Select select))
  where
    by : (b : Bool) → IsPast J (snapshot_of (if b then after_arrival x else x).state)
    by true = opened_past J x.state.autocommit x.state x.state.transaction past
    by false = past

-- ---- it may be decided

-- a session in which the select has arrived may ask
pub record MayDecide (t : Turn ServerState Event) (select : Select) (text : List ℕ) (mid : Session) : Type 0 where
  pub asks : MayAskAt t (number_of mid) mid.seat
  pub may : MaySelect (seen_by mid) mid.state
  pub means : meaning (trimmed text) mid.state.state.ansi ≡ Ok (statement.Select select)

may_in : (t : Turn ServerState Event) (select : Select) (text : List ℕ) (old : Session) → IsAtRest t old → (arrives select old.state).state.row_limit < 2 ^ 64
    → meaning (trimmed text) old.state.state.ansi ≡ Ok (statement.Select select) → MayDecide t select text (record old { state = arrives select old.state })
may_in t select text old rest limit means =
    let x : SnapshotState = old.state in
    record {
      asks = record {
        rests = subst (λ (n : ℕ). SeatRests t n old.seat) (sym (arrives_session select x)) rest.rests;
        room = subst (λ (f : List ℕ). slice_index f 0 ≤ 512 * old.seat.ranges.room) (sym rest.options) rest.ranges;
      };
      may = record {
        keyed = arrives_keyed (seen_by old) select x rest.fit limit;
        fit = arrives_fit (seen_by old) select x rest.fit;
        past = arrives_past (seen_by old) select x rest.past;
      };
      means = ap (meaning (trimmed text)) (arrives_ansi select x) ∙ means;
    }

pub may_decide : (t : Turn ServerState Event) (select : Select) (text : List ℕ) (old mid : Session) → mid ≡ record old { state = arrives select old.state } → IsAtRest t old → mid.state.state.row_limit < 2 ^ 64
    → meaning (trimmed text) old.state.state.ansi ≡ Ok (statement.Select select) → MayDecide t select text mid
may_decide t select text old mid is rest limit means = subst (MayDecide t select text) (sym is) (may_in t select text old rest (subst (λ (s : Session). s.state.state.row_limit < 2 ^ 64) is limit) means)

-- ---- it was decided

decided_in : (t : Turn ServerState Event) (text : List ℕ) (select : Select) (old new : Session) (key : List ℕ) (d : Database) (x : Selected) (seat : Seat ServerState Event ghosts)
    → key ≡ key_of_text (arrives select old.state).state text → CanBeKeyed (arrives select old.state).state → Selects t text key select (arrives select old.state).state old.seat seat x d
    → new ≡ record old { seat = seat; state = arrives_at select (place_of x) d old.state; place = place_of x; log = new.log } → new.log.lines ≡ old.log.lines ++ logged (place_of x) (word_of_selected x) ∷ [] → HasDecided t text select old new x
decided_in t text select old new key d x seat key_is keyed selects is lines =
    let at : seat ≡ new.seat = sym (ap (λ (s : Session). s.seat) is) in
    let state : new.state ≡ arrives_at select (place_of x) d old.state = ap (λ (s : Session). s.state) is in
    record {
      key = key;
      key_is = key_is;
      keyed = keyed;
      database = d;
      selects = subst (λ (s : Seat ServerState Event ghosts). Selects t text key select (arrives select old.state).state old.seat s x d) at selects;
      state = state;
      lines = lines;
      same = is ∙ (λ i. record old { seat = at i; state = sym state i; place = place_of x; log = new.log });
    }

-- mid: the select has arrived; seen: it has seen the database at its place
pub decided : (t : Turn ServerState Event) (text : List ℕ) (select : Select) (old mid seen new : Session) (key : List ℕ) (d : Database) (x : Selected) (seat : Seat ServerState Event ghosts) (place : ℕ) (word : Word) → mid ≡ record old { state = arrives select old.state }
    → key ≡ key_of_text mid.state.state text → CanBeKeyed mid.state.state → Selects t text key select mid.state.state mid.seat seat x d → place ≡ place_of x → word ≡ word_of_selected x
    → seen ≡ record mid { seat = seat; state = sees_at select place d mid.state } → new ≡ record seen { place = place; log = new.log } → new.log.lines ≡ seen.log.lines ++ logged place word ∷ [] → HasDecided t text select old new x
decided t text select old mid seen new key d x seat place word arrived key_is keyed selects at how sees is lines =
    let state : mid.state ≡ arrives select old.state = ap (λ (s : Session). s.state) arrived in
    let sat : mid.seat ≡ old.seat = ap (λ (s : Session). s.seat) arrived in
    decided_in t text select old new key d x seat (key_is ∙ ap (λ (y : SnapshotState). key_of_text y.state text) state) (subst (λ (y : SnapshotState). CanBeKeyed y.state) state keyed)
    (subst (λ (p : SnapshotState × Seat ServerState Event ghosts). Selects t text key select p.0.state p.1 seat x d) (λ i. (state i, sat i)) selects)
    (is ∙ (λ i. record (sees i) { place = at i; log = new.log }) ∙ (λ i. record (arrived i) { seat = seat; state = sees_at select (at i) d (state i); place = place_of x; log = new.log }))
    (lines ∙ (λ i. (sees i).log.lines ++ logged (at i) (how i) ∷ []) ∙ ap (λ (s : Session). s.log.lines ++ logged (place_of x) (word_of_selected x) ∷ []) arrived)

-- ---- memory lacked

-- no turn was taken
pub key_lacks : (t : Turn ServerState Event) (select : Select) (old mid : Session) → IsAtRest t old → mid ≡ record old { state = arrives select old.state } → LacksMemory t old mid
key_lacks t select old mid rest is =
    let at : old.seat ≡ mid.seat = sym (ap (λ (s : Session). s.seat) is) in
    let stays : LooksOn t (number_of old) old.seat old.seat = record {
      again = record { rests = rest.rests; fixed = refl; registry = refl; ranges = refl };
      goes_on = record { begins = ([], sym (append-nil (seen_by old))); none = refl };
    } in
    record {
      seat = subst (LooksOn t (number_of old) old.seat) at stays;
      session = ap number_of is ∙ arrives_session select old.state;
      same = is ∙ (λ i. record old { seat = at i; state = sym (ap (λ (s : Session). s.state) is) i });
    }

-- a turn was taken
pub turn_lacks : (t : Turn ServerState Event) (select : Select) (old mid : Session) (seat : Seat ServerState Event ghosts) → mid ≡ record old { state = arrives select old.state } → LooksOn t (number_of mid) mid.seat seat → LacksMemory t old (record mid { seat = seat })
turn_lacks t select old mid seat is looks =
    let sat : mid.seat ≡ old.seat = ap (λ (s : Session). s.seat) is in
    let session : number_of mid ≡ number_of old = ap number_of is ∙ arrives_session select old.state in
    record {
      seat = subst (λ (p : ℕ × Seat ServerState Event ghosts). LooksOn t p.0 p.1 seat) (λ i. (session i, sat i)) looks;
      session = session;
      same = (λ i. record (is i) { seat = seat }) ∙ (λ i. record old { seat = seat; state = sym (ap (λ (s : Session). s.state) is) i });
    }
