-- What is sent of a select that was decided.
use Rattle.std.proofs.Common.{◌≡◌, ◌⊎◌, inl, inr, ℕ, ◌+◌, ◌^◌, ◌<◌, Bool, true, false, List, [], ◌∷◌, ◌++◌, length, refl, sym, ap, ◌∙◌, subst, arith, append-nil, append_assoc, Option, None, Some, Result, Ok, Err}
use Rattle.std.specs.Prelude.{MatchOption, not, option_map, ◌==◌, ◌&&◌, if◌then◌else◌}
use Rattle.std.specs.List.{concat}
use Rattle.std.proofs.lemmas.Bool.{and_parts}
use Rattle.std.proofs.lemmas.Slice.Eq.{bytes_eq-Decides}
use Rattle.qc_types.specs.declared.names.TableName.{TableName}
use Rattle.qc_types.specs.declared.options.Options.{Options}
use Rattle.qc_types.specs.declared.sql_error.SqlError.{SqlError}
use Rattle.qc_sql.specs.declared.commands.Command.{Command}
use Rattle.qc_sql.specs.declared.commands.Command.TheVariants as command
use Rattle.qc_sql.specs.declared.session.Flags.{Flags}
use Rattle.qc_sql.specs.declared.statements.Select.{Select}
use Rattle.qc_sql.specs.declared.statements.Statement.{Statement}
use Rattle.qc_sql.specs.declared.statements.Statement.TheVariants as statement
use Rattle.qc_sql.specs.Database.{Database}
use Rattle.qc_sql.specs.Grammar.{ParseFault, head_of, meaning, trimmed}
use Rattle.qc_sql.specs.Packets.{packets}
use Rattle.qc_sql.specs.Rows.{Rows}
use Rattle.qc_sql.specs.Rules.{asks, select_tables}
use Rattle.qc_model.specs.declared.events.Event.{Event}
use Rattle.qc_model.specs.declared.events.How.TheVariants as how
use Rattle.qc_model.specs.declared.events.Reason.{Reason}
use Rattle.qc_model.specs.declared.reports.Word.{Word}
use Rattle.qc_model.specs.declared.reports.Word.TheVariants as word
use Rattle.qc_model.specs.Agrees.{fill_ends}
use Rattle.qc_model.specs.Cache.{Entry, cache}
use Rattle.qc_model.specs.Choice.{Allows, IsNoRoom, answering, has_key, is_asked, is_visible, plain_reason, start_count}
use Rattle.qc_model.specs.Journal.{Journal, present}
use Rattle.qc_model.specs.Session.{State, Transaction, answer, answer_packets, arrived, base, flags_of, key_of_text, opened, select_reply, snapshot_of, snapshot_taken, status_of, uses_rows, with_transaction}
use Rattle.qc_laws.specs.history.Answers.{AnswersText, CanBeKeyed, IsKeyOfRows, packets_of}
use Rattle.qc_laws.specs.history.Seen.{IsPlace}
use Rattle.qc_laws.specs.runs.Runs.{own}
use Rattle.qc_laws.specs.sizes.Names.{is_short, is_short_select}
use Rattle.qc_laws.specs.sizes.Replies.{FitsError, FitsRows, is_bounded_database}
use Rattle.qc_laws.proofs.history.Answers.{hits_answer, starts_answer}
use Rattle.qc_laws.proofs.history.Events.{present_push}
use Rattle.qc_laws.proofs.sizes.Selects.{select_errors_fit, select_rows_fit}
use Rattle.qc_trx.specs.SnapshotStates.{SnapshotState, after_arrival}
use Rattle.qc_eval.specs.Plans.{PlanView}
use Rattle.qc_turn.specs.declared.seat.Seat.{Seat}
use Rattle.qc_turn.specs.declared.task.Task.TheVariants as task
use Rattle.qc_turn.specs.declared.turn.Turn.{Turn}
use Rattle.qc_turn.specs.Seats.{view}
use Rattle.qc_core.specs.contracts.server.ServerKept.TheImpl.{ghosts}
use Rattle.qc_core.specs.declared.hit_stream.Hit.{Hit}
use Rattle.qc_core.specs.declared.server_state.ServerState.{ServerState}
use Rattle.qc_select.specs.declared.selected.Selected.{Selected}
use Rattle.qc_select.specs.declared.selected.Selected.TheVariants as selected
use Rattle.qc_select.specs.Selects.{place_of, planned}
use Rattle.qc_select.proofs.NoReasons.{found_test, no_reason}
use Rattle.qc_statements.proofs.Looking.{place_by_fit}
use Rattle.qc_statements.proofs.States.{orderly_base}
use Rattle.qc_serve.specs.declared.log.Logged.{Logged}
use Rattle.qc_serve.specs.declared.session.Session.{Session}
use Rattle.qc_serve.specs.Asking.{task_of}
use Rattle.qc_serve.specs.Holding.{HasTask}
use Rattle.qc_serve.specs.declared.sinks.Piece.{Piece}
use Rattle.qc_serve.specs.Executed.{IsReplied, MustEnd, size_by}
use Rattle.qc_serve.specs.Going.{IsAtRest, as_fixed, next_who, number_of, seen_by}
use Rattle.qc_serve.specs.Logs.{logged}
use Rattle.qc_serve.specs.Querying.{EndsWith, HasDecided, HasEndedFill, IsPlanned, LacksMemory, MaySend, arrives, arrives_at, bytes_for, is_hit, plan_packets, word_of_selected}
use Rattle.qc_serve.specs.Seats.{GoesOn, SeatRests}
use Rattle.qc_serve.specs.Sent.{Adds, AreCut, NoneIsEmpty, Sends}
use Rattle.qc_serve.proofs.Breaking.{none_streamed}
use Rattle.qc_serve.proofs.Parsing.{last_same}
use Rattle.qc_serve.proofs.Placing.{IsBehind, Placed, arrived_with, came, does_how, event_in, given_in, placed, reply_in, select_does, select_ends, state_in, state_is, word_is}
use Rattle.qc_serve.proofs.Selecting.{arrives_session, arrives_with, keyed_with}
use Rattle.qc_serve.proofs.PiecesPut.{front_of_selected, lawful_seen, put_selected, streamed_selected}
use Rattle.qc_serve.specs.SentAt.{SendsAs, SendsFrontAs}

-- ---- what is allowed of an event

-- a hit is of the entry that answers
pub record FoundBy (a : State) (K : Journal) (key : List ℕ) : Type 0 where
  pub entry : Entry
  pub is : answering a K key ≡ Some entry

pub hit_found : (options : Options) (a : State) (text : List ℕ) (select : Select) (K : Journal) (n : ℕ) → Allows options a text select K (how.Hit n) → FoundBy a K (key_of_text a text)
hit_found options a text select K n h =
    by (not (options.size == 0) && is_asked (asks (head_of (trimmed text)) a.kind)) (answering a K (key_of_text a text)) refl (plain_reason options a text select K) h
  where
    by : (b : Bool) (o : Option Entry) → answering a K (key_of_text a text) ≡ o → (r : Option Reason)
        → MatchOption (if b then o else None) (MatchOption r ((how.Hit n ≡ how.Start (start_count K + 1) (key_of_text a text) (select_tables a.db select)) ⊎ IsNoRoom (how.Hit n)) (λ x. how.Hit n ≡ how.Plain x)) (λ entry. how.Hit n ≡ how.Hit entry.serial)
        → FoundBy a K (key_of_text a text)
    by true (Some entry) is r g = record { entry = entry; is = is }
    by true None is None (inl g) = absurd cc
    by true None is None (inr g) = let e = g.2 in absurd cc
    by true None is (Some r) g = absurd cc
    by false o is None (inl g) = absurd cc
    by false o is None (inr g) = let e = g.2 in absurd cc
    by false o is (Some r) g = absurd cc

-- a start has no reason against it, and the text's key
pub record StartedBy (options : Options) (a : State) (text : List ℕ) (select : Select) (K : Journal) (key : List ℕ) : Type 0 where
  pub none : plain_reason options a text select K ≡ None
  pub key_is : key ≡ key_of_text a text

pub start_free : (options : Options) (a : State) (text : List ℕ) (select : Select) (K : Journal) (n : ℕ) (key : List ℕ) (tables : List TableName) → Allows options a text select K (how.Start n key tables) → StartedBy options a text select K key
start_free options a text select K n key tables h =
    by (if not (options.size == 0) && is_asked (asks (head_of (trimmed text)) a.kind) then answering a K (key_of_text a text) else None) (plain_reason options a text select K) refl h
  where
    by : (o : Option Entry) (r : Option Reason) → plain_reason options a text select K ≡ r
        → MatchOption o (MatchOption r ((how.Start n key tables ≡ how.Start (start_count K + 1) (key_of_text a text) (select_tables a.db select)) ⊎ IsNoRoom (how.Start n key tables)) (λ x. how.Start n key tables ≡ how.Plain x)) (λ entry. how.Start n key tables ≡ how.Hit entry.serial)
        → StartedBy options a text select K key
    by (Some entry) r is g = absurd cc
    by None None is (inl g) = record { none = is; key_is = cc }
    by None None is (inr g) = let e = g.2 in absurd cc
    by None (Some r) is g = absurd cc

-- ---- the key

key_taken : (place : ℕ) (s : State) (o : Option Transaction) (text : List ℕ) → key_of_text (with_transaction s (option_map (snapshot_taken place) o)) text ≡ key_of_text (with_transaction s o) text
key_taken place s None text = refl
key_taken place s (Some x) text = refl

-- it is the same before the place of the event is known
pub key_there : (place : ℕ) (select : Select) (x : SnapshotState) (text : List ℕ) → key_of_text (arrived place (statement.Select select) x.state) text ≡ key_of_text (arrives select x).state text
key_there place select x text = by (uses_rows (statement.Select select))
  where
    by : (b : Bool) → key_of_text (if b then with_transaction x.state (option_map (snapshot_taken place) (opened x.state)) else x.state) text ≡ key_of_text (if b then after_arrival x else x).state text
    by true = key_taken place x.state (opened x.state) text
    by false = refl

same_select : (m : Result Statement ParseFault) (a b : Select) → m ≡ Ok (statement.Select a) → m ≡ Ok (statement.Select b) → a ≡ b
same_select m a b h g = let both : ◌≡◌ {A = Result Statement ParseFault} (Ok (statement.Select a)) (Ok (statement.Select b)) = sym h ∙ g in cc

same_bytes : (o : Option (List ℕ)) (a b : List ℕ) → o ≡ Some a → o ≡ Some b → a ≡ b
same_bytes o a b h g = let both : Some a ≡ Some b = sym h ∙ g in cc

-- ---- at the place

module _ (text : List ℕ) (select : Select) (old : Session) (key : List ℕ) (now : Journal) (x : Selected) (database : Database) (means : meaning (trimmed text) old.state.state.ansi ≡ Ok (statement.Select select))
    (p : Placed old text select key now x database) where
  -- the journal before the event
  abbrev K : Journal
  K = p.journal ++ p.prunes

  abbrev a : State
  a = state_in old select K

  abbrev y : SnapshotState
  y = arrives_at select (length K + 1) database old.state

  y_is : y.state ≡ a
  y_is = state_is (length K + 1) select database old.state

  means_there : meaning (trimmed text) a.ansi ≡ Ok (statement.Select select)
  means_there = let made = arrived_with (length K + 1) select old.state.state in ap (λ (s : State). meaning (trimmed text) s.ansi) made.1 ∙ means

  place_there : IsPlace K (snapshot_of a)
  place_there = subst (λ (s : State). IsPlace K (snapshot_of s)) y_is (place_by_fit K y p.fit)

  -- its database is of bounded size
  bounded_there : is_bounded_database (base a K) ≡ true
  bounded_there = let o = orderly_base {o = old.options} K database y p.sound p.fit in subst (λ (s : State). is_bounded_database (base s K) ≡ true) y_is o.bounded

  short_db : is_short a.db ≡ true
  short_db = let fit = p.fit in subst (λ (s : State). is_short s.db ≡ true) y_is fit.db

  pub rows_fit : (r : Rows) → is_short_select select ≡ true → given_in old select K ≡ Ok r → FitsRows (flags_of a) r
  rows_fit r short is = select_rows_fit select (base a K) a.db (flags_of a) a.session r short bounded_there short_db is

  pub error_fits : (e : SqlError) → is_short_select select ≡ true → given_in old select K ≡ Err e → FitsError e
  error_fits e short is = select_errors_fit select (base a K) a.db (flags_of a) a.session e short bounded_there short_db is

  module _ (keyed : CanBeKeyed a) where
    -- what the entry of a hit holds is what the select gives
    pub hit_answers : (n : ℕ) (bytes : List ℕ) → Allows old.options a text select K (how.Hit n) → key ≡ key_of_text a text → answer key (present K) ≡ Some bytes → bytes ≡ packets (reply_in old select K)
    hit_answers n bytes allowed key_is is =
        let f = hit_found old.options a text select K n allowed in
        let k : List ℕ = key_of_text a text in
        let sound = p.sound in
        let test : Entry → Bool = λ e. e.complete && has_key k e && is_visible a K e in
        let parts = and_parts (f.entry.complete && has_key k f.entry) (is_visible a K f.entry) (found_test test (cache K) f.entry f.is) in
        let keys = and_parts f.entry.complete (has_key k f.entry) parts.0 in
        let same_key : f.entry.key ≡ k = (bytes_eq-Decides f.entry.key k).0 keys.1 in
        let ans : AnswersText a K text f.entry = hits_answer old.options K a text f.entry test sound.lawful keyed place_there f.is same_key parts.1 in
        let same : ans.select ≡ select = same_select (meaning (trimmed text) a.ansi) ans.select select ans.means means_there in
        let its : answer key (present K) ≡ Some (packets_of a K ans.select) = ap (λ (l : List ℕ). answer l (present K)) (key_is ∙ sym same_key) ∙ ans.answers in
        same_bytes (answer key (present K)) bytes (packets_of a K ans.select) is its ∙ ap (packets_of a K) same

    -- the packets of a plan are those of the text's key
    pub start_answers : (n : ℕ) (tables : List TableName) (plan : PlanView) → Allows old.options a text select K (how.Start n key tables) → ◌≡◌ {A = Result PlanView SqlError} (Ok plan) (planned (given_in old select K)) → answer_packets key (present K) ≡ Some (plan_packets plan (status_of (flags_of a)))
    start_answers n tables plan allowed is =
        let f = start_free old.options a text select K n key tables allowed in
        let no = no_reason old.options a text select K f.none in
        let rs : IsKeyOfRows a K text select no.r = starts_answer a K text select no.r keyed place_there means_there no.kept no.current no.gives in
        let own : PlanView = record { columns = no.r.columns; rows = no.r.rows; left = None; row = None } in
        let both : ◌≡◌ {A = Result PlanView SqlError} (Ok plan) (Ok own) = is ∙ ap planned no.gives in
        let plan_is : own ≡ plan = cc in
        ap (λ (l : List ℕ). answer_packets l (present K)) f.key_is ∙ (rs.packets ∙ ap (λ (v : PlanView). Some (plan_packets v (status_of (flags_of a)))) plan_is)

-- ---- the bytes of a plan, or of an error

plan_bytes : (f g : Flags) (r : Result Rows SqlError) (plan : PlanView) → f ≡ g → ◌≡◌ {A = Result PlanView SqlError} (Ok plan) (planned r) → concat (plan_packets plan (status_of f)) ≡ packets (select_reply g r)
plan_bytes f g (Ok r) plan same h =
    let own : PlanView = record { columns = r.columns; rows = r.rows; left = None; row = None } in
    let is : plan ≡ own = cc in
    λ i. concat (plan_packets (is i) (status_of (same i)))
plan_bytes f g (Err e) plan same h = absurd cc

plan_rows : (r : Result Rows SqlError) (plan : PlanView) → ◌≡◌ {A = Result PlanView SqlError} (Ok plan) (planned r) → r ≡ Ok (record { columns = plan.columns; rows = plan.rows })
plan_rows (Ok r) plan h =
    let own : PlanView = record { columns = r.columns; rows = r.rows; left = None; row = None } in
    let is : own ≡ plan = cc in
    ap (λ (v : PlanView). Ok (record { columns = v.columns; rows = v.rows })) is
plan_rows (Err e) plan h = absurd cc

plan_error : (r : Result Rows SqlError) (e : SqlError) → ◌≡◌ {A = Result PlanView SqlError} (Err e) (planned r) → r ≡ Err e
plan_error (Ok r) e h = absurd cc
plan_error (Err x) e h = cc

-- ---- as the session sends it

module _ (t : Turn ServerState Event) (text : List ℕ) (select : Select) (old mid : Session) (x : Selected) (rest : IsAtRest t old) (means : meaning (trimmed text) old.state.state.ansi ≡ Ok (statement.Select select)) (d : HasDecided t text select old mid x)
    (p : Placed old text select d.key (seen_by mid) x d.database) where
  abbrev J : Journal
  J = p.journal ++ p.prunes

  abbrev s : State
  s = state_in old select J

  state_there : mid.state.state ≡ s
  state_there = ap (λ (z : SnapshotState). z.state) d.state ∙ (state_is (place_of x) select d.database old.state ∙ ap (λ (n : ℕ). arrived n (statement.Select select) old.state.state) p.place)

  flags_there : flags_of mid.state.state ≡ flags_of s
  flags_there = ap flags_of state_there

  pub session_there : number_of mid ≡ number_of old
  session_there = let made = arrived_with (length J + 1) select old.state.state in ap (λ (z : State). z.session) (state_there ∙ made.1)

  keyed_there : CanBeKeyed s
  keyed_there =
      let made = arrived_with (length J + 1) select old.state.state in
      let first = arrives_with select old.state in
      let keyed = d.keyed in
      let limit : old.state.state.row_limit < 2 ^ 64 = subst (λ (z : SnapshotState). z.state.row_limit < 2 ^ 64) first.1 keyed.limit in
      subst (λ (z : State). CanBeKeyed z) (sym made.1) (keyed_with (seen_by old) old.state made.0 rest.fit limit)

  key_is : d.key ≡ key_of_text s text
  key_is = d.key_is ∙ sym (key_there (length J + 1) select old.state text)

  present_there : present (seen_by mid) ≡ present J
  present_there = ap present (p.events ∙ sym (append_assoc p.journal p.prunes (event_in old d.key p.tables x ∷ []))) ∙ present_push J (event_in old d.key p.tables x)

  task_there : HasTask t (number_of mid) (task_of x) mid.seat
  task_there =
      let se = d.selects in
      let turns = se.turns in
      subst (λ (n : ℕ). HasTask t n (task_of x) mid.seat) (arrives_session select old.state ∙ sym session_there) turns.has

  selected_rests : task_of x ≡ task.Rest → SeatRests t (number_of mid) mid.seat
  selected_rests is =
      let has = task_there in
      record { seated = has.seated; number = has.number; few = has.few; task = has.task ∙ is; connected = has.connected; events = has.events }

  fixed_there : (view mid.seat).fixed ≡ as_fixed mid.options
  fixed_there =
      let se = d.selects in
      let turns = se.turns in
      turns.fixed ∙ (rest.options ∙ ap as_fixed (sym (ap (λ (z : Session). z.options) d.same)))

  planned_fits : (plan : PlanView) → is_short_select select ≡ true → ◌≡◌ {A = Result PlanView SqlError} (Ok plan) (planned (given_in old select J)) → IsPlanned plan
  planned_fits plan short is = record {
    flags = flags_of s;
    fits = rows_fit text select old d.key (seen_by mid) x d.database means p (record { columns = plan.columns; rows = plan.rows }) short (plan_rows (given_in old select J) plan is);
  }

  refused_fits : (e : SqlError) → is_short_select select ≡ true → ◌≡◌ {A = Result PlanView SqlError} (Err e) (planned (given_in old select J)) → FitsError e
  refused_fits e short is = error_fits text select old d.key (seen_by mid) x d.database means p e short (plan_error (given_in old select J) e is)

start_sends : (t : Turn ServerState Event) (text : List ℕ) (select : Select) (old mid : Session) (serial place : ℕ) (plan : PlanView) → IsAtRest t old → is_short_select select ≡ true → meaning (trimmed text) old.state.state.ansi ≡ Ok (statement.Select select)
    → (d : HasDecided t text select old mid (selected.Start serial place plan)) → Placed old text select d.key (seen_by mid) (selected.Start serial place plan) d.database → MaySend t mid (selected.Start serial place plan)
start_sends t text select old mid serial place plan rest short means d p =
    let x : Selected = selected.Start serial place plan in
    let J : Journal = p.journal ++ p.prunes in
    let se = d.selects in
    let keyed = keyed_there t text select old mid x rest means d p in
    let answers = start_answers text select old d.key (seen_by mid) x d.database means p keyed serial p.tables plan p.allowed p.plan in (
      record {
        has = task_there t text select old mid x rest means d p;
        begins = se.goes;
        start = record {
          who = next_who old;
          key = d.key;
          tables = p.tables;
          earlier = J;
          later = [];
          split = p.events ∙ sym (append_assoc p.journal p.prunes (event_in old d.key p.tables x ∷ []));
        };
        answered = answers ∙ ap (λ (f : Flags). Some (plan_packets plan (status_of f))) (sym (flags_there t text select old mid x rest means d p));
      },
      planned_fits t text select old mid x rest means d p plan short p.plan,
      fixed_there t text select old mid x rest means d p,
    )

-- the seat may send what was decided
pub may_send : (t : Turn ServerState Event) (text : List ℕ) (select : Select) (old mid : Session) (x : Selected) → IsAtRest t old → is_short_select select ≡ true → meaning (trimmed text) old.state.state.ansi ≡ Ok (statement.Select select)
    → HasDecided t text select old mid x → MaySend t mid x
may_send t text select old mid (selected.Hit hit) rest short means d =
    let p = placed t text select old mid (selected.Hit hit) rest d in
    let se = d.selects in
    let goes = se.goes in
    (task_there t text select old mid (selected.Hit hit) rest means d p, goes.streams)
may_send t text select old mid (selected.Start serial place plan) rest short means d = start_sends t text select old mid serial place plan rest short means d (placed t text select old mid (selected.Start serial place plan) rest d)
may_send t text select old mid (selected.Plain why place (Ok plan)) rest short means d =
    let x : Selected = selected.Plain why place (Ok plan) in
    let p = placed t text select old mid x rest d in
    (selected_rests t text select old mid x rest means d p refl, planned_fits t text select old mid x rest means d p plan short p.plan)
may_send t text select old mid (selected.Plain why place (Err e)) rest short means d =
    let x : Selected = selected.Plain why place (Err e) in
    let p = placed t text select old mid x rest d in
    (selected_rests t text select old mid x rest means d p refl, refused_fits t text select old mid x rest means d p e short p.plan)

-- its bytes are the packets of what the select gives
bytes_are : (t : Turn ServerState Event) (text : List ℕ) (select : Select) (old mid : Session) (x : Selected) → IsAtRest t old → meaning (trimmed text) old.state.state.ansi ≡ Ok (statement.Select select) → (d : HasDecided t text select old mid x)
    → (p : Placed old text select d.key (seen_by mid) x d.database) → bytes_for mid x ≡ packets (reply_in old select (p.journal ++ p.prunes))
bytes_are t text select old mid (selected.Hit hit) rest means d p =
    let x : Selected = selected.Hit hit in
    let se = d.selects in
    let goes = se.goes in
    let keyed = keyed_there t text select old mid x rest means d p in
    hit_answers text select old d.key (seen_by mid) x d.database means p keyed hit.serial (bytes_for mid x) p.allowed (key_is t text select old mid x rest means d p)
    (ap (answer d.key) (sym (present_there t text select old mid x rest means d p)) ∙ goes.answered)
bytes_are t text select old mid (selected.Start serial place plan) rest means d p =
    let x : Selected = selected.Start serial place plan in
    let J : Journal = p.journal ++ p.prunes in
    plan_bytes (flags_of mid.state.state) (flags_of (state_in old select J)) (given_in old select J) plan (flags_there t text select old mid x rest means d p) p.plan
bytes_are t text select old mid (selected.Plain why place (Ok plan)) rest means d p =
    let x : Selected = selected.Plain why place (Ok plan) in
    let J : Journal = p.journal ++ p.prunes in
    plan_bytes (flags_of mid.state.state) (flags_of (state_in old select J)) (given_in old select J) plan (flags_there t text select old mid x rest means d p) p.plan
bytes_are t text select old mid (selected.Plain why place (Err e)) rest means d p =
    let J : Journal = p.journal ++ p.prunes in
    ap (λ (r : Result Rows SqlError). packets (select_reply (flags_of (state_in old select J)) r)) (sym (plan_error (given_in old select J) e p.plan))

-- ---- it went out

-- the session behind what was sent, whose seat may have seen more
behind : (t : Turn ServerState Event) (text : List ℕ) (select : Select) (old mid new : Session) (x : Selected) → IsAtRest t old → meaning (trimmed text) old.state.state.ansi ≡ Ok (statement.Select select) → (d : HasDecided t text select old mid x)
    → Placed old text select d.key (seen_by mid) x d.database → EndsWith t (number_of mid) mid.seat new.seat → new ≡ record mid { seat = new.seat } → IsBehind t select old new (seen_by mid) d.database x
behind t text select old mid new x rest means d p ends is =
    let se = d.selects in
    let turns = se.turns in
    let session : number_of mid ≡ number_of old = session_there t text select old mid x rest means d p in
    record {
      on = subst (λ (n : ℕ). GoesOn n (seen_by mid) (seen_by new)) session ends.goes_on;
      rests = subst (λ (n : ℕ). SeatRests t n new.seat) session ends.rests;
      fixed = ends.fixed ∙ turns.fixed;
      registry = ends.registry ∙ turns.registry;
      room = ends.room ∙ turns.room;
      state = ap (λ (z : Session). z.state) is ∙ d.state;
      place = ap (λ (z : Session). z.place) is ∙ ap (λ (z : Session). z.place) d.same;
      lines = ap (λ (z : Session). z.log.lines) is ∙ d.lines;
      options = ap (λ (z : Session). z.options) is ∙ ap (λ (z : Session). z.options) d.same;
      end = ap (λ (z : Session). z.end) is ∙ ap (λ (z : Session). z.end) d.same;
    }

fill_ended : (old : Session) (key : List ℕ) (tables : List TableName) (x : Selected) (seat : Seat ServerState Event ghosts) → HasEndedFill seat x → fill_ends (view seat).seen (event_in old key tables x) ≡ true
fill_ended old key tables (selected.Hit hit) seat h = refl
fill_ended old key tables (selected.Start serial place plan) seat h = h.ended
fill_ended old key tables (selected.Plain why place plan) seat h = refl

pub sent_replies : (t : Turn ServerState Event) (text : List ℕ) (select : Select) (old mid new : Session) (x : Selected) (held out : Option (List Piece)) → IsAtRest t old → meaning (trimmed text) old.state.state.ansi ≡ Ok (statement.Select select) → HasDecided t text select old mid x
    → EndsWith t (number_of mid) mid.seat new.seat → new ≡ record mid { seat = new.seat } → HasEndedFill new.seat x → Sends held out (bytes_for mid x) → SendsAs x (seen_by new) held out (bytes_for mid x)
    → Adds held out (AreCut (size_by (word_of_selected x))) → Adds held out NoneIsEmpty → IsReplied t (command.Query text) old new held out
sent_replies t text select old mid new x held out rest means d ends is filled sends as_it cut some =
    let p = placed t text select old mid x rest d in
    let b = behind t text select old mid new x rest means d p ends is in
    let c = came t text select old new d.key (seen_by mid) x d.database means p b in
    let lawful = lawful_seen t new.seat ends.rests.seated in
    let is_reply = bytes_are t text select old mid x rest means d p in
    let over = fill_ended old d.key p.tables x new.seat filled in
    let how_is = does_how t text select old new d.key (seen_by mid) x d.database means p b (bytes_for mid x) rest is_reply over in
    record {
      reply = bytes_for mid x;
      does = select_does t text select old new d.key (seen_by mid) x d.database means p b (bytes_for mid x) rest is_reply over;
      sends = sends;
      at = put_selected old new (place_of x) d.key p.tables x lawful.0 held out (bytes_for mid x) c.grows lawful.1 sends as_it;
      cut = subst (λ (w : Word). Adds held out (AreCut (size_by w))) (word_is (next_who old) d.key p.tables x ∙ sym how_is) cut;
      some = some;
    }

pub sent_ends : (t : Turn ServerState Event) (text : List ℕ) (select : Select) (old mid new : Session) (x : Selected) (held out : Option (List Piece)) → IsAtRest t old → meaning (trimmed text) old.state.state.ansi ≡ Ok (statement.Select select) → HasDecided t text select old mid x
    → EndsWith t (number_of mid) mid.seat new.seat → new ≡ record mid { seat = new.seat } → SendsFrontAs x held out (bytes_for mid x) → Adds held out (AreCut (size_by (word_of_selected x))) → MustEnd t (command.Query text) old new held out
sent_ends t text select old mid new x held out rest means d ends is front cut =
    let p = placed t text select old mid x rest d in
    let b = behind t text select old mid new x rest means d p ends is in
    let c = came t text select old new d.key (seen_by mid) x d.database means p b in
    select_ends t text select old new d.key (seen_by mid) x d.database means p b (bytes_for mid x) held out (bytes_are t text select old mid x rest means d p) (front_of_selected x held out (bytes_for mid x) front)
    (streamed_selected old new (place_of x) d.key p.tables x held out (bytes_for mid x) c.grows front) cut

-- memory lacked before its event
pub lacks_ends : (t : Turn ServerState Event) (c : Command) (old new : Session) (held : Option (List Piece)) → LacksMemory t old new → MustEnd t c old new held held
lacks_ends t c old new held lacks =
    let seat = lacks.seat in
    let again = seat.again in
    let on = seat.goes_on in
    record {
      rests = again.rests;
      breaks = record {
        begins = on.begins;
        events = [];
        few = omega arith;
        grows = on.none ∙ sym (append-nil (own (number_of old) (seen_by old)));
        lines = ap (λ (z : Session). z.log.lines) lacks.same ∙ sym (append-nil old.log.lines);
        session = lacks.session;
        standing = λ i. (again.fixed i, again.registry i);
        sent = inl (refl, refl);
        at = none_streamed old new held;
      };
    }

-- ---- a hit reads no row

word_hits : (x : Selected) → word_of_selected x ≡ word.Hit → is_hit x ≡ true
word_hits (selected.Hit hit) h = refl
word_hits (selected.Start serial place plan) h = absurd cc
word_hits (selected.Plain why place plan) h = absurd cc

pub logged_hits : (t : Turn ServerState Event) (text : List ℕ) (select : Select) (old mid new : Session) (x : Selected) (l : Logged) → HasDecided t text select old mid x → new ≡ record mid { seat = new.seat } → new.log.lines ≡ old.log.lines ++ l ∷ [] → l.how ≡ word.Hit → is_hit x ≡ true
logged_hits t text select old mid new x l d is lines how_is =
    let one : old.log.lines ++ l ∷ [] ≡ old.log.lines ++ logged (place_of x) (word_of_selected x) ∷ [] = sym lines ∙ (ap (λ (z : Session). z.log.lines) is ∙ d.lines) in
    let same = last_same old.log.lines l (logged (place_of x) (word_of_selected x)) one in
    word_hits x (sym (ap (λ (m : Logged). m.how) same) ∙ how_is)
