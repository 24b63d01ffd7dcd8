-- A query is answered by a hit: what it means, what goes out, and where its session then stands.
use Rattle.std.proofs.Common.{◌≡◌, ℕ, ◌+◌, ◌*◌, ◌≤◌, eq-eqb, Bool, true, false, true≢false, cond, List, [], ◌∷◌, ◌++◌, length, take, refl, sym, ap, ◌∙◌, subst, arith, inr, append-nil, length-append, Option, Some, None, Result, Ok, Err}
use Rattle.std.specs.Prelude.{◌==◌, ◌&&◌, not, find, option_map, nat_lt, MatchOption, OnOk, OnErr}
use Rattle.std.specs.List.{list_all}
use Rattle.std.proofs.lemmas.Bool.Decides.{nat_tests}
use Rattle.std.proofs.lemmas.Slice.Eq.{bytes_eq-Decides}
use Rattle.qc_types.specs.declared.names.Why.{Why}
use Rattle.qc_types.specs.declared.names.Why.TheVariants as why
use Rattle.qc_types.specs.declared.options.Options.{Options}
use Rattle.qc_sql.specs.declared.commands.Command.TheVariants as command
use Rattle.qc_sql.specs.declared.replies.Reply.{Reply}
use Rattle.qc_sql.specs.declared.statements.Select.{Select}
use Rattle.qc_sql.specs.declared.statements.Statement.{Statement}
use Rattle.qc_sql.specs.declared.statements.Statement.TheVariants as statement
use Rattle.qc_sql.specs.declared.tables.RowOp.{RowOp}
use Rattle.qc_sql.specs.Database.{Name, Database}
use Rattle.qc_sql.specs.Grammar.{ParseFault}
use Rattle.qc_sql.specs.Rows.{rows}
use Rattle.qc_sql.specs.Rules.{first_of_calls, first_of_tables, is_system, is_uncached, select_calls, select_tables, why_not}
use Rattle.qc_model.specs.declared.events.Event.{Event}
use Rattle.qc_model.specs.declared.events.Event.TheVariants as event
use Rattle.qc_model.specs.declared.events.How.TheVariants as how
use Rattle.qc_model.specs.declared.reports.ReportLine.{ReportLine}
use Rattle.qc_model.specs.declared.reports.Word.TheVariants as word
use Rattle.qc_model.specs.Agrees.{line, who_of, whole_machine}
use Rattle.qc_model.specs.Cache.{cache}
use Rattle.qc_model.specs.Cache.{Entry as Cached}
use Rattle.qc_model.specs.Choice.{Allows, answering, has_key, is_visible}
use Rattle.qc_model.specs.Journal.{Journal, before, is_by, present}
use Rattle.qc_model.specs.Machine.{Executes, ExecutesText, Local, Selects, local, local_text}
use Rattle.qc_model.specs.Session.{State, Transaction, answer, arrived, base, flags_of, key_of_text, select_reply, snapshot_of, with_transaction}
use Rattle.qc_laws.specs.history.Answers.{AnswersText, packets_of}
use Rattle.qc_laws.specs.runs.Runs.{Answers, Position, own, stand}
use Rattle.qc_laws.proofs.history.Answers.{hits_answer}
use Rattle.qc_laws.proofs.history.Events.{present_push}
use Rattle.qc_laws.proofs.history.Serials.{both_true, serials_apart}
use Rattle.qc_laws.proofs.runs.Steps.{before_it, one_more}
use Rattle.qc_laws.proofs.runs.Whole.{own_count}
use Rattle.qc_trx.specs.SnapshotStates.{SnapshotState, after_arrival}
use Rattle.qc_turn.specs.declared.seat.Seat.{Seat}
use Rattle.qc_turn.specs.declared.task.Task.TheVariants as task
use Rattle.qc_turn.specs.declared.turn.Turn.{Turn}
use Rattle.qc_turn.specs.Bytes.{bytes_of}
use Rattle.qc_turn.specs.Seats.{view}
use Rattle.qc_core.specs.contracts.server.ServerKept.TheImpl.{ghosts}
use Rattle.qc_core.specs.declared.server_state.ServerState.{ServerState}
use Rattle.qc_core.proofs.Seeking.{own_serial}
use Rattle.qc_flow.specs.declared.streams.Stream.{Stream}
use Rattle.qc_flow.specs.Streams.{IsStreamOf}
use Rattle.qc_statements.specs.Selects.{arrived_at}
use Rattle.qc_statements.specs.Sound.{IsFitAt, IsFitIn, IsFitState, IsPast, arrived_snapshot_state}
use Rattle.qc_statements.proofs.Looking.{place_at, same_wrote, stale_at}
use Rattle.qc_statements.proofs.States.{fit_arrived, fit_more}
use Rattle.qc_serve.specs.declared.lookup.Found.{Found}
use Rattle.qc_serve.specs.declared.session.Session.{Session}
use Rattle.qc_serve.specs.declared.sinks.Piece.{Piece}
use Rattle.qc_serve.specs.Asking.{takes_snapshot}
use Rattle.qc_serve.specs.Executed.{HasEventLine, IsReplied, MustEnd}
use Rattle.qc_serve.specs.Going.{DoesOne, IsAtRest, as_fixed, next_who, number_of, position_of, seen_by}
use Rattle.qc_serve.specs.Logs.{logged}
use Rattle.qc_serve.specs.Querying.{EndsStream, HasFound, seen_with}
use Rattle.qc_serve.specs.Seats.{SeatRests}
use Rattle.qc_serve.specs.Sent.{Adds, AreCut, NoneIsEmpty, Sends, SendsFrontOf, hit_size}
use Rattle.qc_serve.specs.SentAt.{SendsAt, SendsFrontAt}
use Rattle.qc_serve.proofs.Answering.{answers_event}
use Rattle.qc_serve.proofs.Hitting.{from_map}
use Rattle.qc_serve.proofs.Resting.{fit_taken}
use Rattle.qc_serve.proofs.PiecesPut.{put_hit, streamed_hit}
use Rattle.qc_serve.proofs.Sending.{front_plain}

-- ---- a select that may be kept names a table

names_tables : (db : Name) (s : Select) → why_not db s ≡ None → (length s.from == 0) ≡ false
names_tables db s h = elim s.lock as (λ b. (cond b (Some why.Locking) (cond (length s.from == 0) (Some why.NoTables) (rest s))) ≡ None → (length s.from == 0) ≡ false) [
  | true ↦ λ g. absurd cc
  | false ↦ λ g. elim (length s.from == 0) as (λ b. cond b (Some why.NoTables) (rest s) ≡ None → b ≡ false) [
    | true ↦ λ k. absurd cc
    | false ↦ λ k. refl
  ] g
] h
  where
    rest : Select → Option Why
    rest x = first_of_tables (find is_system (select_tables db x)) (first_of_calls (find is_uncached (select_calls x)))

some_there : (n : ℕ) → (n == 0) ≡ false → nat_lt 0 n ≡ true
some_there n h = grind (arith, nat_tests)

-- it is validated in the state that has arrived at its place
state_is : (place : ℕ) (select : Select) (state : State) → (length select.from == 0) ≡ false → arrived place (statement.Select select) state ≡ arrived_at place state
state_is place select state some = rw (some_there (length select.from) some) refl

-- ---- a snapshot that fits a journal is past behind the next event

past_at : (J : Journal) (e : Event) (origin : _) (p : _) (ops : _) → IsFitAt J origin p ops → IsPast (J ++ e ∷ []) p
past_at J e origin None ops f = tt
past_at J e origin (Some place) ops f = omega (arith, f.most, length-append J (e ∷ []))

pub past_behind : (J : Journal) (e : Event) (x : SnapshotState) → IsFitState J x → IsPast (J ++ e ∷ []) (snapshot_of x.state)
past_behind J e x fit = let state = x.state in in_transaction state.transaction fit.transaction
  where
    in_transaction : (o : Option Transaction) → IsFitIn J x.origin o → IsPast (J ++ e ∷ []) (snapshot_of (with_transaction x.state o))
    in_transaction None f = tt
    in_transaction (Some t) f = past_at J e x.origin t.snapshot t.operations f

-- ---- a state that takes no snapshot sees no other database

by_snapshot : (place : ℕ) (d : Database) (s : State) (p : Option ℕ) (ops : List RowOp) (origin : Option Database)
    → takes_snapshot (record s { transaction = Some (record { snapshot = p; operations = ops }) }) ≡ false
    → arrived_snapshot_state place d (record { state = record s { transaction = Some (record { snapshot = p; operations = ops }) }; origin = origin })
    ≡ after_arrival (record { state = record s { transaction = Some (record { snapshot = p; operations = ops }) }; origin = origin })
by_snapshot place d s None ops origin none = absurd (true≢false none)
by_snapshot place d s (Some k) ops origin none = refl

by_transaction : (place : ℕ) (d : Database) (autocommit : Bool) (s : State) (t : Option Transaction) (origin : Option Database) → takes_snapshot (record s { autocommit = autocommit; transaction = t }) ≡ false
    → arrived_snapshot_state place d (record { state = record s { autocommit = autocommit; transaction = t }; origin = origin }) ≡ after_arrival (record { state = record s { autocommit = autocommit; transaction = t }; origin = origin })
by_transaction place d autocommit s (Some t) origin none = by_snapshot place d (record s { autocommit = autocommit }) t.snapshot t.operations origin none
by_transaction place d true s None origin none = refl
by_transaction place d false s None origin none = absurd (true≢false none)

seen_session : (place : ℕ) (given : Option Database) (x : SnapshotState) → (seen_with place given x).state.session ≡ x.state.session
seen_session place None x = refl
seen_session place (Some d) x = refl

-- so what it is given is enough
seen_share : (place : ℕ) (d : Database) (given : Option Database) (x : SnapshotState) → given ≡ cond (takes_snapshot x.state) (Some d) None → seen_with place given (after_arrival x) ≡ arrived_snapshot_state place d x
seen_share place d given x share = elim (takes_snapshot x.state) as (λ b. takes_snapshot x.state ≡ b → given ≡ cond b (Some d) None → seen_with place given (after_arrival x) ≡ arrived_snapshot_state place d x) [
  | true ↦ λ e f. ap (λ (o : Option Database). seen_with place o (after_arrival x)) f
  | false ↦ λ e f. ap (λ (o : Option Database). seen_with place o (after_arrival x)) f ∙ sym (by_transaction place d x.state.autocommit x.state x.state.transaction x.origin e)
] refl share

same_bytes : (o : Option (List ℕ)) (a b : List ℕ) → o ≡ Some a → o ≡ Some b → a ≡ b
same_bytes o a b h g = let both : Some a ≡ Some b = sym h ∙ g in cc

-- ---- what the hit answers

module _ (t : Turn ServerState Event) (text : List ℕ) (old held : Session) (found : Found) (rest : IsAtRest t old) (f : HasFound t text old held found) where
  abbrev n : ℕ
  n = found.hit.serial

  abbrev state : State
  state = old.state.state

  abbrev J : Journal
  J = f.streams.decides.journal

  abbrev e : Event
  e = event.Run (next_who old) (how.Hit n)

  -- the state in which the select is validated
  abbrev at : State
  at = arrived_at (length J + 1) state

  -- the database that the journal makes before its event
  abbrev database : Database
  database = f.streams.decides.is_so.1.database

  events : seen_by held ≡ J ++ e ∷ []
  events = let d = f.streams.decides in d.events ∙ ap (λ (x : Event). J ++ x ∷ []) d.is_so.0

  fit : IsFitState J old.state
  fit = fit_taken t old J rest f.streams.decides.goes_on

  abbrev key : List ℕ
  key = key_of_text at text

  -- the entry that answers is the same in the state that has arrived
  answers : option_map (λ (y : Cached). y.serial) (answering at J key) ≡ Some n
  answers =
      (λ i. option_map (λ (y : Cached). y.serial) (find (λ (y : Cached). y.complete && has_key (sym (f.key_is (length J + 1)) i) y && list_all (λ x. not (same_wrote (length J + 1) state x i) && not (stale_at J state x i)) y.tables) (cache J)))
      ∙ f.streams.decides.is_so.2

  abbrev was : (y : Cached) × (answering at J key ≡ Some y) × (y.serial ≡ n)
  was = from_map (answering at J key) n answers

  own_test : (was.0.complete && has_key key was.0 && is_visible at J was.0) ≡ true
  own_test = let m = f.streams.decides.is_so.1.makes in (own_serial (λ y. y.complete && has_key key y && is_visible at J y) (cache J) was.0 (serials_apart m.0 J m.1.lawful) was.1).1

  key_was : was.0.key ≡ key
  key_was = (bytes_eq-Decides was.0.key key).0 (both_true was.0.complete (has_key key was.0) (both_true (was.0.complete && has_key key was.0) (is_visible at J was.0) own_test).0).1

  answers_text : AnswersText at J text was.0
  answers_text =
      let m = f.streams.decides.is_so.1.makes in
      hits_answer m.0 J at text was.0 (λ y. y.complete && has_key key y && is_visible at J y) m.1.lawful (f.keyed (length J + 1)) (place_at J old.state fit) was.1 key_was (both_true (was.0.complete && has_key key was.0) (is_visible at J was.0) own_test).1

  abbrev select : Select
  select = answers_text.select

  abbrev reply : Reply
  reply = select_reply (flags_of at) (rows select (base at J) at.db (flags_of at) at.session)

  -- the bytes that the seat streams
  abbrev bytes : List ℕ
  bytes = take found.hit.bytes (bytes_of (view held.seat).content)

  present_is : present (seen_by held) ≡ present J
  present_is = ap present events ∙ present_push J e

  bytes_is : bytes ≡ packets_of at J select
  bytes_is =
      let s = f.streams.streams in
      same_bytes (answer was.0.key (present J)) bytes (packets_of at J select) ((λ i. answer ((key_was ∙ sym (f.key_is (length J + 1))) i) (sym present_is i)) ∙ s.answered) answers_text.answers

  allowed : Allows old.options at text select J (how.Hit n)
  allowed = rw (f.asked, was.1) (ap how.Hit (sym was.2))

  executed : Executes old.options (next_who old) state (command.Query text) J e reply at
  executed =
      let some = names_tables at.db select answers_text.kept in
      subst (λ (m : Result Statement ParseFault). ExecutesText old.options (next_who old) state text J m e reply at) (sym answers_text.means)
      (subst (λ (s : State). Selects old.options (next_who old) s text select J e reply at) (sym (state_is (length J + 1) select state some)) (record { chosen = (how.Hit n, refl, allowed); answered = refl; same = refl }))

  no_local : local state (command.Query text) ≡ None
  no_local = subst (λ (m : Result Statement ParseFault). local_text state m ≡ None) (sym answers_text.means) refl

  mine : is_by (number_of old) e ≡ true
  mine = eq-eqb (number_of old) (number_of old) refl

  place_is : found.hit.place ≡ 1 + length J + length {A = Event} []
  place_is = let s = f.streams in s.place ∙ (ap length events ∙ (length-append J (e ∷ []) ∙ omega arith))

  -- ---- where the session then stands

  -- new: its event came with its line, and its seat rests again
  pub record Streamed (new : Session) : Type 0 where
    pub rests : SeatRests t (number_of old) new.seat
    pub seen : seen_by new ≡ seen_by held
    pub fixed : (view new.seat).fixed ≡ (view held.seat).fixed
    pub registry : (view new.seat).registry ≡ (view held.seat).registry
    pub room : new.seat.ranges.room ≡ held.seat.ranges.room
    pub state : new.state ≡ arrived_snapshot_state found.hit.place database old.state
    pub place : new.place ≡ found.hit.place
    pub lines : new.log.lines ≡ old.log.lines ++ logged found.hit.place word.Hit ∷ []
    pub options : new.options ≡ old.options
    pub end : new.end ≡ old.end

  module _ (new : Session) (s : Streamed new) where
    seen_now : seen_by new ≡ J ++ e ∷ []
    seen_now = s.seen ∙ events

    state_now : new.state ≡ arrived_snapshot_state (length J + 1) database old.state
    state_now = s.state ∙ ap (λ (p : ℕ). arrived_snapshot_state p database old.state) (place_is ∙ omega arith)

    fit_now : IsFitState J new.state
    fit_now = let m = f.streams.decides.is_so.1.makes in subst (IsFitState J) (sym state_now) (fit_arrived {o = m.0} J database old.state m.1 fit)

    rest_now : IsAtRest t new
    rest_now =
        let turns = f.streams.turns in
        record {
          rests = subst (λ (k : ℕ). SeatRests t k new.seat) (sym (ap (λ (x : SnapshotState). x.state.session) s.state)) s.rests;
          fit = subst (λ (j : Journal). IsFitState j new.state) (sym seen_now) (fit_more J e new.state refl fit_now);
          past = subst (λ (j : Journal). IsPast j (snapshot_of new.state.state)) (sym seen_now) (past_behind J e new.state fit_now);
          reached = omega (arith, s.place, f.streams.place, ap length s.seen);
          options = s.fixed ∙ (turns.fixed ∙ (rest.options ∙ ap as_fixed (sym s.options)));
          ranges = subst (λ (p : Options × ℕ). p.0.size ≤ 512 * p.1) (λ i. (sym s.options i, sym (s.room ∙ turns.room) i)) rest.ranges;
        }

    pub does_hit : DoesOne t (command.Query text) old new bytes
    does_hit =
        let I : Journal = seen_by old in
        let goes = f.streams.decides.goes_on in
        let a : Answers whole_machine old.options (number_of old) (stand I state old.place) (command.Query text) (line (1 + length J + length {A = Event} []) word.Hit reply) (stand (J ++ e ∷ []) at (1 + length J + length {A = Event} []))
        = answers_event whole_machine old.options (number_of old) I J [] [] state at old.place (command.Query text) e reply refl goes.begins goes.none refl mine refl refl no_local
        (subst (λ (j : Journal). Executes old.options (next_who old) state (command.Query text) j e reply at) (sym (append-nil J)) executed) tt in
        let at_place : 1 + length J + length {A = Event} [] ≡ new.place = sym (s.place ∙ place_is) in
        record {
          answered = line new.place word.Hit reply;
          answers = subst (λ (p : ℕ × Position). Answers whole_machine old.options (number_of old) (position_of old) (command.Query text) (line p.0 word.Hit reply) p.1)
              (λ i. (at_place i, stand (sym seen_now i) (sym (ap (λ (x : SnapshotState). x.state) state_now) i) (at_place i))) a;
          reply = sym bytes_is;
          lines = s.lines ∙ ap (λ (p : ℕ). old.log.lines ++ logged p word.Hit ∷ []) (sym s.place);
          options = s.options;
          standing = let turns = f.streams.turns in λ i. ((s.fixed ∙ turns.fixed) i, (s.registry ∙ turns.registry) i);
          end = s.end;
          session = ap (λ (x : SnapshotState). x.state.session) s.state;
          rest = rest_now;
        }

    hit_grows : own (number_of old) (seen_by new) ≡ own (number_of old) (seen_by old) ++ (new.place, e) ∷ []
    hit_grows =
        let I : Journal = seen_by old in
        let goes = f.streams.decides.goes_on in
        let at_place : 1 + length J + length {A = Event} [] ≡ new.place = sym (s.place ∙ place_is) in
        ap (own (number_of old)) seen_now ∙ (one_more (number_of old) I J [] [] e goes.none refl mine refl ∙ ap (λ (p : ℕ). own (number_of old) I ++ (p, e) ∷ []) at_place)

    -- the reply went out
    pub hit_replied : (was_held out : Option (List Piece)) → SendsAt (task.Stream n) was_held out bytes → Adds was_held out (AreCut hit_size) → Adds was_held out NoneIsEmpty → IsReplied t (command.Query text) old new was_held out
    unfolding does_hit
    hit_replied was_held out sends cut some = record { reply = bytes; does = does_hit; sends = plain was_held sends; at = put_hit old new new.place n _ was_held out bytes hit_grows sends; cut = cut; some = some }
      where
        plain : (o : Option (List Piece)) → SendsAt (task.Stream n) o out bytes → Sends o out bytes
        plain None h = h
        plain (Some ps) h = (h.0, h.1, h.2.0)

    -- or a front of it
    pub hit_ends : (was_held out : Option (List Piece)) → SendsFrontAt (task.Stream n) was_held out bytes → Adds was_held out (AreCut hit_size) → MustEnd t (command.Query text) old new was_held out
    hit_ends was_held out front cut =
        let I : Journal = seen_by old in
        let goes = f.streams.decides.goes_on in
        let does = does_hit in
        let at_place : 1 + length J + length {A = Event} [] ≡ new.place = sym (s.place ∙ place_is) in
        let l : ReportLine = line new.place word.Hit reply in
        let grows : own (number_of old) (seen_by new) ≡ own (number_of old) I ++ (new.place, e) ∷ [] =
        ap (own (number_of old)) seen_now ∙ (one_more (number_of old) I J [] [] e goes.none refl mine refl ∙ ap (λ (p : ℕ). own (number_of old) I ++ (p, e) ∷ []) at_place) in
        let earlier : before new.place (seen_by new) ≡ J = (λ i. before (sym at_place i) (seen_now i)) ∙ (before_it J [] [] e ∙ append-nil J) in
        let ran : Executes old.options (who_of (number_of old) (length (own (number_of old) I) + 1)) state (command.Query text) (before new.place (seen_by new)) e reply at =
        subst (λ (p : ℕ × Journal). Executes old.options (who_of (number_of old) (p.0 + 1)) state (command.Query text) p.1 e reply at) (λ i. (sym (own_count (number_of old) I) i, sym earlier i)) executed in
        let event_line : HasEventLine whole_machine old.options (number_of old) (position_of old) (command.Query text) l (seen_by new) = (e, reply, at, grows, ran, refl, tt) in
        record {
          rests = s.rests;
          breaks = record {
            begins = does.answers.begins;
            events = (new.place, e) ∷ [];
            few = omega arith;
            grows = grows;
            lines = s.lines ∙ ap (λ (p : ℕ). old.log.lines ++ logged p word.Hit ∷ []) (sym s.place);
            session = ap (λ (x : SnapshotState). x.state.session) s.state;
            standing = does.standing;
            sent = inr (
              l,
              subst (λ (o : Local). MatchOption o (HasEventLine whole_machine old.options (number_of old) (position_of old) (command.Query text) l (seen_by new)) (λ given. (l ≡ line old.place word.Local given.0) × (own (number_of old) (seen_by new) ≡ own (number_of old) (seen_by old)))) (sym no_local) event_line,
              subst (λ (b : List ℕ). SendsFrontOf was_held out b) bytes_is (front_plain (task.Stream n) was_held out bytes front),
              cut,
            );
            at = streamed_hit old new new.place n _ was_held out bytes grows front;
          };
        }

-- ---- the session's calls

-- the state has arrived, and has seen what it was given; then the line was put
abbrev pub HasPut : Session → Session → Found → Type 0
HasPut held mid found = mid ≡ record held { state = seen_with found.hit.place found.database (after_arrival held.state); place = found.hit.place; log = mid.log }

pub has_put : (held seen mid : Session) (found : Found) → seen ≡ record held { state = seen_with found.hit.place found.database (after_arrival held.state) } → mid ≡ record seen { place = found.hit.place; log = mid.log } → HasPut held mid found
has_put held seen mid found sees is = is ∙ (λ i. record (sees i) { place = found.hit.place; log = mid.log })

-- mid: the line was_held put; new: the stream has ended
pub streamed : (t : Turn ServerState Event) (text : List ℕ) (old held mid new : Session) (found : Found) (rest : IsAtRest t old) (f : HasFound t text old held found)
    → HasPut held mid found → mid.log.lines ≡ held.log.lines ++ logged found.hit.place word.Hit ∷ []
    → EndsStream t (number_of mid) mid.seat new.seat → new ≡ record mid { seat = new.seat } → Streamed t text old held found rest f new
streamed t text old held mid new found rest f is lines ends same =
    let session : number_of mid ≡ number_of old = ap (λ (x : Session). x.state.state.session) is ∙ (seen_session found.hit.place found.database (after_arrival held.state) ∙ ap (λ (x : Session). x.state.state.session) f.same) in
    let seat : mid.seat ≡ held.seat = ap (λ (x : Session). x.seat) is in
    let shares = f.streams.decides.is_so.1 in
    record {
      rests = subst (λ (k : ℕ). SeatRests t k new.seat) session ends.rests;
      seen = ends.seen ∙ ap (λ (x : Seat ServerState Event ghosts). (view x).seen) seat;
      fixed = ends.fixed ∙ ap (λ (x : Seat ServerState Event ghosts). (view x).fixed) seat;
      registry = ends.registry ∙ ap (λ (x : Seat ServerState Event ghosts). (view x).registry) seat;
      room = ends.room ∙ ap (λ (x : Seat ServerState Event ghosts). x.ranges.room) seat;
      state = ap (λ (x : Session). x.state) same ∙ (ap (λ (x : Session). x.state) is ∙ (ap (λ (x : Session). seen_with found.hit.place found.database (after_arrival x.state)) f.same ∙ seen_share found.hit.place shares.database found.database old.state shares.share));
      place = ap (λ (x : Session). x.place) same ∙ ap (λ (x : Session). x.place) is;
      lines = ap (λ (x : Session). x.log.lines) same ∙ (lines ∙ ap (λ (x : Session). x.log.lines ++ logged found.hit.place word.Hit ∷ []) f.same);
      options = ap (λ (x : Session). x.options) same ∙ (ap (λ (x : Session). x.options) is ∙ ap (λ (x : Session). x.options) f.same);
      end = ap (λ (x : Session). x.end) same ∙ (ap (λ (x : Session). x.end) is ∙ ap (λ (x : Session). x.end) f.same);
    }

-- whatever became of the reply
pub hit_replies : {X E : Type 0} (t : Turn ServerState Event) (text : List ℕ) (old held mid new : Session) (found : Found) (r : Result X E) (was_held out : Option (List Piece)) (rest : IsAtRest t old) (f : HasFound t text old held found) → Streamed t text old held found rest f new → mid.seat ≡ held.seat
    → OnOk r (SendsAt (task.Stream found.hit.serial) was_held out (take found.hit.bytes (bytes_of (view mid.seat).content))) → Adds was_held out (AreCut hit_size) → OnOk r (Adds was_held out NoneIsEmpty) → OnOk r (IsReplied t (command.Query text) old new was_held out)
hit_replies t text old held mid new found (Ok x) was_held out rest f s seat sends cut some = hit_replied t text old held found rest f new s was_held out (subst (λ (y : Seat ServerState Event ghosts). SendsAt (task.Stream found.hit.serial) was_held out (take found.hit.bytes (bytes_of (view y).content))) seat sends) cut some
hit_replies t text old held mid new found (Err e) was_held out rest f s seat sends cut some = tt

pub hit_breaks : {X E : Type 0} (t : Turn ServerState Event) (text : List ℕ) (old held mid new : Session) (found : Found) (r : Result X E) (was_held out : Option (List Piece)) (rest : IsAtRest t old) (f : HasFound t text old held found) → Streamed t text old held found rest f new → mid.seat ≡ held.seat
    → OnErr r (SendsFrontAt (task.Stream found.hit.serial) was_held out (take found.hit.bytes (bytes_of (view mid.seat).content))) → Adds was_held out (AreCut hit_size) → OnErr r (MustEnd t (command.Query text) old new was_held out)
hit_breaks t text old held mid new found (Ok x) was_held out rest f s seat front cut = tt
hit_breaks t text old held mid new found (Err e) was_held out rest f s seat front cut = hit_ends t text old held found rest f new s was_held out (subst (λ (y : Seat ServerState Event ghosts). SendsFrontAt (task.Stream found.hit.serial) was_held out (take found.hit.bytes (bytes_of (view y).content))) seat front) cut

-- what the stream asks
pub may_stream : (t : Turn ServerState Event) (text : List ℕ) (old held mid : Session) (found : Found) → HasFound t text old held found → HasPut held mid found
    → (x : Stream) → x.serial ≡ found.hit.serial → x.bytes ≡ found.hit.bytes → IsStreamOf x (view mid.seat)
may_stream t text old held mid found f is x serial size =
    let s = f.streams.streams in
    subst (λ (y : Seat ServerState Event ghosts). IsStreamOf x (view y)) (sym (ap (λ (z : Session). z.seat) is)) (s.streams x serial size)
