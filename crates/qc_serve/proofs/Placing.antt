-- A select's event at its place, and the state in which the select is validated there.
use Rattle.std.proofs.Common.{◌≡◌, ℕ, ◌+◌, ◌*◌, ◌≤◌, Bool, true, false, List, [], ◌∷◌, ◌++◌, length, refl, sym, ap, ◌∙◌, subst, arith, append_assoc, length-append, Option, None, Some, Result, Ok, inr, true≢false, cond, eq-eqb}
use Rattle.std.specs.Prelude.{IfSome, IsTrue, MatchOption, option_map, reverse, ◌==◌, ◌||◌, if◌then◌else◌}
use Rattle.std.specs.List.{list_all}
use Rattle.std.proofs.lemmas.Bool.{and_from, and_parts}
use Rattle.std.proofs.lemmas.List.Folds.{list_all-append}
use Rattle.qc_types.specs.declared.names.TableName.{TableName}
use Rattle.qc_types.specs.declared.options.Options.{Options}
use Rattle.qc_types.specs.declared.sql_error.SqlError.{SqlError}
use Rattle.qc_types.specs.Blocks.{least_block, raised}
use Rattle.qc_sql.specs.declared.commands.Command.TheVariants as command
use Rattle.qc_sql.specs.declared.replies.Reply.{Reply}
use Rattle.qc_sql.specs.declared.session.Flags.{Flags}
use Rattle.qc_sql.specs.declared.statements.Select.{Select}
use Rattle.qc_sql.specs.declared.statements.Statement.{Statement}
use Rattle.qc_sql.specs.declared.statements.Statement.TheVariants as statement
use Rattle.qc_sql.specs.declared.tables.RowOp.{RowOp}
use Rattle.qc_sql.specs.Database.{Database}
use Rattle.qc_sql.specs.Grammar.{ParseFault, meaning, trimmed}
use Rattle.qc_sql.specs.Keys.{flag_bytes}
use Rattle.qc_sql.specs.Packets.{packets}
use Rattle.qc_sql.specs.Rows.{Rows}
use Rattle.qc_sql.specs.Rules.{select_tables}
use Rattle.qc_model.specs.declared.events.Event.{Event}
use Rattle.qc_model.specs.declared.events.Event.TheVariants as event
use Rattle.qc_model.specs.declared.events.How.TheVariants as how
use Rattle.qc_model.specs.declared.events.Reason.TheVariants as reason
use Rattle.qc_model.specs.declared.events.Who.{Who}
use Rattle.qc_model.specs.declared.reports.ReportLine.{ReportLine}
use Rattle.qc_model.specs.declared.reports.Word.{Word}
use Rattle.qc_model.specs.declared.reports.Word.TheVariants as word
use Rattle.qc_model.specs.Agrees.{fill_ends, line, who_of, whole_machine, word_of}
use Rattle.qc_model.specs.Cache.{is_prune}
use Rattle.qc_model.specs.Choice.{Allows}
use Rattle.qc_model.specs.Journal.{Journal, before, events_of, is_by, operations}
use Rattle.qc_model.specs.Licence.{IsLawful, unit_words, words_of_bytes}
use Rattle.qc_model.specs.Machine.{Executes, ExecutesText, Local, local, local_text}
use Rattle.qc_model.specs.Needs.{HasOwnNeeds, leading_needs}
use Rattle.qc_model.specs.Session.{State, Transaction, arrived, flags_of, key_of_text, opened, select_reply, snapshot_of, snapshot_taken, uses_rows, with_transaction}
use Rattle.qc_laws.specs.runs.Runs.{HasItsEvent, HasNoEvent, Position, StartsWith, own}
use Rattle.qc_laws.specs.sizes.Operations.{is_small_event}
use Rattle.qc_laws.proofs.history.Events.{lawful_prefix}
use Rattle.qc_laws.proofs.runs.Steps.{before_it, one_more}
use Rattle.qc_laws.proofs.runs.Whole.{own_count}
use Rattle.qc_trx.specs.SnapshotStates.{SnapshotState, after_arrival, after_sight}
use Rattle.qc_turn.specs.declared.turn.Turn.{Turn}
use Rattle.qc_turn.specs.Seats.{view}
use Rattle.qc_turn.proofs.Tasks.{starts_trans}
use Rattle.qc_core.specs.declared.server_state.ServerState.{ServerState}
use Rattle.qc_select.specs.declared.selected.Selected.{Selected}
use Rattle.qc_select.specs.declared.selected.Selected.TheVariants as selected
use Rattle.qc_select.specs.Selects.{HasPlan, given, how_of, place_of}
use Rattle.qc_select.specs.Settled.{state_at}
use Rattle.qc_select.proofs.Arriving as arriving
use Rattle.qc_select.proofs.Pruned.{present_stays}
use Rattle.qc_statements.specs.Sound.{IsFitAt, IsFitIn, IsFitState, IsPast, IsSound}
use Rattle.qc_statements.proofs.States.{fit_arrived, fit_more}
use Rattle.qc_serve.specs.declared.session.Session.{Session}
use Rattle.qc_serve.specs.declared.sinks.Piece.{Piece}
use Rattle.qc_serve.specs.Executed.{AreStreamedBy, HasEventLine, MustEnd, size_by}
use Rattle.qc_serve.specs.Going.{DoesOne, IsAtRest, as_fixed, next_who, number_of, position_of, seen_by}
use Rattle.qc_serve.specs.Logs.{logged}
use Rattle.qc_serve.specs.Querying.{HasDecided, arrives, arrives_at, word_of_selected}
use Rattle.qc_serve.specs.Seats.{GoesOn, SeatRests, next_of}
use Rattle.qc_serve.specs.Sent.{Adds, AreCut, SendsFrontOf}
use Rattle.qc_serve.proofs.Resting.{Follows, fit_later, past_later}
use Rattle.qc_serve.proofs.Selecting.{arrives_session, arrives_with}

-- the state in which a select is validated whose event comes behind a journal
abbrev pub state_in : Session → Select → Journal → State
state_in old select J = arrived (length J + 1) (statement.Select select) old.state.state

-- what it gives there
abbrev pub given_in : Session → Select → Journal → Result Rows SqlError
given_in old select J = given (state_in old select J) J select

abbrev pub reply_in : Session → Select → Journal → Reply
reply_in old select J = select_reply (flags_of (state_in old select J)) (given_in old select J)

abbrev pub event_in : Session → List ℕ → List TableName → Selected → Event
event_in old key tables x = event.Run (next_who old) (how_of key tables x)

-- The journal as it was taken, some prunes, then the event of the select, which is allowed there and has needs of its own. The plan is that of the database
-- which the session sees there.
pub record Placed (old : Session) (text : List ℕ) (select : Select) (key : List ℕ) (now : Journal) (x : Selected) (database : Database) : Type 0 where
  pub journal : Journal
  pub prunes : Journal
  pub tables : List TableName
  pub goes_on : GoesOn (number_of old) (seen_by old) journal
  pub only : list_all is_prune prunes ≡ true
  pub events : now ≡ journal ++ (prunes ++ event_in old key tables x ∷ [])
  pub place : place_of x ≡ length (journal ++ prunes) + 1
  pub allowed : Allows old.options (state_in old select (journal ++ prunes)) text select (journal ++ prunes) (how_of key tables x)
  pub needs : HasOwnNeeds old.options (journal ++ prunes) (key_of_text old.state.state text) (event_in old key tables x)
  pub plan : HasPlan (given_in old select (journal ++ prunes)) x
  pub sound : IsSound old.options (journal ++ prunes) database
  pub fit : IsFitState (journal ++ prunes) (arrives_at select (length (journal ++ prunes) + 1) database old.state)

-- The session behind the event, whose seat rests and has seen the journal up to it, or more.
pub record IsBehind (t : Turn ServerState Event) (select : Select) (old new : Session) (now : Journal) (d : Database) (x : Selected) : Type 0 where
  pub on : GoesOn (number_of old) now (seen_by new)
  pub rests : SeatRests t (number_of old) new.seat
  pub fixed : (view new.seat).fixed ≡ (view old.seat).fixed
  pub registry : (view new.seat).registry ≡ (view old.seat).registry
  pub room : new.seat.ranges.room ≡ old.seat.ranges.room
  pub state : new.state ≡ arrives_at select (place_of x) d old.state
  pub place : new.place ≡ place_of x
  pub lines : new.log.lines ≡ old.log.lines ++ logged (place_of x) (word_of_selected x) ∷ []
  pub options : new.options ≡ old.options
  pub end : new.end ≡ old.end

-- ---- the state at the place

pub arrived_with : (place : ℕ) (select : Select) (s : State) → (o : Option Transaction) × (arrived place (statement.Select select) s ≡ with_transaction s o)
arrived_with place select s = by (uses_rows (statement.Select select))
  where
    by : (b : Bool) → (o : Option Transaction) × ((if b then with_transaction s (option_map (snapshot_taken place) (opened s)) else s) ≡ with_transaction s o)
    by true = (option_map (snapshot_taken place) (opened s), refl)
    by false = (s.transaction, refl)

-- the session's own state is the machine's
pub state_is : (place : ℕ) (select : Select) (d : Database) (x : SnapshotState) → (arrives_at select place d x).state ≡ arrived place (statement.Select select) x.state
state_is place select d x = by (uses_rows (statement.Select select))
  where
    by : (b : Bool) → (if b then after_sight place d (if b then after_arrival x else x) else (if b then after_arrival x else x)).state ≡ (if b then with_transaction x.state (option_map (snapshot_taken place) (opened x.state)) else x.state)
    by true = refl
    by false = refl

arrives_state : (select : Select) (x : SnapshotState) → (arrives select x).state ≡ (if uses_rows (statement.Select select) then with_transaction x.state (opened x.state) else x.state)
arrives_state select x = by (uses_rows (statement.Select select))
  where
    by : (b : Bool) → (if b then after_arrival x else x).state ≡ (if b then with_transaction x.state (opened x.state) else x.state)
    by true = refl
    by false = refl

-- it fits the journal before the event
fits_at : {o : Options} (K : Journal) (select : Select) (d : Database) (x : SnapshotState) → IsSound o K d → IsFitState K x → IsFitState K (arrives_at select (length K + 1) d x)
fits_at K select d x sound fit = by (uses_rows (statement.Select select))
  where
    by : (b : Bool) → IsFitState K (if b then after_sight (length K + 1) d (if b then after_arrival x else x) else (if b then after_arrival x else x))
    by true = fit_arrived K d x sound fit
    by false = fit

taken_within : (n : ℕ) (p : Option ℕ) (I : Journal) → length I ≤ n → IsPast I p → IfSome p (λ place. place ≤ n)
taken_within n None I long h = tt
taken_within n (Some place) I long h = omega (arith, long, h)

past_at : (K : Journal) (e : Event) (origin : Option Database) (place : Option ℕ) (ops : List RowOp) → IsFitAt K origin place ops → IsPast (K ++ e ∷ []) place
past_at K e origin None ops h = tt
past_at K e origin (Some n) ops h = omega (arith, h.most, length-append K (e ∷ []))

past_in : (K : Journal) (e : Event) (s : State) (origin : Option Database) (o : Option Transaction) → IsFitIn K origin o → IsPast (K ++ e ∷ []) (snapshot_of (with_transaction s o))
past_in K e s origin None h = tt
past_in K e s origin (Some x) h = past_at K e origin x.snapshot x.operations h

-- its snapshot was taken at the event at the latest
fit_past : (K : Journal) (e : Event) (x : SnapshotState) → IsFitState K x → IsPast (K ++ e ∷ []) (snapshot_of x.state)
fit_past K e x fit = let s = x.state in past_in K e s x.origin s.transaction fit.transaction

-- ---- prunes

none_by : (s : ℕ) (e : Event) → is_prune e ≡ true → is_by s e ≡ false
none_by s (event.Prune n need largest) h = refl
none_by s e h = absurd (true≢false (sym h))

quiet_prunes : (s : ℕ) (q : Journal) → list_all is_prune q ≡ true → events_of s q ≡ []
quiet_prunes s [] h = refl
quiet_prunes s (e ∷ q) h =
    let p = and_parts (is_prune e) (list_all is_prune q) h in
    ap (λ b. cond b (e ∷ events_of s q) (events_of s q)) (none_by s e p.0) ∙ quiet_prunes s q p.1

small_prune : (e : Event) → is_prune e ≡ true → is_small_event e ≡ true
small_prune (event.Prune n need largest) h = refl
small_prune e h = absurd (true≢false (sym h))

small_prunes : (q : Journal) → list_all is_prune q ≡ true → list_all is_small_event q ≡ true
small_prunes [] h = refl
small_prunes (e ∷ q) h =
    let p = and_parts (is_prune e) (list_all is_prune q) h in
    and_from (is_small_event e) (list_all is_small_event q) (small_prune e p.0) (small_prunes q p.1)

-- a sound journal is sound with prunes behind it
sound_behind : {o : Options} (options : Options) (J q : Journal) (d : Database) → IsSound o J d → list_all is_prune q ≡ true → IsLawful options (J ++ q) → IsSound options (J ++ q) d
sound_behind options J q d s only lawful = record {
  small = list_all-append is_small_event J q ∙ and_from (list_all is_small_event J) (list_all is_small_event q) s.small (small_prunes q only);
  lawful = lawful;
  database = s.database ∙ sym (present_stays J q only);
  orderly = s.orderly;
}

-- ---- the needs ask for the length of a key alone

flags_long : (f : Flags) → length (flag_bytes f) ≡ 15
flags_long f = refl

keys_long : (s : State) (o : Option Transaction) (text : List ℕ) → length (key_of_text (with_transaction s o) text) ≡ length (key_of_text s text)
keys_long s o text =
    let a = length-append (s.db ++ flag_bytes (flags_of (with_transaction s o))) (trimmed text) in
    let b = length-append s.db (flag_bytes (flags_of (with_transaction s o))) in
    let c = length-append (s.db ++ flag_bytes (flags_of s)) (trimmed text) in
    let d = length-append s.db (flag_bytes (flags_of s)) in
    omega (arith, a, b, c, d, flags_long (flags_of (with_transaction s o)), flags_long (flags_of s))

needs_alike : (options : Options) (earlier : Journal) (k l : List ℕ) (e : Event) → length k ≡ length l → HasOwnNeeds options earlier k e → HasOwnNeeds options earlier l e
needs_alike options earlier k l (event.Run who (how.Plain (reason.NoRoom need largest))) same h =
    subst (λ (m : ℕ). IsTrue (list_all (λ (n : ℕ). n == least_block || n == raised (unit_words options) || n == raised (words_of_bytes m)) (need ∷ leading_needs (reverse earlier)))) same h
needs_alike options earlier k l e same h = tt

-- ---- from what was decided

follows_by : (I J q : Journal) → StartsWith J I → Follows I (J ++ q)
follows_by I J q g = record { more = g.0 ++ q; is = ap (λ (j : Journal). j ++ q) g.1 ∙ append_assoc I g.0 q }

pub placed : (t : Turn ServerState Event) (text : List ℕ) (select : Select) (old mid : Session) (x : Selected) → IsAtRest t old → (d : HasDecided t text select old mid x) → Placed old text select d.key (seen_by mid) x d.database
placed t text select old mid x rest d =
    let se = d.selects in
    let s : State = old.state.state in
    let st : State = (arrives select old.state).state in
    let i = se.decided old.options rest.options in
    let I : Journal = seen_by old in
    let J : Journal = i.journal in
    let q : Journal = i.prunes in
    let K : Journal = J ++ q in
    let tables : List TableName = select_tables st.db select in
    let session : st.session ≡ number_of old = arrives_session select old.state in
    let goes : GoesOn (number_of old) I J = subst (λ (n : ℕ). GoesOn n I J) session i.goes_on in
    let who : next_of st.session I ≡ next_who old = ap (λ (n : ℕ). next_of n I) session in
    let how_is = how_of d.key tables x in
    let e : Event = event.Run (next_of st.session I) how_is in
    let behind : length K ≡ length J + length q = length-append J q in
    let end : length (q ++ e ∷ []) ≡ length q + 1 = length-append q (e ∷ []) in
    let whole : length (J ++ (q ++ e ∷ [])) ≡ length J + length (q ++ e ∷ []) = length-append J (q ++ e ∷ []) in
    let long : length (seen_by mid) ≡ length (J ++ (q ++ e ∷ [])) = ap length i.events in
    let at : place_of x ≡ length K + 1 = omega (arith, i.place, long, whole, end, behind) in
    let begins = goes.begins in
    let short : length I ≤ length J = omega (arith, ap length begins.1, length-append I begins.0) in
    let here : state_at J (place_of x) select st ≡ state_in old select K =
    ap (state_at J (place_of x) select) (arrives_state select old.state)
    ∙ (arriving.arrives J (place_of x) select s (taken_within (length J) (snapshot_of s) I short rest.past)
    ∙ ap (λ (n : ℕ). arrived n (statement.Select select) s) at) in
    let split : seen_by mid ≡ K ++ e ∷ [] = i.events ∙ sym (append_assoc J q (e ∷ [])) in
    let lawful : IsLawful old.options K = lawful_prefix old.options [] K (e ∷ []) (subst (λ (j : Journal). IsLawful old.options j) split i.lawful) in
    let makes = i.makes in
    let sound : IsSound old.options K d.database = sound_behind old.options J q d.database makes.1 i.only lawful in
    let made = arrives_with select old.state in
    let long_key : length d.key ≡ length (key_of_text s text) = ap length d.key_is ∙ (ap (λ (y : SnapshotState). length (key_of_text y.state text)) made.1 ∙ keys_long s made.0 text) in
    record {
      journal = J;
      prunes = q;
      tables = tables;
      goes_on = goes;
      only = i.only;
      events = i.events ∙ ap (λ (w : Who). J ++ (q ++ event.Run w how_is ∷ [])) who;
      place = at;
      allowed = subst (λ (y : State). Allows old.options y text select K how_is) here i.allowed;
      needs = needs_alike old.options K d.key (key_of_text s text) (event_in old d.key tables x) long_key (subst (λ (w : Who). HasOwnNeeds old.options K d.key (event.Run w how_is)) who i.needs);
      plan = subst (λ (y : State). HasPlan (given y K select) x) here i.plan;
      sound = sound;
      fit = fits_at {o = old.options} K select d.database old.state sound (fit_later I K old.state (follows_by I J q begins) rest.past rest.fit);
    }

-- ---- the event is in the journal that the seat has seen

pub word_is : (who : Who) (key : List ℕ) (tables : List TableName) (x : Selected) → word_of_selected x ≡ word_of (event.Run who (how_of key tables x))
word_is who key tables (selected.Hit hit) = refl
word_is who key tables (selected.Start serial place plan) = refl
word_is who key tables (selected.Plain why place plan) = refl

-- the event, the reply and the state that the machine gives, at this place
pub record Came (text : List ℕ) (old new : Session) (n : ℕ) (e : Event) (r : Reply) : Type 0 where
  pub without : local old.state.state (command.Query text) ≡ None
  pub begins : StartsWith (seen_by new) (seen_by old)
  pub grows : own (number_of old) (seen_by new) ≡ own (number_of old) (seen_by old) ++ (n, e) ∷ []
  pub does : Executes old.options (who_of (number_of old) (length (own (number_of old) (seen_by old)) + 1)) old.state.state (command.Query text) (before n (seen_by new)) e r new.state.state
  pub needs : HasOwnNeeds old.options (before n (seen_by new)) (key_of_text old.state.state text) e
  pub session : number_of new ≡ number_of old

module _ (t : Turn ServerState Event) (text : List ℕ) (select : Select) (old new : Session) (key : List ℕ) (now : Journal) (x : Selected) (d : Database)
    (means : meaning (trimmed text) old.state.state.ansi ≡ Ok (statement.Select select)) (p : Placed old text select key now x d) (b : IsBehind t select old new now d x) where
  pub came : Came text old new (place_of x) (event_in old key p.tables x) (reply_in old select (p.journal ++ p.prunes))
  came =
      let n : ℕ = number_of old in
      let s : State = old.state.state in
      let I : Journal = seen_by old in
      let J : Journal = p.journal in
      let q : Journal = p.prunes in
      let K : Journal = J ++ q in
      let e : Event = event_in old key p.tables x in
      let a : State = state_in old select K in
      let r : Reply = reply_in old select K in
      let goes = p.goes_on in
      let on = b.on in
      let begins = on.begins in
      let more : Journal = begins.0 in
      let behind : length K ≡ length J + length q = length-append J q in
      let count : 1 + length J + length q ≡ place_of x = omega (arith, p.place, behind) in
      let whole : seen_by new ≡ J ++ (q ++ e ∷ more) =
      begins.1 ∙ (ap (λ (j : Journal). j ++ more) p.events ∙ (append_assoc J (q ++ e ∷ []) more ∙ ap (λ (j : Journal). J ++ j) (append_assoc q (e ∷ []) more))) in
      let earlier : before (place_of x) (seen_by new) ≡ K = (λ i. before (sym count i) (whole i)) ∙ before_it J q more e in
      let state : new.state.state ≡ a = ap (λ (y : SnapshotState). y.state) b.state ∙ (state_is (place_of x) select d old.state ∙ ap (λ (m : ℕ). arrived m (statement.Select select) s) p.place) in
      let made = arrived_with (length K + 1) select s in
      let executed : Executes old.options (next_who old) s (command.Query text) K e r a =
      subst (λ (m : Result Statement ParseFault). ExecutesText old.options (next_who old) s text K m e r a) (sym means) (record { chosen = (how_of key p.tables x, refl, p.allowed); answered = refl; same = refl }) in
      record {
        without = ap (local_text s) means;
        begins = starts_trans (seen_by new) now I begins (starts_trans now J I (q ++ e ∷ [], p.events) goes.begins);
        grows = on.none ∙ (ap (own n) p.events ∙ (one_more n I J q [] e goes.none (quiet_prunes n q p.only) (eq-eqb n n refl) refl ∙ ap (λ (m : ℕ). own n I ++ (m, e) ∷ []) count));
        does = subst (λ (y : ℕ × Journal × State). Executes old.options (who_of n (y.0 + 1)) s (command.Query text) y.1 e r y.2) (λ i. (sym (own_count n I) i, sym earlier i, sym state i)) executed;
        needs = subst (λ (j : Journal). HasOwnNeeds old.options j (key_of_text s text) e) (sym earlier) p.needs;
        session = ap (λ (y : State). y.session) (state ∙ made.1);
      }

  -- ---- the session rests

  rests_behind : IsAtRest t old → IsAtRest t new
  rests_behind rest =
      let c = came in
      let K : Journal = p.journal ++ p.prunes in
      let e : Event = event_in old key p.tables x in
      let on = b.on in
      let begins = on.begins in
      let split : now ≡ K ++ e ∷ [] = p.events ∙ sym (append_assoc p.journal p.prunes (e ∷ [])) in
      let y : SnapshotState = arrives_at select (length K + 1) d old.state in
      let fit : IsFitState (K ++ e ∷ []) y = fit_more K e y refl p.fit in
      let past : IsPast (K ++ e ∷ []) (snapshot_of y.state) = fit_past K e y p.fit in
      let on_from : Follows (K ++ e ∷ []) (seen_by new) = record { more = begins.0; is = begins.1 ∙ ap (λ (j : Journal). j ++ begins.0) split } in
      let state : new.state ≡ y = b.state ∙ ap (λ (m : ℕ). arrives_at select m d old.state) p.place in
      let end : length (K ++ e ∷ []) ≡ length K + 1 = length-append K (e ∷ []) in
      let long : length (seen_by new) ≡ length (K ++ e ∷ []) + length begins.0 = ap length on_from.is ∙ length-append (K ++ e ∷ []) begins.0 in
      record {
        rests = subst (λ (n : ℕ). SeatRests t n new.seat) (sym c.session) b.rests;
        fit = subst (IsFitState (seen_by new)) (sym state) (fit_later (K ++ e ∷ []) (seen_by new) y on_from past fit);
        past = subst (λ (z : SnapshotState). IsPast (seen_by new) (snapshot_of z.state)) (sym state) (past_later (K ++ e ∷ []) (seen_by new) (snapshot_of y.state) on_from past);
        reached = omega (arith, b.place, p.place, end, long);
        options = b.fixed ∙ (rest.options ∙ ap as_fixed (sym b.options));
        ranges = subst (λ (z : Options × ℕ). z.0.size ≤ 512 * z.1) (λ i. (sym b.options i, sym b.room i)) rest.ranges;
      }

  -- ---- the select was answered

  -- its reply is what the select gives, and a fill that it began has ended
  pub select_does : (bytes : List ℕ) → IsAtRest t old → bytes ≡ packets (reply_in old select (p.journal ++ p.prunes)) → fill_ends (seen_by new) (event_in old key p.tables x) ≡ true → DoesOne t (command.Query text) old new bytes
  select_does bytes rest reply ends =
      let c = came in
      let n : ℕ = place_of x in
      let e : Event = event_in old key p.tables x in
      let r : Reply = reply_in old select (p.journal ++ p.prunes) in
      let l : ReportLine = line n (word_of e) r in
      let from : Position = position_of old in
      let to : Position = position_of new in
      record {
        answered = l;
        answers = record {
          begins = c.begins;
          place = b.place;
          does = subst (λ (o : Local). MatchOption o (HasItsEvent whole_machine old.options (number_of old) from (command.Query text) l to) (HasNoEvent (number_of old) from l to)) (sym c.without)
              (e, r, c.grows, c.does, refl, c.needs, ends);
        };
        reply = sym reply;
        lines = b.lines ∙ ap (λ (w : Word). old.log.lines ++ logged n w ∷ []) (word_is (next_who old) key p.tables x);
        options = b.options;
        standing = λ i. (b.fixed i, b.registry i);
        end = b.end;
        session = c.session;
        rest = rests_behind rest;
      }

  -- by the word of its event
  pub does_how : (bytes : List ℕ) (rest : IsAtRest t old) (reply : bytes ≡ packets (reply_in old select (p.journal ++ p.prunes))) (ends : fill_ends (seen_by new) (event_in old key p.tables x) ≡ true)
      → (select_does bytes rest reply ends).answered.how ≡ word_of (event_in old key p.tables x)
  unfolding select_does
  does_how bytes rest reply ends = refl

  -- a front of its reply went out
  pub select_ends : (bytes : List ℕ) (held out : Option (List Piece)) → bytes ≡ packets (reply_in old select (p.journal ++ p.prunes)) → SendsFrontOf held out bytes → Adds held out (AreStreamedBy old new)
      → Adds held out (AreCut (size_by (word_of_selected x))) → MustEnd t (command.Query text) old new held out
  select_ends bytes held out reply front streamed cut =
      let c = came in
      let n : ℕ = place_of x in
      let e : Event = event_in old key p.tables x in
      let r : Reply = reply_in old select (p.journal ++ p.prunes) in
      let l : ReportLine = line n (word_of e) r in
      let from : Position = position_of old in
      record {
        rests = b.rests;
        breaks = record {
          begins = c.begins;
          events = (n, e) ∷ [];
          few = omega arith;
          grows = c.grows;
          lines = b.lines ∙ ap (λ (w : Word). old.log.lines ++ logged n w ∷ []) (word_is (next_who old) key p.tables x);
          session = c.session;
          standing = λ i. (b.fixed i, b.registry i);
          sent = inr (
            l,
            subst (λ (o : Local). MatchOption o (HasEventLine whole_machine old.options (number_of old) from (command.Query text) l (seen_by new)) (λ given. (l ≡ line from.place word.Local given.0) × (own (number_of old) (seen_by new) ≡ own (number_of old) from.seen))) (sym c.without)
                (e, r, new.state.state, c.grows, c.does, refl, c.needs),
            subst (SendsFrontOf held out) reply front,
            subst (λ (w : Word). Adds held out (AreCut (size_by w))) (word_is (next_who old) key p.tables x) cut,
          );
          at = streamed;
        };
      }
