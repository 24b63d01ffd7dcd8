-- A session is at rest again, behind the event of a command.
use Rattle.std.specs.List.{AllByRecursion}
use Rattle.std.proofs.Common.{◌≡◌, ℕ, ◌+◌, ◌*◌, ◌<◌, ◌≤◌, true, List, [], ◌∷◌, ◌++◌, length, map, refl, sym, ap, ◌∙◌, subst, arith, append_assoc, append-nil, length-append, Option, None, Some, Result, Ok, Err, OnErr}
use Rattle.qc_types.specs.declared.options.Options.{Options}
use Rattle.qc_sql.specs.declared.replies.Reply.{Reply}
use Rattle.qc_sql.specs.Packets.{packets}
use Rattle.qc_model.specs.declared.events.Event.{Event}
use Rattle.qc_model.specs.declared.events.Who.{Who}
use Rattle.qc_model.specs.declared.reports.Word.TheVariants as word
use Rattle.qc_model.specs.Agrees.{word_of}
use Rattle.qc_model.specs.Journal.{Journal, before, is_by}
use Rattle.qc_model.specs.Machine.{Given}
use Rattle.qc_model.specs.Session.{State, snapshot_of}
use Rattle.qc_laws.specs.runs.Runs.{StartsWith, own}
use Rattle.qc_laws.proofs.runs.Steps.{before_it, one_more}
use Rattle.qc_trx.specs.SnapshotStates.{SnapshotState, after_end}
use Rattle.qc_statements.specs.Sound.{IsFitState, IsPast}
use Rattle.qc_statements.proofs.States.{fit_ended, fit_on}
use Rattle.qc_turn.specs.declared.seat.Seat.{Seat}
use Rattle.qc_turn.specs.declared.task.Task.TheVariants as task
use Rattle.qc_turn.specs.declared.turn.Turn.{Turn}
use Rattle.qc_turn.specs.Seats.{view}
use Rattle.qc_core.specs.contracts.server.ServerKept.TheImpl.{ghosts}
use Rattle.qc_core.specs.declared.server_state.ServerState.{ServerState}
use Rattle.qc_serve.specs.declared.session.Session.{Session}
use Rattle.qc_serve.specs.declared.log.Logged.{Logged}
use Rattle.qc_serve.specs.Going.{GivesOut, IsAtRest, Logs, MayAnswer, Stops, StopsWithout, TellsOut, as_fixed, next_who, number_of, seen_by, standing_of}
use Rattle.qc_serve.specs.Logs.{logged, logged_event}
use Rattle.qc_serve.proofs.Givens.{IsOf, IsOwn, mine}
use Rattle.qc_serve.proofs.Turning.{rests_again}
use Rattle.qc_serve.specs.Holding.{HasOne, TurnsTo, next_in, standing_at, task_left}
use Rattle.qc_serve.specs.Seats.{Decides, GoesOn, RestsAgain, SeatRests}

-- ---- the journal goes on

pub record Follows (I now : Journal) : Type 0 where
  pub more : Journal
  pub is : now ≡ I ++ more

pub decided_on : (session : ℕ) (I now : Journal) (IsSo : Journal → Event → Type 0) → Decides session I now IsSo → Follows I now
decided_on session I now IsSo d =
    let goes = d.goes_on in
    let begins = goes.begins in
    record { more = begins.0 ++ d.event ∷ []; is = d.events ∙ (ap (λ (j : Journal). j ++ d.event ∷ []) begins.1 ∙ append_assoc I begins.0 (d.event ∷ [])) }

pub fit_later : (I now : Journal) (x : SnapshotState) → Follows I now → IsPast I (snapshot_of x.state) → IsFitState I x → IsFitState now x
fit_later I now x f past fit = subst (λ (j : Journal). IsFitState j x) (sym f.is) (fit_on I f.more x past fit)

past_by : (I now : Journal) (p : Option ℕ) → length I ≤ length now → IsPast I p → IsPast now p
past_by I now None long h = tt
past_by I now (Some place) long h = omega (arith, long, h)

pub past_later : (I now : Journal) (p : Option ℕ) → Follows I now → IsPast I p → IsPast now p
past_later I now p f h = past_by I now p (omega (arith, ap length f.is, length-append I f.more)) h

-- ---- the session

-- what a session is that rests again with a state that fits
pub rest_with : (t : Turn ServerState Event) (old new : Session) → IsAtRest t old → RestsAgain t (number_of old) old.seat new.seat → new.options ≡ old.options → number_of new ≡ number_of old → new.place ≤ length (seen_by new)
    → IsFitState (seen_by new) new.state → IsPast (seen_by new) (snapshot_of new.state.state) → IsAtRest t new
rest_with t old new rest again options session place fit past = record {
  rests = subst (λ n. SeatRests t n new.seat) (sym session) again.rests;
  fit = fit;
  past = past;
  reached = place;
  options = again.fixed ∙ (rest.options ∙ ap as_fixed (sym options));
  ranges = subst (λ (p : Options × ℕ). p.0.size ≤ 512 * p.1) (λ i. (sym options i, sym again.ranges i)) rest.ranges;
}

-- with the state as it was
pub rest_same : (t : Turn ServerState Event) (old new : Session) (IsSo : Journal → Event → Type 0) → IsAtRest t old → Logs t old new IsSo → new.state ≡ old.state → IsAtRest t new
rest_same t old new IsSo rest logs state =
    let f = decided_on (number_of old) (seen_by old) (seen_by new) IsSo logs.decides in
    rest_with t old new rest logs.rests logs.options (ap (λ (x : SnapshotState). x.state.session) state) (omega (arith, logs.place))
    (subst (IsFitState (seen_by new)) (sym state) (fit_later (seen_by old) (seen_by new) old.state f rest.past rest.fit))
    (subst (λ (x : SnapshotState). IsPast (seen_by new) (snapshot_of x.state)) (sym state) (past_later (seen_by old) (seen_by new) (snapshot_of old.state.state) f rest.past))

-- with the transaction ended
pub rest_ended : (t : Turn ServerState Event) (old new : Session) (IsSo : Journal → Event → Type 0) → IsAtRest t old → Logs t old new IsSo → new.state ≡ after_end old.state → IsAtRest t new
rest_ended t old new IsSo rest logs state =
    rest_with t old new rest logs.rests logs.options (ap (λ (x : SnapshotState). x.state.session) state) (omega (arith, logs.place))
    (subst (IsFitState (seen_by new)) (sym state) (fit_ended (seen_by old) (seen_by new) old.state rest.fit))
    (subst (λ (x : SnapshotState). IsPast (seen_by new) (snapshot_of x.state)) (sym state) tt)

-- ---- an event with its line

-- what the session is behind a call at its seat, and the line of its event
pub seat_logs : (t : Turn ServerState Event) (old new : Session) (state : SnapshotState) (seat : Seat ServerState Event ghosts) (place : ℕ) (IsSo : Journal → Event → Type 0) → RestsAgain t (number_of old) old.seat seat → place ≡ length (view seat).seen
    → Decides (number_of old) (seen_by old) (view seat).seen IsSo → new ≡ record old { state = state; seat = seat; place = place; log = new.log } → new.log.lines ≡ old.log.lines ++ logged place word.Other ∷ [] → Logs t old new IsSo
seat_logs t old new state seat place IsSo again at decides is lines =
    let same : seat ≡ new.seat = sym (ap (λ (s : Session). s.seat) is) in
    let here : new.place ≡ place = ap (λ (s : Session). s.place) is in
    record {
      decides = subst (λ (x : Seat ServerState Event ghosts). Decides (number_of old) (seen_by old) (view x).seen IsSo) same decides;
      rests = subst (RestsAgain t (number_of old) old.seat) same again;
      place = here ∙ (at ∙ ap (λ (x : Seat ServerState Event ghosts). length (view x).seen) same);
      lines = lines ∙ ap (λ (n : ℕ). old.log.lines ++ logged n word.Other ∷ []) (sym here);
      options = ap (λ (s : Session). s.options) is;
      end = ap (λ (s : Session). s.end) is;
    }

-- the state was changed since
pub logs_moved : (t : Turn ServerState Event) (old mid new : Session) (IsSo : Journal → Event → Type 0) → Logs t old mid IsSo → new ≡ record mid { state = new.state } → Logs t old new IsSo
logs_moved t old mid new IsSo logs is =
    subst (λ (s : Session). Logs t old s IsSo) (sym is) (record { decides = logs.decides; rests = logs.rests; place = logs.place; lines = logs.lines; options = logs.options; end = logs.end })

-- ---- what is given

-- the journal as it was taken, the event, and what is so of them
abbrev pub journal_of : (t : Turn ServerState Event) (old new : Session) (IsSo : Journal → Event → Type 0) → Logs t old new IsSo → Journal
journal_of t old new IsSo logs = let d = logs.decides in d.journal

abbrev pub event_of : (t : Turn ServerState Event) (old new : Session) (IsSo : Journal → Event → Type 0) → Logs t old new IsSo → Event
event_of t old new IsSo logs = let d = logs.decides in d.event

-- the state fits that journal too
pub fit_taken : (t : Turn ServerState Event) (old : Session) (J : Journal) → IsAtRest t old → GoesOn (number_of old) (seen_by old) J → IsFitState J old.state
fit_taken t old J rest goes = let begins = goes.begins in fit_later (seen_by old) J old.state (record { more = begins.0; is = begins.1 }) rest.past rest.fit

-- an event, a reply and a state are what is given
pub record Meets (g : Given) (e : Event) (bytes : List ℕ) (now : State) : Type 0 where
  pub event : e ≡ g.event
  pub reply : bytes ≡ packets g.reply
  pub state : now ≡ g.next

pub gives_out : (t : Turn ServerState Event) (old new : Session) (bytes : List ℕ) (given : Journal → Given) (IsSo : Journal → Event → Type 0) (logs : Logs t old new IsSo) → IsAtRest t new → IsOwn (next_who old) (number_of old) (given (journal_of t old new IsSo logs))
    → Meets (given (journal_of t old new IsSo logs)) (event_of t old new IsSo logs) bytes new.state.state → GivesOut t old new bytes given
gives_out t old new bytes given IsSo logs rest of m =
    let d = logs.decides in
    let e = of.event in
    let again = logs.rests in
    record {
      journal = d.journal;
      goes_on = d.goes_on;
      events = d.events ∙ ap (λ (x : Event). d.journal ++ x ∷ []) m.event;
      other = e.other;
      mine = mine (next_who old) (given d.journal).event e;
      place = logs.place;
      lines = logs.lines;
      reply = m.reply;
      state = m.state;
      options = logs.options;
      standing = λ i. (again.fixed i, again.registry i);
      end = logs.end;
      rest = rest;
    }

-- the state stays as it was
pub same_gives : (t : Turn ServerState Event) (old new : Session) (bytes : List ℕ) (given : Journal → Given) (IsSo : Journal → Event → Type 0) (logs : Logs t old new IsSo) → IsAtRest t old → new.state ≡ old.state → IsOwn (next_who old) (number_of old) (given (journal_of t old new IsSo logs))
    → Meets (given (journal_of t old new IsSo logs)) (event_of t old new IsSo logs) bytes old.state.state → GivesOut t old new bytes given
same_gives t old new bytes given IsSo logs rest state of m =
    gives_out t old new bytes given IsSo logs (rest_same t old new IsSo rest logs state) of (record { event = m.event; reply = m.reply; state = ap (λ (x : SnapshotState). x.state) state ∙ m.state })

-- ---- where memory lacks

pub on_err : {A E P Q : Type 0} (r : Result A E) → (P → Q) → OnErr r P → OnErr r Q
on_err (Ok x) f p = tt
on_err (Err e) f p = f p

pub or_err : {A E P : Type 0} (r : Result A E) → P → OnErr r P
or_err (Ok x) p = tt
or_err (Err e) p = p

-- nothing happened
pub none_stops : (t : Turn ServerState Event) (old new : Session) {IsSo : Journal → Event → Type 0} → RestsAgain t (number_of old) old.seat new.seat → GoesOn (number_of old) (seen_by old) (seen_by new) → new.log.lines ≡ old.log.lines → number_of new ≡ number_of old
    → new.end ≡ old.end → Stops t old new IsSo
none_stops t old new again goes lines session end = record {
  rests = again;
  begins = goes.begins;
  events = [];
  few = omega arith;
  others = tt;
  are_so = tt;
  grows = goes.none ∙ sym (append-nil (own (number_of old) (seen_by old)));
  lines = lines ∙ sym (append-nil old.log.lines);
  session = session;
  end = end;
}

-- ---- a request was answered

left_rests : {A E : Type 0} (r : Result A E) → task_left (λ (a : A). task.Rest) r ≡ task.Rest
left_rests (Ok a) = refl
left_rests (Err e) = refl

rests_now : {A E : Type 0} (t : Turn ServerState Event) (session n : ℕ) (old new : Seat ServerState Event ghosts) (r : Result A E) → n ≡ session → TurnsTo t n (task_left (λ (a : A). task.Rest) r) old new → RestsAgain t session old new
rests_now t session n old new r named turns = subst (λ m. RestsAgain t m old new) named (rests_again t n (task_left (λ a. task.Rest) r) old new (left_rests r) turns)

-- by one event, with its line
pub request_logs : {A E : Type 0} (t : Turn ServerState Event) (old new : Session) (state : SnapshotState) (seat : Seat ServerState Event ghosts) (n place : ℕ) (r : Result A E) (IsSo : Who → Journal → Event → Type 0) → n ≡ number_of old → TurnsTo t n (task_left (λ (a : A). task.Rest) r) old.seat seat
    → HasOne (standing_at n old.seat) place (view seat).seen (IsSo (next_in (standing_at n old.seat))) → new ≡ record old { state = state; seat = seat; place = place; log = new.log } → new.log.lines ≡ old.log.lines ++ logged place word.Other ∷ [] → Logs t old new (IsSo (next_who old))
request_logs t old new state seat n place r IsSo named turns one is lines =
    let here : HasOne (standing_at (number_of old) old.seat) place (view seat).seen (IsSo (next_who old)) = subst (λ m. HasOne (standing_at m old.seat) place (view seat).seen (IsSo (next_in (standing_at m old.seat)))) named one in
    seat_logs t old new state seat place (IsSo (next_who old)) (rests_now t (number_of old) n old.seat seat r named turns) here.place here.decides is lines

-- by none, where memory lacked
pub request_stops : {A E : Type 0} (t : Turn ServerState Event) (old new : Session) {IsSo : Journal → Event → Type 0} (n : ℕ) (r : Result A E) → n ≡ number_of old → TurnsTo t n (task_left (λ (a : A). task.Rest) r) old.seat new.seat → GoesOn n (seen_by old) (seen_by new)
    → new.log.lines ≡ old.log.lines → number_of new ≡ number_of old → new.end ≡ old.end → Stops t old new IsSo
request_stops t old new n r named turns goes lines session end = none_stops t old new (rests_now t (number_of old) n old.seat new.seat r named turns) (subst (λ m. GoesOn m (seen_by old) (seen_by new)) named goes) lines session end

-- the session's event came, with its line
pub event_stops : (t : Turn ServerState Event) (old new : Session) (IsSo : Journal → Event → Type 0) (logs : Logs t old new IsSo) → IsOf (next_who old) (event_of t old new IsSo logs) → number_of new ≡ number_of old → Stops t old new IsSo
event_stops t old new IsSo logs its session =
    let d = logs.decides in
    let goes = d.goes_on in
    let s : ℕ = number_of old in
    let J : Journal = d.journal in
    let e : Event = d.event in
    let n : ℕ = 1 + length J + length {A = Event} [] in
    let long : length (seen_by new) ≡ length J + 1 = ap length d.events ∙ length-append J (e ∷ []) in
    let at : new.place ≡ n = logs.place ∙ (long ∙ omega arith) in
    let follows = decided_on s (seen_by old) (seen_by new) IsSo d in
    let earlier : before n (seen_by new) ≡ J = ap (before n) d.events ∙ (before_it J [] [] e ∙ append-nil J) in
    record {
      rests = logs.rests;
      begins = (follows.more, follows.is);
      events = (n, e) ∷ [];
      few = omega arith;
      others = (its.other, tt);
      are_so = (subst (λ (j : Journal). IsSo j e) (sym earlier) d.is_so, tt);
      grows = ap (own s) d.events ∙ one_more s (seen_by old) J [] [] e goes.none refl (mine (next_who old) e its) refl;
      lines = logs.lines ∙ ap (λ (l : Logged). old.log.lines ++ l ∷ []) (λ i. logged (at i) (sym its.other i));
      session = session;
      end = logs.end;
    }

-- what is so of its event is so in another way
all_so : (P Q : Journal → Event → Type 0) (now : Journal) (events : List (ℕ × Event)) → ((J : Journal) (e : Event) → P J e → Q J e) → AllByRecursion (λ (x : ℕ × Event). P (before x.0 now) x.1) events → AllByRecursion (λ (x : ℕ × Event). Q (before x.0 now) x.1) events
all_so P Q now [] f all = tt
all_so P Q now (x ∷ xs) f all = (f (before x.0 now) x.1 all.0, all_so P Q now xs f all.1)

pub stops_as : (t : Turn ServerState Event) (old new : Session) (P Q : Journal → Event → Type 0) → ((J : Journal) (e : Event) → P J e → Q J e) → Stops t old new P → Stops t old new Q
stops_as t old new P Q f stops = record {
  rests = stops.rests;
  begins = stops.begins;
  events = stops.events;
  few = stops.few;
  others = stops.others;
  are_so = all_so P Q (seen_by new) stops.events f stops.are_so;
  grows = stops.grows;
  lines = stops.lines;
  session = stops.session;
  end = stops.end;
}

-- no event came
pub stops_without : (t : Turn ServerState Event) (old new : Session) (IsSo : Journal → Event → Type 0) → StopsWithout t old new → Stops t old new IsSo
stops_without t old new IsSo stops = stops_as t old new (λ J e. ⊥) IsSo (λ J e h. absurd h) stops

-- ---- a session whose state was changed before

-- it is the same but for its state
pub record SameBut (old mid : Session) : Type 0 where
  pub is : mid ≡ record old { state = mid.state }
  pub session : number_of mid ≡ number_of old

pub moved_stops : (t : Turn ServerState Event) (old mid new : Session) (IsSo : Journal → Event → Type 0) → SameBut old mid → Stops t mid new IsSo → Stops t old new IsSo
moved_stops t old mid new IsSo same stops =
    let n : number_of mid ≡ number_of old = same.session in
    let seat : mid.seat ≡ old.seat = ap (λ (s : Session). s.seat) same.is in
    let log : mid.log.lines ≡ old.log.lines = ap (λ (s : Session). s.log.lines) same.is in
    record {
      rests = subst (λ (p : ℕ × Seat ServerState Event ghosts). RestsAgain t p.0 p.1 new.seat) (λ i. (n i, seat i)) stops.rests;
      begins = subst (λ (x : Seat ServerState Event ghosts). StartsWith (seen_by new) (view x).seen) seat stops.begins;
      events = stops.events;
      few = stops.few;
      others = stops.others;
      are_so = stops.are_so;
      grows = subst (λ (p : ℕ × Seat ServerState Event ghosts). own p.0 (seen_by new) ≡ own p.0 (view p.1).seen ++ stops.events) (λ i. (n i, seat i)) stops.grows;
      lines = stops.lines ∙ ap (λ (l : List Logged). l ++ map logged_event stops.events) log;
      session = stops.session ∙ n;
      end = stops.end ∙ ap (λ (s : Session). s.end) same.is;
    }

pub moved_gives : (t : Turn ServerState Event) (old mid new : Session) (bytes : List ℕ) (given : Journal → Given) → SameBut old mid → GivesOut t mid new bytes given → GivesOut t old new bytes given
moved_gives t old mid new bytes given same out =
    let n : number_of mid ≡ number_of old = same.session in
    let seat : mid.seat ≡ old.seat = ap (λ (s : Session). s.seat) same.is in
    let log : mid.log.lines ≡ old.log.lines = ap (λ (s : Session). s.log.lines) same.is in
    record {
      journal = out.journal;
      goes_on = subst (λ (p : ℕ × Seat ServerState Event ghosts). GoesOn p.0 (view p.1).seen out.journal) (λ i. (n i, seat i)) out.goes_on;
      events = out.events;
      other = out.other;
      mine = subst (λ (k : ℕ). is_by k (given out.journal).event ≡ true) n out.mine;
      place = out.place;
      lines = out.lines ∙ ap (λ (l : List Logged). l ++ logged new.place word.Other ∷ []) log;
      reply = out.reply;
      state = out.state;
      options = out.options ∙ ap (λ (s : Session). s.options) same.is;
      standing = out.standing ∙ ap (λ (s : Session). standing_of s) same.is;
      end = out.end ∙ ap (λ (s : Session). s.end) same.is;
      rest = out.rest;
    }

pub moved_tells : (t : Turn ServerState Event) (old mid new : Session) (bytes : List ℕ) (r : Reply) (next : State) → SameBut old mid → TellsOut t mid new bytes r next → TellsOut t old new bytes r next
moved_tells t old mid new bytes r next same out =
    let place : mid.place ≡ old.place = ap (λ (s : Session). s.place) same.is in
    let log : mid.log.lines ≡ old.log.lines = ap (λ (s : Session). s.log.lines) same.is in
    record {
      seen = out.seen ∙ ap (λ (s : Session). seen_by s) same.is;
      place = out.place ∙ place;
      lines = out.lines ∙ (λ i. log i ++ logged (place i) word.Local ∷ []);
      reply = out.reply;
      state = out.state;
      options = out.options ∙ ap (λ (s : Session). s.options) same.is;
      standing = out.standing ∙ ap (λ (s : Session). standing_of s) same.is;
      end = out.end ∙ ap (λ (s : Session). s.end) same.is;
      rest = out.rest;
    }

-- it did nothing
pub unmoved_stops : (t : Turn ServerState Event) (old new : Session) {IsSo : Journal → Event → Type 0} → IsAtRest t old → SameBut old new → Stops t old new IsSo
unmoved_stops t old new rest same =
    let seat : old.seat ≡ new.seat = sym (ap (λ (s : Session). s.seat) same.is) in
    let stays : RestsAgain t (number_of old) old.seat old.seat = record { rests = rest.rests; fixed = refl; registry = refl; ranges = refl } in
    let goes : GoesOn (number_of old) (seen_by old) (seen_by old) = record { begins = ([], sym (append-nil (seen_by old))); none = refl } in
    none_stops t old new (subst (RestsAgain t (number_of old) old.seat) seat stays) (subst (λ (x : Seat ServerState Event ghosts). GoesOn (number_of old) (seen_by old) (view x).seen) seat goes)
    (ap (λ (s : Session). s.log.lines) same.is) same.session (ap (λ (s : Session). s.end) same.is)

-- it may answer as before
pub moved_may : (t : Turn ServerState Event) (old mid : Session) → SameBut old mid → MayAnswer t old → IsFitState (seen_by old) mid.state → IsPast (seen_by old) (snapshot_of mid.state.state) → MayAnswer t mid
moved_may t old mid same may fit past =
    let rest = may.rest in
    let place : mid.place ≡ old.place = ap (λ (s : Session). s.place) same.is in
    let seat : mid.seat ≡ old.seat = ap (λ (s : Session). s.seat) same.is in
    let options : mid.options ≡ old.options = ap (λ (s : Session). s.options) same.is in
    let seen : seen_by mid ≡ seen_by old = ap (λ (s : Session). seen_by s) same.is in
    let room : mid.log.room ≡ old.log.room = ap (λ (s : Session). s.log.room) same.is in
    record {
      rest = record {
        rests = subst (λ (p : ℕ × Seat ServerState Event ghosts). SeatRests t p.0 p.1) (λ i. (sym same.session i, sym seat i)) rest.rests;
        fit = subst (λ (j : Journal). IsFitState j mid.state) (sym seen) fit;
        past = subst (λ (j : Journal). IsPast j (snapshot_of mid.state.state)) (sym seen) past;
        reached = omega (arith, rest.reached, place, ap length seen);
        options = ap (λ (s : Seat ServerState Event ghosts). (view s).fixed) seat ∙ (rest.options ∙ ap as_fixed (sym options));
        ranges = subst (λ (p : Options × Seat ServerState Event ghosts). p.0.size ≤ 512 * p.1.ranges.room) (λ i. (sym options i, sym seat i)) rest.ranges;
      };
      room = subst (λ (k : ℕ). 0 < k) (sym room) may.room;
    }

-- ---- a reply without an event

pub tells_out : (t : Turn ServerState Event) (old new : Session) (bytes : List ℕ) (r : Reply) → IsAtRest t old → bytes ≡ packets r → new ≡ record old { place = old.place; log = new.log } → new.log.lines ≡ old.log.lines ++ logged old.place word.Local ∷ []
    → TellsOut t old new bytes r old.state.state
tells_out t old new bytes r rest reply is lines =
    let seat : new.seat ≡ old.seat = ap (λ (s : Session). s.seat) is in
    let state : new.state ≡ old.state = ap (λ (s : Session). s.state) is in
    let place : new.place ≡ old.place = ap (λ (s : Session). s.place) is in
    let options : new.options ≡ old.options = ap (λ (s : Session). s.options) is in
    let seen : seen_by new ≡ seen_by old = ap (λ (s : Session). seen_by s) is in
    let n : number_of new ≡ number_of old = ap (λ (s : Session). number_of s) is in
    record {
      seen = seen;
      place = place;
      lines = lines;
      reply = reply;
      state = ap (λ (x : SnapshotState). x.state) state;
      options = options;
      standing = ap (λ (s : Session). standing_of s) is;
      end = ap (λ (s : Session). s.end) is;
      rest = record {
        rests = subst (λ (p : ℕ × Seat ServerState Event ghosts). SeatRests t p.0 p.1) (λ i. (sym n i, sym seat i)) rest.rests;
        fit = subst (λ (p : Journal × SnapshotState). IsFitState p.0 p.1) (λ i. (sym seen i, sym state i)) rest.fit;
        past = subst (λ (p : Journal × SnapshotState). IsPast p.0 (snapshot_of p.1.state)) (λ i. (sym seen i, sym state i)) rest.past;
        reached = omega (arith, rest.reached, place, ap length seen);
        options = ap (λ (s : Seat ServerState Event ghosts). (view s).fixed) seat ∙ (rest.options ∙ ap as_fixed (sym options));
        ranges = subst (λ (p : Options × Seat ServerState Event ghosts). p.0.size ≤ 512 * p.1.ranges.room) (λ i. (sym options i, sym seat i)) rest.ranges;
      };
    }
