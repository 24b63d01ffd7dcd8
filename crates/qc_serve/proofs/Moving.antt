-- A session that has only seen more answers as it would have before.
use Rattle.std.proofs.Common.{◌≡◌, ◌⊎◌, inl, inr, ℕ, ◌+◌, ◌*◌, ◌≤◌, true, List, [], ◌∷◌, ◌++◌, length, take, refl, sym, ap, ◌∙◌, subst, arith, append-nil, append_assoc, length-append, Option}
use Rattle.std.specs.Prelude.{MatchOption}
use Rattle.std.proofs.lemmas.List.{take-append-le}
use Rattle.qc_types.specs.declared.options.Options.{Options}
use Rattle.qc_sql.specs.declared.commands.Command.{Command}
use Rattle.qc_sql.specs.declared.replies.Reply.{Reply}
use Rattle.qc_model.specs.declared.events.Event.{Event}
use Rattle.qc_model.specs.declared.reports.ReportLine.{ReportLine}
use Rattle.qc_model.specs.declared.reports.Word.TheVariants as word
use Rattle.qc_model.specs.Agrees.{Machine, fill_ends, key_of_command, line, who_of, whole_machine, word_of}
use Rattle.qc_model.specs.Journal.{Journal, before}
use Rattle.qc_model.specs.Needs.{HasOwnNeeds}
use Rattle.qc_model.specs.Session.{State, snapshot_of}
use Rattle.qc_laws.specs.runs.Runs.{Answers, Position, StartsWith, own, stand}
use Rattle.qc_turn.specs.declared.seat.Seat.{Seat}
use Rattle.qc_turn.specs.declared.turn.Turn.{Turn}
use Rattle.qc_turn.specs.Seats.{view}
use Rattle.qc_core.specs.contracts.server.ServerKept.TheImpl.{ghosts}
use Rattle.qc_core.specs.declared.server_state.ServerState.{ServerState}
use Rattle.qc_serve.specs.declared.session.Session.{Session}
use Rattle.qc_serve.specs.declared.sinks.Piece.{Piece}
use Rattle.qc_serve.specs.Asking.{LooksOn}
use Rattle.qc_serve.specs.Executed.{ArePutBy, AreStreamedBy, HasLine, IsReplied, MustEnd, SendsPart}
use Rattle.qc_serve.specs.Going.{DoesOne, IsAtRest, MayAnswer, number_of, position_of, seen_by}
use Rattle.qc_serve.specs.Querying.{LooksAgain}
use Rattle.qc_serve.proofs.Resting.{Follows, fit_later, past_later}
use Rattle.qc_serve.proofs.Breaking.{none_streamed}
use Rattle.qc_serve.proofs.Sending.{adds_so}

-- what a command did, by the events that its session had seen and those in front of its last line
abbrev Did : Machine → Options → ℕ → State → ℕ → Command → ReportLine → Position → Journal × List (ℕ × Event) → Type 0
Did m options s state place c l to p =
    MatchOption (m.without_event state p.0 c)
    ((e : Event) × (r : Reply) × (own s to.seen ≡ p.1 ++ (l.place, e) ∷ []) × m.executes options (who_of state.session (length p.1 + 1)) state c (before l.place to.seen) e r to.state
    × (l ≡ line l.place (word_of e) r) × HasOwnNeeds options (before l.place to.seen) (key_of_command state c) e × (fill_ends to.seen e ≡ true))
    (λ given. (l ≡ line place word.Local given.0) × (given.1 ≡ to.state) × (own s to.seen ≡ p.1))

pub moved_answers : (m : Machine) (options : Options) (s : ℕ) (I J : Journal) (state : State) (place : ℕ) (c : Command) (l : ReportLine) (to : Position) → StartsWith J I → own s J ≡ own s I → place ≤ length I
    → Answers m options s (stand J state place) c l to → Answers m options s (stand I state place) c l to
moved_answers m options s I J state place c l to (more, is) same within a =
    let front : take place J ≡ take place I = ap (take place) is ∙ take-append-le place I more within in
    let begins = a.begins in
    record {
      begins = (more ++ begins.0, begins.1 ∙ (ap (λ (j : Journal). j ++ begins.0) is ∙ append_assoc I more begins.0));
      place = a.place;
      does = subst (Did m options s state place c l to) (λ i. (front i, same i)) a.does;
    }

does_in : (t : Turn ServerState Event) (c : Command) (old : Session) (seat : Seat ServerState Event ghosts) (new : Session) (reply : List ℕ) → IsAtRest t old → LooksOn t (number_of old) old.seat seat → DoesOne t c (record old { seat = seat }) new reply → DoesOne t c old new reply
does_in t c old seat new reply rest looks d =
    let on = looks.goes_on in
    let again = looks.again in
    record {
      answered = d.answered;
      answers = moved_answers whole_machine old.options (number_of old) (seen_by old) (view seat).seen old.state.state old.place c d.answered (position_of new) on.begins on.none rest.reached d.answers;
      reply = d.reply;
      lines = d.lines;
      options = d.options;
      standing = d.standing ∙ (λ i. (again.fixed i, again.registry i));
      end = d.end;
      session = d.session;
      rest = d.rest;
    }

-- ---- it may answer

moved_in : (t : Turn ServerState Event) (old : Session) (seat : Seat ServerState Event ghosts) → MayAnswer t old → LooksOn t (number_of old) old.seat seat → MayAnswer t (record old { seat = seat })
moved_in t old seat may looks =
    let rest = may.rest in
    let again = looks.again in
    let on = looks.goes_on in
    let begins = on.begins in
    let follows : Follows (seen_by old) (view seat).seen = record { more = begins.0; is = begins.1 } in
    let long : length (view seat).seen ≡ length (seen_by old) + length begins.0 = ap length begins.1 ∙ length-append (seen_by old) begins.0 in
    record {
      rest = record {
        rests = again.rests;
        fit = fit_later (seen_by old) (view seat).seen old.state follows rest.past rest.fit;
        past = past_later (seen_by old) (view seat).seen (snapshot_of old.state.state) follows rest.past;
        reached = omega (arith, rest.reached, long);
        options = again.fixed ∙ rest.options;
        ranges = subst (λ (n : ℕ). old.options.size ≤ 512 * n) (sym again.ranges) rest.ranges;
      };
      room = may.room;
    }

pub moved_may : (t : Turn ServerState Event) (old mid : Session) → MayAnswer t old → LooksAgain t old mid → MayAnswer t mid
moved_may t old mid may looks = subst (MayAnswer t) (sym looks.same) (moved_in t old mid.seat may looks.seat)

put_in : (t : Turn ServerState Event) (old : Session) (seat : Seat ServerState Event ghosts) (new : Session) (pieces : List Piece) → LooksOn t (number_of old) old.seat seat → ArePutBy (record old { seat = seat }) new pieces → ArePutBy old new pieces
put_in t old seat new pieces looks put = λ place e is.
    let on = looks.goes_on in
    put place e (is ∙ ap (λ (xs : List (ℕ × Event)). xs ++ (place, e) ∷ []) (sym on.none))

replied_in : (t : Turn ServerState Event) (c : Command) (old : Session) (seat : Seat ServerState Event ghosts) (new : Session) (held out : Option (List Piece)) → IsAtRest t old → LooksOn t (number_of old) old.seat seat
    → IsReplied t c (record old { seat = seat }) new held out → IsReplied t c old new held out
unfolding does_in
replied_in t c old seat new held out rest looks replied = record {
  reply = replied.reply;
  does = does_in t c old seat new replied.reply rest looks replied.does;
  sends = replied.sends;
  at = adds_so held out (ArePutBy (record old { seat = seat }) new) (ArePutBy old new) (λ more put. put_in t old seat new more looks put) replied.at;
  cut = replied.cut;
  some = replied.some;
}

pub moved_replied : (t : Turn ServerState Event) (c : Command) (old mid new : Session) (held out : Option (List Piece)) → IsAtRest t old → LooksAgain t old mid → IsReplied t c mid new held out → IsReplied t c old new held out
moved_replied t c old mid new held out rest looks replied = replied_in t c old mid.seat new held out rest looks.seat (subst (λ (x : Session). IsReplied t c x new held out) looks.same replied)

-- ---- it ends

-- the line of a command, by the events that its session had seen and those in front of its last line
abbrev Told : Machine → Options → ℕ → State → ℕ → Command → ReportLine → Journal → Journal × List (ℕ × Event) → Type 0
Told m options s state place c l seen p =
    MatchOption (m.without_event state p.0 c)
    ((e : Event) × (r : Reply) × (next : State) × (own s seen ≡ p.1 ++ (l.place, e) ∷ []) × m.executes options (who_of state.session (length p.1 + 1)) state c (before l.place seen) e r next
    × (l ≡ line l.place (word_of e) r) × HasOwnNeeds options (before l.place seen) (key_of_command state c) e)
    (λ given. (l ≡ line place word.Local given.0) × (own s seen ≡ p.1))

moved_line : (m : Machine) (options : Options) (s : ℕ) (I J : Journal) (state : State) (place : ℕ) (c : Command) (l : ReportLine) (seen : Journal) → StartsWith J I → own s J ≡ own s I → place ≤ length I
    → HasLine m options s (stand J state place) c l seen → HasLine m options s (stand I state place) c l seen
moved_line m options s I J state place c l seen (more, is) same within h =
    let front : take place J ≡ take place I = ap (take place) is ∙ take-append-le place I more within in
    subst (Told m options s state place c l seen) (λ i. (front i, same i)) h

moved_sent : (t : Turn ServerState Event) (c : Command) (old : Session) (seat : Seat ServerState Event ghosts) (new : Session) (events : List (ℕ × Event)) (held out : Option (List Piece)) → IsAtRest t old → LooksOn t (number_of old) old.seat seat
    → ((events ≡ []) × (out ≡ held)) ⊎ SendsPart c (record old { seat = seat }) new held out → ((events ≡ []) × (out ≡ held)) ⊎ SendsPart c old new held out
moved_sent t c old seat new events held out rest looks (inl none) = inl none
moved_sent t c old seat new events held out rest looks (inr (l, has, front, cut)) =
    let on = looks.goes_on in
    inr (l, moved_line whole_machine old.options (number_of old) (seen_by old) (view seat).seen old.state.state old.place c l (seen_by new) on.begins on.none rest.reached has, front, cut)

ends_in : (t : Turn ServerState Event) (c : Command) (old : Session) (seat : Seat ServerState Event ghosts) (new : Session) (held out : Option (List Piece)) → IsAtRest t old → LooksOn t (number_of old) old.seat seat
    → MustEnd t c (record old { seat = seat }) new held out → MustEnd t c old new held out
ends_in t c old seat new held out rest looks must =
    let on = looks.goes_on in
    let again = looks.again in
    let b = must.breaks in
    let first = on.begins in
    let then = b.begins in
    record {
      rests = must.rests;
      breaks = record {
        begins = (first.0 ++ then.0, then.1 ∙ (ap (λ (j : Journal). j ++ then.0) first.1 ∙ append_assoc (seen_by old) first.0 then.0));
        events = b.events;
        few = b.few;
        grows = b.grows ∙ ap (λ (ls : List (ℕ × Event)). ls ++ b.events) on.none;
        lines = b.lines;
        session = b.session;
        standing = b.standing ∙ (λ i. (again.fixed i, again.registry i));
        sent = moved_sent t c old seat new b.events held out rest looks b.sent;
        at = adds_so held out (AreStreamedBy (record old { seat = seat }) new) (AreStreamedBy old new) (λ more streamed. λ place e is. streamed place e (is ∙ ap (λ (xs : List (ℕ × Event)). xs ++ (place, e) ∷ []) (sym on.none))) b.at;
      };
    }

pub moved_ends : (t : Turn ServerState Event) (c : Command) (old mid new : Session) (held out : Option (List Piece)) → IsAtRest t old → LooksAgain t old mid → MustEnd t c mid new held out → MustEnd t c old new held out
moved_ends t c old mid new held out rest looks must = ends_in t c old mid.seat new held out rest looks.seat (subst (λ (x : Session). MustEnd t c x new held out) looks.same must)

-- memory lacked before anything was done
looks_end_in : (t : Turn ServerState Event) (c : Command) (old : Session) (seat : Seat ServerState Event ghosts) (held : Option (List Piece)) → LooksOn t (number_of old) old.seat seat → MustEnd t c old (record old { seat = seat }) held held
looks_end_in t c old seat held looks =
    let again = looks.again in
    let on = looks.goes_on in
    record {
      rests = again.rests;
      breaks = record {
        begins = on.begins;
        events = [];
        few = omega arith;
        grows = on.none ∙ sym (append-nil (own (number_of old) (seen_by old)));
        lines = sym (append-nil old.log.lines);
        session = refl;
        standing = λ i. (again.fixed i, again.registry i);
        sent = inl (refl, refl);
        at = none_streamed old (record old { seat = seat }) held;
      };
    }

pub looks_end : (t : Turn ServerState Event) (c : Command) (old mid : Session) (held : Option (List Piece)) → LooksAgain t old mid → MustEnd t c old mid held held
looks_end t c old mid held looks = subst (λ (x : Session). MustEnd t c old x held held) (sym looks.same) (looks_end_in t c old mid.seat held looks.seat)

pub moved_lines : (t : Turn ServerState Event) (old mid : Session) → LooksAgain t old mid → mid.log.lines ≡ old.log.lines
moved_lines t old mid looks = ap (λ (x : Session). x.log.lines) looks.same
