-- A session ends at a command.
use Rattle.std.proofs.Common.{◌≡◌, ℕ, ◌+◌, ◌-◌, ◌≤◌, List, [], ◌∷◌, ◌++◌, length, take, refl, sym, ap, ◌∙◌, subst, arith, append-nil, inl, inr, Option, Some, None, Result, Ok, Err, OnErr}
use Rattle.std.specs.List.{AllByRecursion}
use Rattle.std.specs.Prelude.{◌⊎◌, MatchOption, map}
use lib.Seq.{take-append-le}
use Rattle.qc_types.specs.declared.options.Options.{Options}
use Rattle.qc_types.specs.Streams.{BeginsWith}
use Rattle.qc_sql.specs.declared.commands.Command.{Command}
use Rattle.qc_sql.specs.declared.commands.Command.TheVariants as command
use Rattle.qc_model.specs.declared.events.Event.{Event}
use Rattle.qc_model.specs.declared.events.Event.TheVariants as event
use Rattle.qc_model.specs.declared.events.How.{How}
use Rattle.qc_model.specs.declared.events.How.TheVariants as how
use Rattle.qc_model.specs.declared.reports.ReportLine.{ReportLine}
use Rattle.qc_model.specs.declared.reports.Word.TheVariants as word
use Rattle.qc_model.specs.Agrees.{Machine, key_of_command, line, who_of, whole_machine, word_of, word_of_how}
use Rattle.qc_model.specs.Journal.{Journal, before}
use Rattle.qc_model.specs.Machine.{Executes, Local}
use Rattle.qc_model.specs.Needs.{HasOwnNeeds}
use Rattle.qc_laws.specs.runs.Runs.{HasItsEvent, HasNoEvent, Position, own}
use Rattle.qc_laws.proofs.runs.Composes.{events_below}
use Rattle.qc_laws.proofs.runs.Whole.{own_count}
use Rattle.qc_turn.specs.declared.seat.Seat.{Seat}
use Rattle.qc_turn.specs.declared.task.Task.TheVariants as task
use Rattle.qc_turn.specs.declared.turn.Turn.{Turn}
use Rattle.qc_turn.specs.Seats.{view}
use Rattle.qc_turn.proofs.Tasks.{starts_trans}
use Rattle.qc_core.specs.contracts.server.ServerKept.TheImpl.{ghosts}
use Rattle.qc_core.specs.declared.server_state.ServerState.{ServerState}
use Rattle.qc_serve.specs.declared.ending.End.{End}
use Rattle.qc_serve.specs.declared.execution.Executed.{Executed}
use Rattle.qc_serve.specs.declared.log.Logged.{Logged}
use Rattle.qc_serve.specs.declared.session.Session.{Session}
use Rattle.qc_serve.specs.declared.sinks.Piece.{Piece}
use Rattle.qc_serve.specs.Executed.{ArePutBy, AreStreamedBy, GoOutAt, HasEnded, HasEventLine, IsReplied, Leaves, MustEnd, Quits, SendsPart, StreamsOut, size_by}
use Rattle.qc_serve.specs.Going.{DoesOne, IsEventOf, Stops, number_of, position_of, seen_by, standing_of}
use Rattle.qc_serve.specs.Leaving.{HasLeft}
use Rattle.qc_serve.specs.Logs.{DropsLocal, Lines, kept_line, logged, logged_event, logged_line}
use Rattle.qc_serve.specs.Seats.{GoesOn, SeatRests}
use Rattle.qc_serve.specs.Sent.{Adds, AreCut, SendsFrontOf, bytes_of, packet_size}
use Rattle.qc_serve.proofs.Answering.{others_need}
use Rattle.qc_serve.proofs.Cutting.{none_cut}
use Rattle.qc_serve.proofs.Sending.{adds_none, adds_so, none_at}

-- ---- the line of a command with an event stays

run_stays : (place : ℕ) (h : How) → kept_line (logged place (word_of_how h)) ≡ logged place (word_of_how h) ∷ []
run_stays place (how.Hit serial) = refl
run_stays place (how.Start serial key tables) = refl
run_stays place (how.Plain why) = refl
run_stays place (how.Conflict table key by) = refl
run_stays place (how.Status totals) = refl
run_stays place how.Other = refl

event_stays : (place : ℕ) (e : Event) → kept_line (logged place (word_of e)) ≡ logged place (word_of e) ∷ []
event_stays place (event.Run who h) = run_stays place h
event_stays place (event.Commit who ops) = refl
event_stays place (event.Done serial) = refl
event_stays place (event.Gone serial why) = refl
event_stays place (event.Prune serial need largest) = refl
event_stays place (event.Reset who) = refl
event_stays place (event.Flush who) = refl

-- what is known of an answered command whose reply didn't go out
record Parted (m : Machine) (options : Options) (s : ℕ) (from : Position) (c : Command) (l : ReportLine) (seen : Journal) (o : Local) : Type 0 where
  pub events : List (ℕ × Event)
  pub few : length events ≤ 1
  pub grows : own s seen ≡ own s from.seen ++ events
  pub kept : kept_line (logged_line l) ≡ map logged_event events
  pub line : MatchOption o (HasEventLine m options s from c l seen) (λ given. (l ≡ line from.place word.Local given.0) × (own s seen ≡ own s from.seen))

parted : (m : Machine) (options : Options) (s : ℕ) (from to : Position) (c : Command) (l : ReportLine) (o : Local) → MatchOption o (HasItsEvent m options s from c l to) (HasNoEvent s from l to) → Parted m options s from c l to.seen o
parted m options s from to c l None (e, reply, grows, does, is, needs, ends) = record {
  events = (l.place, e) ∷ [];
  few = omega arith;
  grows = grows;
  kept = ap (λ (x : ReportLine). kept_line (logged l.place x.how)) is ∙ event_stays l.place e;
  line = (e, reply, to.state, grows, does, is, needs);
}
parted m options s from to c l (Some given) (is, next, same) = record {
  events = [];
  few = omega arith;
  grows = same ∙ sym (append-nil (own s from.seen));
  kept = ap (λ (x : ReportLine). kept_line (logged_line x)) is;
  line = (is, same);
}

-- ---- what went out of a hit

none_out : (e : Event) → StreamsOut e []
none_out (event.Run who (how.Hit n)) = none_at (task.Stream n)
none_out e = tt

-- nothing went out
pub none_streamed : (old new : Session) (held : Option (List Piece)) → Adds held held (AreStreamedBy old new)
none_streamed old new held = adds_none held (AreStreamedBy old new) (λ place e is. none_out e)

put_out : (seen : Journal) (e : Event) (pieces : List Piece) → GoOutAt seen e pieces → StreamsOut e pieces
put_out seen (event.Run who (how.Hit n)) pieces put = put
put_out seen e pieces put = tt

-- ---- a put failed

-- the log lost its last line where that has no event
pub put_fails : (t : Turn ServerState Event) (c : Command) (old middle : Session) (log : Lines) (reply : List ℕ) (held out : Option (List Piece)) (does : DoesOne t c old middle reply) → ((pieces : List Piece) → ArePutBy old middle pieces) → size_by does.answered.how ≡ packet_size → DropsLocal middle.log.lines log.lines → SendsFrontOf held out reply
    → Adds held out (AreCut packet_size) → MustEnd t c old (record middle { log = log }) held out
put_fails t c old middle log reply held out does put size drops front cut =
    let l : ReportLine = does.answered in
    let p = parted whole_machine old.options (number_of old) (position_of old) (position_of middle) c l (whole_machine.without_event old.state.state (take old.place (seen_by old)) c) does.answers.does in
    let rest = does.rest in
    let answers = does.answers in
    record {
      rests = subst (λ (n : ℕ). SeatRests t n middle.seat) does.session rest.rests;
      breaks = record {
        begins = answers.begins;
        events = p.events;
        few = p.few;
        grows = p.grows;
        lines = drops old.log.lines (logged_line l) does.lines ∙ ap (λ (ls : List Logged). old.log.lines ++ ls) p.kept;
        session = does.session;
        standing = does.standing;
        sent = inr (l, p.line, subst (SendsFrontOf held out) (sym does.reply) front, subst (λ (f : List ℕ → ℕ). Adds held out (AreCut f)) (sym size) cut);
        at = adds_so held out (λ more. BeginsWith reply (bytes_of more)) (AreStreamedBy old (record middle { log = log })) (λ more _. λ place e is. put_out (seen_by middle) e more (put more place e is)) front;
      };
    }

pub put_failed : (t : Turn ServerState Event) (c : Command) (old middle new : Session) (reply : List ℕ) (held out : Option (List Piece)) (does : DoesOne t c old middle reply) → ((pieces : List Piece) → ArePutBy old middle pieces) → size_by does.answered.how ≡ packet_size
    → DropsLocal middle.log.lines new.log.lines × (new ≡ record middle { log = new.log }) → SendsFrontOf held out reply → Adds held out (AreCut packet_size) → MustEnd t c old new held out
put_failed t c old middle new reply held out does put size log front cut = subst (λ (s : Session). MustEnd t c old s held out) (sym log.1) (put_fails t c old middle new.log reply held out does put size log.0 front cut)

-- ---- memory lacked, before anything went out

-- the empty front of a reply
front_none : (held : Option (List Piece)) (bytes : List ℕ) → SendsFrontOf held held bytes
front_none None bytes = refl
front_none (Some pieces) bytes = ([], ap (λ (x : List Piece). Some x) (sym (append-nil pieces)), (bytes, refl))

-- no event came, or the command's
stopped_sent : (c : Command) (old new : Session) (held : Option (List Piece)) (events : List (ℕ × Event)) → length events ≤ 1 → AllByRecursion (λ (x : ℕ × Event). word_of x.1 ≡ word.Other) events
    → AllByRecursion (λ (x : ℕ × Event). IsEventOf c old (before x.0 (seen_by new)) x.1) events → own (number_of old) (seen_by new) ≡ own (number_of old) (seen_by old) ++ events → ((events ≡ []) × (held ≡ held)) ⊎ SendsPart c old new held held
stopped_sent c old new held [] few others so grows = inl (refl, refl)
stopped_sent c old new held ((n, e) ∷ []) few (other, rest) (its, more) grows =
    let s : ℕ = number_of old in
    let J : Journal = before n (seen_by new) in
    let l : ReportLine = line n (word_of e) its.reply in
    let executed : Executes old.options (who_of s (length (own s (seen_by old)) + 1)) old.state.state c J e its.reply its.next
    = subst (λ (k : ℕ). Executes old.options (who_of s (k + 1)) old.state.state c J e its.reply its.next) (sym (own_count s (seen_by old))) its.executes in
    inr (
      l,
      subst (λ (o : Local). MatchOption o (HasEventLine whole_machine old.options s (position_of old) c l (seen_by new)) (λ given. (l ≡ line old.place word.Local given.0) × (own s (seen_by new) ≡ own s (seen_by old)))) (sym its.has_one)
          (e, its.reply, its.next, grows, executed, refl, others_need old.options J (key_of_command old.state.state c) e other),
      front_none held l.reply,
      adds_none held (AreCut (size_by (word_of e))) (none_cut (size_by (word_of e))),
    )
stopped_sent c old new held (x ∷ y ∷ more) few others so grows = absurd (omega (arith, few))

pub stopped : (t : Turn ServerState Event) (c : Command) (old new : Session) (held : Option (List Piece)) → Stops t old new (IsEventOf c old) → MustEnd t c old new held held
stopped t c old new held stops =
    let again = stops.rests in
    record {
      rests = again.rests;
      breaks = record { begins = stops.begins; events = stops.events; few = stops.few; grows = stops.grows; lines = stops.lines; session = stops.session; standing = λ i. (again.fixed i, again.registry i); sent = stopped_sent c old new held stops.events stops.few stops.others stops.are_so stops.grows; at = none_streamed old new held };
    }

-- nothing was done
pub untouched : (t : Turn ServerState Event) (c : Command) (old : Session) (log : Lines) (held : Option (List Piece)) → SeatRests t (number_of old) old.seat → log.lines ≡ old.log.lines → MustEnd t c old (record old { log = log }) held held
untouched t c old log held rests same = record {
  rests = rests;
  breaks = record {
    begins = ([], sym (append-nil (seen_by old)));
    events = [];
    few = omega arith;
    grows = sym (append-nil (own (number_of old) (seen_by old)));
    lines = same ∙ sym (append-nil old.log.lines);
    session = refl;
    standing = refl;
    sent = inl (refl, refl);
    at = none_streamed old (record old { log = log }) held;
  };
}

-- ---- with room made before

pub must_end_from : (t : Turn ServerState Event) (c : Command) (old new : Session) (log : Lines) (held out : Option (List Piece)) → log.lines ≡ old.log.lines → MustEnd t c (record old { log = log }) new held out → MustEnd t c old new held out
must_end_from t c old new log held out same must =
    let b = must.breaks in
    record {
      rests = must.rests;
      breaks = record { begins = b.begins; events = b.events; few = b.few; grows = b.grows; lines = b.lines ∙ ap (λ (ls : List Logged). ls ++ map logged_event b.events) same; session = b.session; standing = b.standing; sent = b.sent; at = b.at };
    }

-- an answered command too
pub replied_from : (t : Turn ServerState Event) (c : Command) (old new : Session) (log : Lines) (held out : Option (List Piece)) → log.lines ≡ old.log.lines → IsReplied t c (record old { log = log }) new held out → IsReplied t c old new held out
replied_from t c old new log held out same replied =
    let d = replied.does in
    record {
      reply = replied.reply;
      does = record {
        answered = d.answered;
        answers = d.answers;
        reply = d.reply;
        lines = d.lines ∙ ap (λ (ls : List Logged). ls ++ logged_line d.answered ∷ []) same;
        options = d.options;
        standing = d.standing;
        end = d.end;
        session = d.session;
        rest = d.rest;
      };
      sends = replied.sends;
      at = replied.at;
      cut = replied.cut;
      some = replied.some;
    }

-- ---- the seat leaves

-- a line stays one where the journal goes on by others
event_line_on : (m : Machine) (options : Options) (s : ℕ) (from : Position) (c : Command) (l : ReportLine) (seen now : Journal) → GoesOn s seen now → HasEventLine m options s from c l seen → HasEventLine m options s from c l now
event_line_on m options s from c l seen now on (e, reply, next, grows, does, is, needs) =
    let begins = on.begins in
    let below = events_below s 0 seen (own s from.seen) ((l.place, e) ∷ []) grows in
    let same : before l.place now ≡ before l.place seen = ap (before l.place) begins.1 ∙ take-append-le (l.place - 1) seen begins.0 (omega (arith, below.0)) in (
      e,
      reply,
      next,
      on.none ∙ grows,
      subst (λ (j : Journal). m.executes options (who_of from.state.session (length (own s from.seen) + 1)) from.state c j e reply next) (sym same) does,
      is,
      subst (λ (j : Journal). HasOwnNeeds options j (key_of_command from.state c) e) (sym same) needs,
    )

line_on : (m : Machine) (options : Options) (s : ℕ) (from : Position) (c : Command) (l : ReportLine) (seen now : Journal) (o : Local) → GoesOn s seen now
    → MatchOption o (HasEventLine m options s from c l seen) (λ given. (l ≡ line from.place word.Local given.0) × (own s seen ≡ own s from.seen))
    → MatchOption o (HasEventLine m options s from c l now) (λ given. (l ≡ line from.place word.Local given.0) × (own s now ≡ own s from.seen))
line_on m options s from c l seen now None on h = event_line_on m options s from c l seen now on h
line_on m options s from c l seen now (Some given) on h = (h.0, on.none ∙ h.1)

sent_on : (c : Command) (old middle : Session) (seat : Seat ServerState Event ghosts) (end : Option End) (events : List (ℕ × Event)) (held out : Option (List Piece)) → GoesOn (number_of old) (seen_by middle) (seen_by (record middle { seat = seat; end = end }))
    → ((events ≡ []) × (out ≡ held)) ⊎ SendsPart c old middle held out → ((events ≡ []) × (out ≡ held)) ⊎ SendsPart c old (record middle { seat = seat; end = end }) held out
sent_on c old middle seat end events held out on (inl none) = inl none
sent_on c old middle seat end events held out on (inr (l, has, front, cut)) =
    inr (l, line_on whole_machine old.options (number_of old) (position_of old) c l (seen_by middle) (seen_by (record middle { seat = seat; end = end })) (whole_machine.without_event old.state.state (take old.place (seen_by old)) c) on has, front, cut)

streamed_on : (old middle : Session) (seat : Seat ServerState Event ghosts) (end : Option End) (held out : Option (List Piece)) → GoesOn (number_of old) (seen_by middle) (seen_by (record middle { seat = seat; end = end })) → Adds held out (AreStreamedBy old middle)
    → Adds held out (AreStreamedBy old (record middle { seat = seat; end = end }))
streamed_on old middle seat end held out on at = adds_so held out (AreStreamedBy old middle) (AreStreamedBy old (record middle { seat = seat; end = end })) (λ more streamed. λ place e is. streamed place e (sym on.none ∙ is)) at

ends_with : (t : Turn ServerState Event) (c : Command) (old middle : Session) (seat : Seat ServerState Event ghosts) (held out : Option (List Piece)) (e : End) → MustEnd t c old middle held out → HasLeft t (number_of middle) seat → ((view seat).fixed, (view seat).registry) ≡ standing_of middle
    → GoesOn (number_of middle) (seen_by middle) (seen_by (record middle { seat = seat; end = Some e })) → HasEnded t c old (record middle { seat = seat; end = Some e }) held out e
ends_with t c old middle seat held out e must left standing on =
    let b = must.breaks in
    let goes : GoesOn (number_of old) (seen_by middle) (seen_by (record middle { seat = seat; end = Some e })) = subst (λ (n : ℕ). GoesOn n (seen_by middle) (seen_by (record middle { seat = seat; end = Some e }))) b.session on in
    record {
      left = subst (λ (n : ℕ). HasLeft t n seat) b.session left;
      end = refl;
      breaks = record { begins = starts_trans (seen_by (record middle { seat = seat; end = Some e })) (seen_by middle) (seen_by old) goes.begins b.begins; events = b.events; few = b.few; grows = goes.none ∙ b.grows; lines = b.lines; session = b.session; standing = standing ∙ b.standing; sent = sent_on c old middle seat (Some e) b.events held out goes b.sent; at = streamed_on old middle seat (Some e) held out goes b.at };
    }

pub ended : (t : Turn ServerState Event) (c : Command) (old middle new : Session) (held out : Option (List Piece)) (e : End) → MustEnd t c old middle held out → Leaves t middle new e → HasEnded t c old new held out e
ended t c old middle new held out e must leaves =
    let on : GoesOn (number_of middle) (seen_by middle) (seen_by (record middle { seat = new.seat; end = Some e })) = leaves.seen in
    subst (λ (s : Session). HasEnded t c old s held out e) (sym leaves.same) (ends_with t c old middle new.seat held out e must leaves.left leaves.standing on)

-- nor has its log another line
pub same_log : (t : Turn ServerState Event) (old new : Session) (e : End) → Leaves t old new e → old.log.lines ≡ new.log.lines
same_log t old new e leaves = sym (ap (λ (s : Session). s.log.lines) leaves.same)

-- the command was another
pub never_quits : (t : Turn ServerState Event) (c : Command) (old new : Session) (held out : Option (List Piece)) (r : Executed) → (c ≡ command.Quit → ⊥) → c ≡ command.Quit → Quits t old new held out r
never_quits t c old new held out r other is = absurd (other is)

-- ---- where a call answers an error

pub on_errs : {A E P Q R : Type 0} (r : Result A E) → (P → Q → R) → OnErr r P → OnErr r Q → OnErr r R
on_errs (Ok x) f p q = tt
on_errs (Err e) f p q = f p q
