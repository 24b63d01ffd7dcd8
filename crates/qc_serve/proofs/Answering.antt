-- From what a session's methods do to what it answers.
use Rattle.std.proofs.Common.{◌≡◌, ℕ, ◌+◌, true, List, [], ◌∷◌, ◌++◌, length, take, refl, sym, ap, ◌∙◌, subst, arith, append_assoc, append-nil, length-append, None, Some, Ok, Err}
use Rattle.std.specs.Prelude.{MatchOption}
use Rattle.qc_types.specs.declared.options.Options.{Options}
use Rattle.qc_sql.specs.declared.commands.Command.{Command}
use Rattle.qc_sql.specs.declared.commands.Command.TheVariants as command
use Rattle.qc_sql.specs.declared.replies.Reply.{Reply}
use Rattle.qc_sql.specs.declared.statements.Statement.{Statement}
use Rattle.qc_sql.specs.Database.{Name}
use Rattle.qc_sql.specs.Errors.{unknown_command}
use Rattle.qc_sql.specs.Grammar.{ParseFault, meaning, trimmed}
use Rattle.qc_model.specs.declared.events.Event.{Event}
use Rattle.qc_model.specs.declared.events.Event.TheVariants as event
use Rattle.qc_model.specs.declared.events.How.TheVariants as how
use Rattle.qc_model.specs.declared.reports.ReportLine.{ReportLine}
use Rattle.qc_model.specs.declared.reports.Word.{Word}
use Rattle.qc_model.specs.declared.reports.Word.TheVariants as word
use Rattle.qc_model.specs.Agrees.{Machine, fill_ends, key_of_command, line, who_of, whole_machine, word_of}
use Rattle.qc_model.specs.Journal.{Journal, before, event_count, events_of, is_by}
use Rattle.qc_model.specs.Machine.{Executes, ExecutesStatement, Given, Local, fault_error, local, local_text, ok_reply, refused, used}
use Rattle.qc_model.specs.Needs.{HasOwnNeeds}
use Rattle.qc_model.specs.Session.{State, arrived}
use Rattle.qc_laws.specs.runs.Runs.{Answers, HasItsEvent, HasNoEvent, Position, StartsWith, own, stand}
use Rattle.qc_laws.proofs.runs.Steps.{before_it, one_more}
use Rattle.qc_laws.proofs.runs.Whole.{own_count}
use Rattle.qc_statements.proofs.Words.{others_end}
use Rattle.qc_turn.specs.declared.turn.Turn.{Turn}
use Rattle.qc_core.specs.declared.server_state.ServerState.{ServerState}
use Rattle.qc_serve.specs.declared.session.Session.{Session}
use Rattle.qc_serve.specs.Going.{DoesOne, DoesStatement, GivesOut, IsEventOf, IsGivenBy, Stops, StopsStatement, TellsOut, next_who, number_of, position_of, seen_by}
use Rattle.qc_serve.proofs.Givens.{used_own}
use Rattle.qc_serve.proofs.Resting.{stops_as}

-- ---- of any machine

-- I: what the session had seen; J: the journal as it was taken; q: prunes; e: the command's event; r: what came later
pub answers_event : (m : Machine) (options : Options) (s : ℕ) (I J q r : Journal) (state after : State) (place : ℕ) (c : Command) (e : Event) (reply : Reply)
    → state.session ≡ s → StartsWith J I → own s J ≡ own s I → events_of s q ≡ [] → is_by s e ≡ true → events_of s r ≡ [] → fill_ends (J ++ (q ++ e ∷ r)) e ≡ true
    → m.without_event state (take place I) c ≡ None → m.executes options (who_of s (event_count I s + 1)) state c (J ++ q) e reply after → HasOwnNeeds options (J ++ q) (key_of_command state c) e
    → Answers m options s (stand I state place) c (line (1 + length J + length q) (word_of e) reply) (stand (J ++ (q ++ e ∷ r)) after (1 + length J + length q))
answers_event m options s I J q r state after place c e reply session begins same quiet mine later ended none does needs =
    let K : Journal = J ++ (q ++ e ∷ r) in
    let n : ℕ = 1 + length J + length q in
    let earlier : before n K ≡ J ++ q = before_it J q r e in
    let executed : m.executes options (who_of state.session (length (own s I) + 1)) state c (before n K) e reply after
    = subst (λ (p : ℕ × ℕ × Journal). m.executes options (who_of p.0 (p.1 + 1)) state c p.2 e reply after) (λ i. (sym session i, sym (own_count s I) i, sym earlier i)) does in
    let from : Position = stand I state place in
    let to : Position = stand K after n in
    let l : ReportLine = line n (word_of e) reply in
    record {
      begins = (begins.0 ++ (q ++ e ∷ r), ap (λ (j : Journal). j ++ (q ++ e ∷ r)) begins.1 ∙ append_assoc I begins.0 (q ++ e ∷ r));
      place = refl;
      does = subst (λ (o : Local). MatchOption o (HasItsEvent m options s from c l to) (HasNoEvent s from l to)) (sym none)
          (e, reply, one_more s I J q r e same quiet mine later, executed, refl, subst (λ (j : Journal). HasOwnNeeds options j (key_of_command state c) e) (sym earlier) needs, ended);
    }

pub answers_told : (m : Machine) (options : Options) (s : ℕ) (I : Journal) (state after : State) (place : ℕ) (c : Command) (reply : Reply) → m.without_event state (take place I) c ≡ Some (reply, after)
    → Answers m options s (stand I state place) c (line place word.Local reply) (stand I after place)
answers_told m options s I state after place c reply h =
    let from : Position = stand I state place in
    let to : Position = stand I after place in
    let l : ReportLine = line place word.Local reply in
    record {
      begins = ([], sym (append-nil I));
      place = refl;
      does = subst (λ (o : Local). MatchOption o (HasItsEvent m options s from c l to) (HasNoEvent s from l to)) (sym h) (refl, refl, refl);
    }

-- ---- an event that isn't a SELECT's

-- it needs nothing
pub others_need : (options : Options) (earlier : Journal) (key : List ℕ) (e : Event) → word_of e ≡ word.Other → HasOwnNeeds options earlier key e
others_need options earlier key (event.Run who (how.Start serial k tables)) h = tt
others_need options earlier key (event.Run who (how.Hit serial)) h = tt
others_need options earlier key (event.Run who (how.Plain why)) h = absurd cc
others_need options earlier key (event.Run who how.Other) h = tt
others_need options earlier key (event.Run who (how.Conflict table k by)) h = tt
others_need options earlier key (event.Run who (how.Status totals)) h = tt
others_need options earlier key (event.Commit who ops) h = tt
others_need options earlier key (event.Done serial) h = tt
others_need options earlier key (event.Gone serial why) h = tt
others_need options earlier key (event.Prune serial need largest) h = tt
others_need options earlier key (event.Reset who) h = tt
others_need options earlier key (event.Flush who) h = tt

-- ---- a command was answered

pub given_does : (t : Turn ServerState Event) (c : Command) (old new : Session) (reply : List ℕ) (given : Journal → Given) → local old.state.state c ≡ None
    → ((J : Journal) → Executes old.options (next_who old) old.state.state c J (given J).event (given J).reply (given J).next) → ((J : Journal) → (given J).next.session ≡ number_of old) → GivesOut t old new reply given → DoesOne t c old new reply
given_does t c old new reply given none does session out =
    let I : Journal = seen_by old in
    let s : ℕ = number_of old in
    let J : Journal = out.journal in
    let g : Given = given J in
    let goes = out.goes_on in
    let n : ℕ = 1 + length J + length {A = Event} [] in
    let long : length (seen_by new) ≡ length J + 1 = ap length out.events ∙ length-append J (g.event ∷ []) in
    let at : n ≡ new.place = sym (out.place ∙ (long ∙ omega arith)) in
    let a : Answers whole_machine old.options s (stand I old.state.state old.place) c (line n (word_of g.event) g.reply) (stand (J ++ g.event ∷ []) g.next n)
    = answers_event whole_machine old.options s I J [] [] old.state.state g.next old.place c g.event g.reply refl goes.begins goes.none refl out.mine refl (others_end g.event out.other (J ++ g.event ∷ []))
    none (subst (λ (j : Journal). Executes old.options (next_who old) old.state.state c j g.event g.reply g.next) (sym (append-nil J)) (does J)) (others_need old.options (J ++ []) (key_of_command old.state.state c) g.event out.other) in
    record {
      answered = line new.place word.Other g.reply;
      answers = subst (λ (p : ℕ × Word × Position). Answers whole_machine old.options s (position_of old) c (line p.0 p.1 g.reply) p.2) (λ i. (at i, out.other i, stand (sym out.events i) (sym out.state i) (at i))) a;
      reply = sym out.reply;
      lines = out.lines;
      options = out.options;
      standing = out.standing;
      end = out.end;
      session = ap (λ (y : State). y.session) out.state ∙ session J;
      rest = out.rest;
    }

pub told_does : (t : Turn ServerState Event) (c : Command) (old new : Session) (bytes : List ℕ) (r : Reply) (next : State) → local old.state.state c ≡ Some (r, next) → next.session ≡ number_of old → TellsOut t old new bytes r next → DoesOne t c old new bytes
told_does t c old new bytes r next is session out =
    let I : Journal = seen_by old in
    record {
      answered = line old.place word.Local r;
      answers = subst (λ (p : Position). Answers whole_machine old.options (number_of old) (position_of old) c (line old.place word.Local r) p) (λ i. stand (sym out.seen i) (sym out.state i) (sym out.place i))
          (answers_told whole_machine old.options (number_of old) I old.state.state next old.place c r is);
      reply = sym out.reply;
      lines = out.lines;
      options = out.options;
      standing = out.standing;
      end = out.end;
      session = ap (λ (y : State). y.session) out.state ∙ session;
      rest = out.rest;
    }

-- ---- each command that is no query

pub ping_does : (t : Turn ServerState Event) (old new : Session) (bytes : List ℕ) → TellsOut t old new bytes (ok_reply old.state.state 0) old.state.state → DoesOne t command.Ping old new bytes
ping_does t old new bytes out = told_does t command.Ping old new bytes (ok_reply old.state.state 0) old.state.state refl refl out

pub unknown_does : (t : Turn ServerState Event) (byte : ℕ) (old new : Session) (bytes : List ℕ) → TellsOut t old new bytes (refused unknown_command) old.state.state → DoesOne t (command.Unknown byte) old new bytes
unknown_does t byte old new bytes out = told_does t (command.Unknown byte) old new bytes (refused unknown_command) old.state.state refl refl out

pub empty_does : (t : Turn ServerState Event) (old new : Session) (bytes : List ℕ) → TellsOut t old new bytes (refused unknown_command) old.state.state → DoesOne t command.Empty old new bytes
empty_does t old new bytes out = told_does t command.Empty old new bytes (refused unknown_command) old.state.state refl refl out

pub choose_does : (t : Turn ServerState Event) (name : Name) (old new : Session) (bytes : List ℕ) → GivesOut t old new bytes (λ journal. used (next_who old) old.state.state journal name) → DoesOne t (command.InitDb name) old new bytes
choose_does t name old new bytes out =
    given_does t (command.InitDb name) old new bytes (λ journal. used (next_who old) old.state.state journal name) refl (λ J. (refl, refl, refl)) (λ J. let g = used_own (next_who old) J old.state.state name in g.session) out

-- ---- a statement was answered

pub statement_given : (t : Turn ServerState Event) (s : Statement) (old new : Session) (reply : List ℕ) (given : Journal → Given) → local_text old.state.state (Ok s) ≡ None
    → ((text : List ℕ) (J : Journal) → ExecutesStatement old.options (next_who old) (arrived (length J + 1) s old.state.state) text J s (given J).event (given J).reply (given J).next)
    → ((J : Journal) → (given J).next.session ≡ number_of old) → GivesOut t old new reply given → DoesStatement t s old new reply
statement_given t s old new reply given no_local does session out = λ text is.
    given_does t (command.Query text) old new reply given (rw is no_local) (λ J. rw is (does text J)) session out

pub statement_told : (t : Turn ServerState Event) (s : Statement) (old new : Session) (bytes : List ℕ) (r : Reply) (next : State) → local_text old.state.state (Ok s) ≡ Some (r, next) → next.session ≡ number_of old
    → TellsOut t old new bytes r next → DoesStatement t s old new bytes
statement_told t s old new bytes r next local_is session out = λ text is.
    told_does t (command.Query text) old new bytes r next (rw is local_is) session out

pub fault_told : (t : Turn ServerState Event) (text : List ℕ) (fault : ParseFault) (old new : Session) (bytes : List ℕ) → meaning (trimmed text) old.state.state.ansi ≡ Err fault → TellsOut t old new bytes (refused (fault_error fault)) old.state.state
    → DoesOne t (command.Query text) old new bytes
fault_told t text fault old new bytes is out = told_does t (command.Query text) old new bytes (refused (fault_error fault)) old.state.state (rw is refl) refl out

-- ---- memory lacked

-- what is given is the command's own event
given_event : (c : Command) (old : Session) (given : Journal → Given) (J : Journal) (e : Event) → local old.state.state c ≡ None → Executes old.options (next_who old) old.state.state c J (given J).event (given J).reply (given J).next
    → IsGivenBy given J e → IsEventOf c old J e
given_event c old given J e none does is = record {
  has_one = none;
  reply = (given J).reply;
  next = (given J).next;
  executes = subst (λ (x : Event). Executes old.options (next_who old) old.state.state c J x (given J).reply (given J).next) (sym is) does;
}

pub choose_stops : (t : Turn ServerState Event) (name : Name) (old new : Session) → Stops t old new (IsGivenBy (λ journal. used (next_who old) old.state.state journal name)) → Stops t old new (IsEventOf (command.InitDb name) old)
choose_stops t name old new stops =
    let given : Journal → Given = λ journal. used (next_who old) old.state.state journal name in
    stops_as t old new (IsGivenBy given) (IsEventOf (command.InitDb name) old) (λ J e is. given_event (command.InitDb name) old given J e refl (refl, refl, refl) is) stops

-- of a query
pub statement_event : (text : List ℕ) (s : Statement) (old : Session) (given : Journal → Given) (J : Journal) (e : Event) → meaning (trimmed text) old.state.state.ansi ≡ Ok s → local_text old.state.state (Ok s) ≡ None
    → ExecutesStatement old.options (next_who old) (arrived (length J + 1) s old.state.state) text J s (given J).event (given J).reply (given J).next → IsGivenBy given J e → IsEventOf (command.Query text) old J e
statement_event text s old given J e means no_local does is = given_event (command.Query text) old given J e (rw means no_local) (rw means does) is

pub statement_stops : (t : Turn ServerState Event) (s : Statement) (old new : Session) (given : Journal → Given) → local_text old.state.state (Ok s) ≡ None
    → ((text : List ℕ) (J : Journal) → ExecutesStatement old.options (next_who old) (arrived (length J + 1) s old.state.state) text J s (given J).event (given J).reply (given J).next)
    → Stops t old new (IsGivenBy given) → StopsStatement t s old new
statement_stops t s old new given no_local does stops = λ text means.
    stops_as t old new (IsGivenBy given) (IsEventOf (command.Query text) old) (λ J e is. statement_event text s old given J e means no_local (does text J) is) stops
