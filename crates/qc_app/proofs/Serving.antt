-- A session serves an input in memory.
use Rattle.std.proofs.Common.{◌≡◌, ◌≢◌, ℕ, ◌<◌, ◌≤◌, List, [], ◌∷◌, ◌++◌, length, refl, sym, ap, ◌∙◌, subst, append-nil, arith, length-append, inl, inr, ◌⊎◌, Option, Some, None, Ok, Err}
use Rattle.std.specs.Prelude.{IfSome}
use Rattle.std.proofs.lemmas.Option.{none-some}
use Rattle.qc_types.specs.declared.memory.Or.{Or}
use Rattle.qc_types.specs.declared.memory.Or.TheVariants as or
use Rattle.qc_sql.specs.declared.commands.Command.{Command}
use Rattle.qc_sql.specs.declared.commands.Command.TheVariants as command
use Rattle.qc_sql.specs.declared.commands.CommandEnd.{CommandEnd}
use Rattle.qc_sql.specs.declared.commands.CommandEnd.TheVariants as why
use Rattle.qc_sql.specs.Commands.{behind_packet}
use Rattle.qc_model.specs.declared.events.Event.{Event}
use Rattle.qc_model.specs.declared.reports.Ending.{Ending}
use Rattle.qc_model.specs.declared.reports.Ending.TheVariants as ending
use Rattle.qc_model.specs.declared.reports.ReportLine.{ReportLine}
use Rattle.qc_model.specs.Agrees.{commands_of, then_commands, whole_machine}
use Rattle.qc_laws.specs.runs.Cuts.{Takes}
use Rattle.qc_laws.proofs.runs.Composes.{answered}
use Rattle.qc_laws.proofs.runs.Cutting.{cuts_none, cuts_one, takes_all, takes_more, takes_one}
use Rattle.qc_turn.specs.declared.turn.Turn.{Turn}
use Rattle.qc_core.specs.declared.server_state.ServerState.{ServerState}
use Rattle.qc_wire.specs.Commands.{ReadsCommand}
use Rattle.qc_serve.specs.declared.ending.End.{End}
use Rattle.qc_serve.specs.declared.ending.End.TheVariants as end
use Rattle.qc_serve.specs.declared.execution.Executed.TheVariants as executed
use Rattle.qc_serve.specs.declared.session.Session.{Session}
use Rattle.qc_serve.specs.declared.sinks.Piece.{Piece}
use Rattle.qc_serve.specs.Executed as out
use Rattle.qc_serve.specs.Executed.{Executes, IsReplied, Leaves, MayFail, Quits}
use Rattle.qc_serve.specs.Going.{DoesOne, IsAtRest, number_of, position_of, seen_by}
use Rattle.qc_serve.specs.Leaving.{HasLeft}
use Rattle.qc_serve.specs.Logs.{logged_line}
use Rattle.qc_serve.specs.Sent.{Sends, bytes_of}
use Rattle.qc_serve.specs.Served.{HasServed, ending_at, reading_end}
use Rattle.qc_serve.proofs.Rounds.{serves_more, serves_none, serves_quietly}
use Rattle.qc_app.specs.SessionInput.{EndsAt, HasAnswered, HasEnded, HasGone, IsLastLine, KeepsLine}

-- ---- one command

serves_as : (t : Turn ServerState Event) (c : Command) (old new : Session) (reply : List ℕ) → old.place ≤ length (seen_by old) → (does : DoesOne t c old new reply) → HasServed old new (c ∷ []) (does.answered ∷ []) None None
serves_as t c old new reply small does = record {
  runs = answered whole_machine old.options (number_of old) (position_of old) (position_of new) c does.answered small does.answers;
  lines = does.lines;
  sends = refl;
  options = does.options;
  standing = does.standing;
  session = does.session;
}

takes_read : (left : List ℕ) (rest : Option (List ℕ)) (next : List ℕ) (c : Command) → c ≢ command.Quit → ReadsCommand (Ok c) (Some left) rest → rest ≡ Some next → Takes left (c ∷ []) next
takes_read left rest next c ne read is =
    let e : ◌≡◌ {A = Option (List ℕ)} (Some next) (Some (behind_packet left)) = sym is ∙ read.2 in
    let behind : behind_packet left ≡ next = cc in
    subst (λ (r : List ℕ). Takes left (c ∷ []) r) behind (takes_one left c read.0 (sym read.1) ne)

-- ---- the loop

pub gone_none : (t : Turn ServerState Event) (s : Session) (input : List ℕ) → IsAtRest t s → s.end ≡ None → HasGone t s s input input []
gone_none t s input rest going = record { commands = []; served = serves_none s None; takes = refl; rest = rest; going = going }

gone_more : (t : Turn ServerState Event) (old middle new : Session) (input left next : List ℕ) (rest : Option (List ℕ)) (c : Command) (lines : List ReportLine) (reply : List ℕ) → old.place ≤ length (seen_by old) → HasGone t old middle input left lines
    → c ≢ command.Quit → ReadsCommand (Ok c) (Some left) rest → rest ≡ Some next → (does : DoesOne t c middle new reply) → HasGone t old new input next (lines ++ does.answered ∷ [])
gone_more t old middle new input left next rest c lines reply small gone ne read is does =
    let calm = gone.rest in
    record {
      commands = gone.commands ++ c ∷ [];
      served = serves_more old middle new gone.commands (c ∷ []) lines (does.answered ∷ []) None None None small gone.served (serves_as t c middle new reply calm.reached does);
      takes = takes_more input left next gone.commands (c ∷ []) gone.takes (takes_read left rest next c ne read is);
      rest = does.rest;
      going = does.end ∙ gone.going;
    }

pub goes_on : (t : Turn ServerState Event) (old middle new : Session) (input left next : List ℕ) (c : Command) (lines now : List ReportLine) → old.place ≤ length (seen_by old) → HasGone t old middle input left lines → ReadsCommand (Ok c) (Some left) (Some next)
    → KeepsLine t c middle new lines now → HasGone t old new input next now
goes_on t old middle new input left next c lines now small gone read keeps =
    subst (λ (ls : List ReportLine). HasGone t old new input next ls) (sym keeps.kept) (gone_more t old middle new input left next (Some next) c lines keeps.reply small gone keeps.going read refl keeps.does)

-- ---- its end

-- where no command is left, the input ends so
ends_read : (left : List ℕ) (rest : Option (List ℕ)) (e : Or CommandEnd) → ReadsCommand (Err e) (Some left) rest → IfSome (ending_at (reading_end e)) (λ ending. commands_of left ≡ ([], ending))
ends_read left rest or.Memory read = tt
ends_read left rest (or.Other why.EndOfInput) read = cuts_none left why.EndOfInput read.0
ends_read left rest (or.Other (why.Cut n)) read = cuts_none left (why.Cut n) read.0
ends_read left rest (or.Other (why.TooLong n)) read = cuts_none left (why.TooLong n) read.0
ends_read left rest (or.Other (why.BadSequence found wanted)) read = cuts_none left (why.BadSequence found wanted) read.0
ends_read left rest (or.Other why.Failed) read = tt

quits_read : (left : List ℕ) (rest : Option (List ℕ)) (c : Command) → c ≡ command.Quit → ReadsCommand (Ok c) (Some left) rest → commands_of left ≡ ([], ending.Quit)
quits_read left rest c is read = cuts_one left read.0 ∙ ap (λ (x : Command). then_commands x (commands_of (behind_packet left))) (sym read.1 ∙ is)

pub ended_by : (t : Turn ServerState Event) (old middle new : Session) (input left : List ℕ) (lines : List ReportLine) (e : End) → HasGone t old middle input left lines → Leaves t middle new e → HasEnded t old new
ended_by t old middle new input left lines e gone leaves =
    let served = gone.served in
    record {
      left = subst (λ (n : ℕ). HasLeft t n new.seat) served.session leaves.left;
      standing = leaves.standing ∙ served.standing;
      ended = λ h. none-some e (sym h ∙ ap (λ (s : Session). s.end) leaves.same);
      session = ap number_of leaves.same ∙ served.session;
    }

answered_all : (t : Turn ServerState Event) (old middle new : Session) (input left : List ℕ) (lines : List ReportLine) (e : End) (last : Ending) → old.place ≤ length (seen_by old) → HasGone t old middle input left lines → Leaves t middle new e
    → commands_of left ≡ ([], last) → HasAnswered old new input lines last
answered_all t old middle new input left lines e last small gone leaves is =
    let all = takes_all input left gone.commands last gone.takes is in
    let more = serves_more old middle new gone.commands [] lines [] None None None small gone.served (serves_quietly t middle new e None leaves) in
    let same : gone.commands ++ [] ≡ (commands_of input).0 = append-nil gone.commands ∙ sym (ap (λ (p : List Command × Ending). p.0) all) in
    record {
      served = subst (λ (p : List Command × List ReportLine). HasServed old new p.0 p.1 None None) (λ i. (same i, append-nil lines i)) more;
      ends = sym (ap (λ (p : List Command × Ending). p.1) all);
    }

answered_by : (t : Turn ServerState Event) (old middle new : Session) (input left : List ℕ) (lines : List ReportLine) (e : End) (some : Option Ending) → old.place ≤ length (seen_by old) → HasGone t old middle input left lines → Leaves t middle new e
    → IfSome some (λ last. commands_of left ≡ ([], last)) → IfSome some (HasAnswered old new input lines)
answered_by t old middle new input left lines e None small gone leaves is = tt
answered_by t old middle new input left lines e (Some last) small gone leaves is = answered_all t old middle new input left lines e last small gone leaves is

-- the session ended at a command other than COM_QUIT
pub broken_off : (t : Turn ServerState Event) (old new : Session) (c : Command) (e : End) (held now : Option (List Piece)) → out.HasEnded t c old new held now e → HasEnded t old new
broken_off t old new c e held now has =
    let breaks = has.breaks in
    record { left = has.left; standing = breaks.standing; ended = λ h. none-some e (sym h ∙ has.end); session = breaks.session }

no_ending : (before now : ℕ) (e : End) → MayFail before now e → ending_at e ≡ None
no_ending before now end.WriteFault h = refl
no_ending before now end.Memory h = refl
no_ending before now end.ReadFault h = absurd h
no_ending before now end.Quit h = absurd h
no_ending before now end.EndOfInput h = absurd h
no_ending before now (end.Cut n) h = absurd h
no_ending before now (end.TooLong n) h = absurd h
no_ending before now (end.BadSequence found wanted) h = absurd h

same_end : (e f : End) → executed.Ended e ≡ executed.Ended f → e ≡ f
same_end e f h = cc

-- ---- one command, as it was executed

pub ends_at : (t : Turn ServerState Event) (c : Command) (old new : Session) (held now : Option (List Piece)) (before after : ℕ) (e : End) → (c ≢ command.Quit → Executes t c old new held now before after (executed.Ended e))
    → (c ≡ command.Quit → Quits t old new held now (executed.Ended e)) → EndsAt t c old new e
ends_at t c old new held now before after e executes quits = record {
  quit = λ is. let q = quits is in let same : e ≡ end.Quit = same_end e end.Quit q.0 in (same, q.1);
  other = λ ne. let x = executes ne in (broken_off t old new c e held now x.0, no_ending before after e x.1);
}

not_quit : (t : Turn ServerState Event) (c : Command) (old new : Session) (held now : Option (List Piece)) → (c ≡ command.Quit → Quits t old new held now executed.Replied) → c ≢ command.Quit
not_quit t c old new held now quits is = let q = quits is in clash q.0
  where
    clash : executed.Replied ≡ executed.Ended end.Quit → ⊥
    clash h = absurd cc

pub was_answered : (t : Turn ServerState Event) (c : Command) (old new : Session) (held now : Option (List Piece)) (before after : ℕ) → (c ≢ command.Quit → Executes t c old new held now before after executed.Replied)
    → (c ≡ command.Quit → Quits t old new held now executed.Replied) → IsReplied t c old new held now × (c ≢ command.Quit)
was_answered t c old new held now before after executes quits = let ne = not_quit t c old new held now quits in (executes ne, ne)

-- its line is the log's last, and its reply the pieces
pub last_line : (t : Turn ServerState Event) (c : Command) (old new : Session) (pieces : List Piece) (replied : IsReplied t c old new (Some []) (Some pieces)) → IsLastLine replied.does.answered new pieces
last_line t c old new pieces replied =
    let does = replied.does in
    record { before = old.log.lines; lines = does.lines; reply = does.reply ∙ sym (sent_as pieces replied.reply replied.sends) }
  where
    sent_as : (pieces : List Piece) (reply : List ℕ) → Sends (Some []) (Some pieces) reply → bytes_of pieces ≡ reply
    sent_as pieces reply (more, is, bytes) = let same : pieces ≡ more = cc in ap bytes_of same ∙ bytes

pub some_lines : (t : Turn ServerState Event) (c : Command) (old new : Session) (reply : List ℕ) → DoesOne t c old new reply → 0 < length new.log.lines
some_lines t c old new reply does = omega (arith, ap length does.lines, length-append old.log.lines (logged_line does.answered ∷ []))

-- memory lacked for its line
pub ends_lacking : (t : Turn ServerState Event) (c : Command) (old middle new : Session) (reply : List ℕ) → c ≢ command.Quit → DoesOne t c old middle reply → Leaves t middle new end.Memory → EndsAt t c old new end.Memory
ends_lacking t c old middle new reply ne does leaves = record {
  quit = λ is. absurd (ne is);
  other = λ h. (
    record {
      left = subst (λ (n : ℕ). HasLeft t n new.seat) does.session leaves.left;
      standing = leaves.standing ∙ does.standing;
      ended = λ h. none-some end.Memory (sym h ∙ ap (λ (s : Session). s.end) leaves.same);
      session = ap number_of leaves.same ∙ does.session;
    },
    refl,
  );
}

-- ---- behind the last command

-- a session that has gone on and then ended at a command has ended
ended_later : (t : Turn ServerState Event) (old middle new : Session) (input left : List ℕ) (lines : List ReportLine) → HasGone t old middle input left lines → HasEnded t middle new → HasEnded t old new
ended_later t old middle new input left lines gone has =
    let served = gone.served in
    record { left = subst (λ (n : ℕ). HasLeft t n new.seat) served.session has.left; standing = has.standing ∙ served.standing; ended = has.ended; session = has.session ∙ served.session }

decide_quit : (c : Command) → (c ≡ command.Quit) ⊎ (c ≢ command.Quit)
decide_quit command.Quit = inl refl
decide_quit command.Ping = inr (λ h. absurd cc)
decide_quit command.Empty = inr (λ h. absurd cc)
decide_quit (command.Query text) = inr (λ h. absurd cc)
decide_quit (command.InitDb name) = inr (λ h. absurd cc)
decide_quit (command.Unknown byte) = inr (λ h. absurd cc)

pub ended_at : (t : Turn ServerState Event) (old middle new : Session) (input left : List ℕ) (lines : List ReportLine) (c : Command) (e : End) → HasGone t old middle input left lines → EndsAt t c middle new e → HasEnded t old new
ended_at t old middle new input left lines c e gone ends = elim (decide_quit c) [
  | inl is ↦ ended_by t old middle new input left lines end.Quit gone (ends.quit is).1
  | inr ne ↦ ended_later t old middle new input left lines gone (ends.other ne).0
]

pub answered_at : (t : Turn ServerState Event) (old middle new : Session) (input left : List ℕ) (rest : Option (List ℕ)) (lines : List ReportLine) (c : Command) (e : End) (some : Option Ending) → old.place ≤ length (seen_by old) → HasGone t old middle input left lines
    → ReadsCommand (Ok c) (Some left) rest → EndsAt t c middle new e → some ≡ ending_at e → IfSome some (HasAnswered old new input lines)
answered_at t old middle new input left rest lines c e some small gone read ends same = elim (decide_quit c) [
  | inl is ↦ let q = ends.quit is in subst (λ (o : Option Ending). IfSome o (HasAnswered old new input lines)) (sym (same ∙ ap ending_at q.0)) (answered_all t old middle new input left lines end.Quit ending.Quit small gone q.1 (quits_read left rest c is read))
  | inr ne ↦ subst (λ (o : Option Ending). IfSome o (HasAnswered old new input lines)) (sym (same ∙ (ends.other ne).1)) tt
]

pub answered_end : (t : Turn ServerState Event) (old middle new : Session) (input left : List ℕ) (rest : Option (List ℕ)) (lines : List ReportLine) (why : Or CommandEnd) (e : End) (some : Option Ending) → old.place ≤ length (seen_by old) → HasGone t old middle input left lines
    → ReadsCommand (Err why) (Some left) rest → e ≡ reading_end why → some ≡ ending_at e → Leaves t middle new e → IfSome some (HasAnswered old new input lines)
answered_end t old middle new input left rest lines why e some small gone read is same leaves =
    answered_by t old middle new input left lines e some small gone leaves (subst (λ (o : Option Ending). IfSome o (λ last. commands_of left ≡ ([], last))) (sym (same ∙ ap ending_at is)) (ends_read left rest why read))
