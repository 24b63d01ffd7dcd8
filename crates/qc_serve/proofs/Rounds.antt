-- A session serves one command after another.
use Rattle.std.proofs.Common.{◌≡◌, ℕ, ◌≤◌, List, [], ◌∷◌, ◌++◌, length, refl, sym, ap, ◌∙◌, subst, arith, append-nil, append_assoc, length-append, inl, inr, Option, Some, None, Ok, Err}
use Rattle.std.specs.Prelude.{◌≢◌, map, IfSome, IsSome, MatchOption, ◌⊎◌}
use Rattle.std.proofs.lemmas.Grind.{flat_map-append}
use Rattle.std.proofs.lemmas.List.{map-append}
use Rattle.qc_types.specs.declared.memory.Or.{Or}
use Rattle.qc_types.specs.declared.memory.Or.TheVariants as or
use Rattle.qc_types.specs.declared.options.Options.{Options}
use Rattle.qc_sql.specs.declared.commands.Command.{Command}
use Rattle.qc_sql.specs.declared.commands.Command.TheVariants as command
use Rattle.qc_sql.specs.declared.commands.CommandEnd.{CommandEnd}
use Rattle.qc_sql.specs.declared.commands.CommandEnd.TheVariants as why
use Rattle.qc_sql.specs.Commands.{behind_packet}
use Rattle.qc_model.specs.declared.events.Event.{Event}
use Rattle.qc_model.specs.declared.reports.Ending.{Ending}
use Rattle.qc_model.specs.declared.reports.Ending.TheVariants as ending
use Rattle.qc_model.specs.declared.reports.ReportLine.{ReportLine}
use Rattle.qc_model.specs.Agrees.{commands_of, ending_of, then_commands, whole_machine}
use Rattle.qc_laws.specs.runs.Cuts.{Takes}
use Rattle.qc_laws.specs.runs.Runs.{Position, Runs, own}
use Rattle.qc_laws.proofs.runs.Composes.{compose, answered, nothing}
use Rattle.qc_laws.proofs.runs.Cutting.{cuts_none, cuts_one, takes_all, takes_more, takes_one}
use Rattle.qc_turn.specs.declared.turn.Turn.{Turn}
use Rattle.qc_core.specs.declared.server_state.ServerState.{ServerState}
use Rattle.qc_wire.specs.Commands.{ReadsCommand}
use Rattle.qc_serve.specs.declared.ending.End.{End}
use Rattle.qc_serve.specs.declared.ending.End.TheVariants as end
use Rattle.qc_serve.specs.declared.log.Logged.{Logged}
use Rattle.qc_serve.specs.declared.session.Session.{Session}
use Rattle.qc_serve.specs.declared.sinks.Piece.{Piece}
use Rattle.qc_serve.specs.declared.execution.Executed.{Executed}
use Rattle.qc_serve.specs.declared.execution.Executed.TheVariants as executed
use Rattle.qc_serve.specs.Executed.{Executes, HasEnded, IsReplied, Leaves, MayFail, Quits}
use Rattle.qc_serve.specs.Going.{IsAtRest, number_of, position_of, seen_by, standing_of}
use Rattle.qc_serve.specs.Leaving.{HasLeft}
use Rattle.qc_serve.specs.Logs.{logged_line}
use Rattle.qc_serve.specs.Sent.{Sends}
use Rattle.qc_serve.specs.Served.{HasServed, IsServed, IsServing, ServesAll, ServesSome, TakesOf, ending_at, reading_end, replies_of}

-- ---- what goes out

sends_none : (held : Option (List Piece)) → Sends held held []
sends_none None = refl
sends_none (Some held) = ([], ap Some (sym (append-nil held)), refl)

sends_more : (held between out : Option (List Piece)) (xs ys : List ℕ) → Sends held between xs → Sends between out ys → Sends held out (xs ++ ys)
sends_more None None out xs ys a b = b
sends_more None (Some between) out xs ys a b = absurd cc
sends_more (Some held) None out xs ys (more, is, bytes) b = absurd cc
sends_more (Some held) (Some between) out xs ys (more, is, bytes) (rest, same, others) =
    let at : between ≡ held ++ more = cc in (
      more ++ rest,
      same ∙ ap (λ (ps : List Piece). Some ps) (ap (λ (ps : List Piece). ps ++ rest) at ∙ append_assoc held more rest),
      flat_map-append (λ (p : Piece). p.bytes) more rest ∙ (λ i. bytes i ++ others i),
    )

-- ---- a run goes on

pub serves_none : (s : Session) (held : Option (List Piece)) → HasServed s s [] [] held held
serves_none s held = record {
  runs = nothing whole_machine s.options (number_of s) (position_of s) [] refl;
  lines = sym (append-nil s.log.lines);
  sends = sends_none held;
  options = refl;
  standing = refl;
  session = refl;
}

moved_runs : (o p : Options) (n k : ℕ) (a b : Position) (cs : List Command) (ls : List ReportLine) → p ≡ o → k ≡ n → Runs whole_machine p k a cs ls b → Runs whole_machine o n a cs ls b
moved_runs o p n k a b cs ls same number runs = subst (λ (x : Options × ℕ). Runs whole_machine x.0 x.1 a cs ls b) (λ i. (same i, number i)) runs

pub serves_more : (old middle new : Session) (cs ds : List Command) (ls ks : List ReportLine) (held between out : Option (List Piece)) → old.place ≤ length (seen_by old) → HasServed old middle cs ls held between → HasServed middle new ds ks between out
    → HasServed old new (cs ++ ds) (ls ++ ks) held out
serves_more old middle new cs ds ls ks held between out small a b = record {
  runs = compose whole_machine old.options (number_of old) (position_of old) (position_of middle) (position_of new) cs ds ls ks small a.runs
      (moved_runs old.options middle.options (number_of old) (number_of middle) (position_of middle) (position_of new) ds ks a.options a.session b.runs);
  lines = b.lines ∙ (ap (λ (xs : List Logged). xs ++ map logged_line ks) a.lines ∙ (append_assoc old.log.lines (map logged_line ls) (map logged_line ks) ∙ ap (λ (xs : List Logged). old.log.lines ++ xs) (sym (map-append logged_line ls ks))));
  sends = subst (Sends held out) (sym (flat_map-append (λ (l : ReportLine). l.reply) ls ks)) (sends_more held between out (replies_of ls) (replies_of ks) a.sends b.sends);
  options = b.options ∙ a.options;
  standing = b.standing ∙ a.standing;
  session = b.session ∙ a.session;
}

serves_one : (t : Turn ServerState Event) (c : Command) (old new : Session) (held out : Option (List Piece)) → old.place ≤ length (seen_by old) → IsReplied t c old new held out → (l : ReportLine) × HasServed old new (c ∷ []) (l ∷ []) held out
serves_one t c old new held out small replied =
    let does = replied.does in
    let l : ReportLine = does.answered in (
      l,
      record {
        runs = answered whole_machine old.options (number_of old) (position_of old) (position_of new) c l small does.answers;
        lines = does.lines;
        sends = subst (Sends held out) (sym does.reply ∙ sym (append-nil l.reply)) replied.sends;
        options = does.options;
        standing = does.standing;
        session = does.session;
      },
    )

-- the seat leaves, and nothing goes out
pub serves_quietly : (t : Turn ServerState Event) (old new : Session) (e : End) (held : Option (List Piece)) → Leaves t old new e → HasServed old new [] [] held held
serves_quietly t old new e held leaves =
    let on = leaves.seen in
    let begins = on.begins in
    let place : new.place ≡ old.place = ap (λ (s : Session). s.place) leaves.same in
    record {
      runs = record {
        begins = begins;
        reaches = λ h. omega (arith, place, h, ap length begins.1, length-append (seen_by old) begins.0);
        events = [];
        grows = on.none ∙ sym (append-nil (own (number_of old) (seen_by old)));
        lines = (sym (ap (λ (s : Session). s.state.state) leaves.same), sym place, sym (ap length on.none), refl);
        fills_end = refl;
      };
      lines = ap (λ (s : Session). s.log.lines) leaves.same ∙ sym (append-nil old.log.lines);
      sends = sends_none held;
      options = ap (λ (s : Session). s.options) leaves.same;
      standing = leaves.standing;
      session = ap (λ (s : Session). s.state.state.session) leaves.same;
    }

-- ---- what was taken of an input

takes_on : (input left rest : Option (List ℕ)) (cs ds : List Command) → TakesOf input cs left → TakesOf left ds rest → TakesOf input (cs ++ ds) rest
takes_on None None rest cs ds a b = b
takes_on None (Some left) rest cs ds a b = absurd cc
takes_on (Some input) None rest cs ds a b = absurd a
takes_on (Some input) (Some left) None cs ds a b = absurd b
takes_on (Some input) (Some left) (Some rest) cs ds a b = takes_more input left rest cs ds a b

takes_none : (input : Option (List ℕ)) → TakesOf input [] input
takes_none None = refl
takes_none (Some input) = refl

takes_read : (left rest : Option (List ℕ)) (c : Command) → (c ≡ command.Quit → ⊥) → ReadsCommand (Ok c) left rest → TakesOf left (c ∷ []) rest
takes_read None rest c ne read = read
takes_read (Some left) None c ne read = let e : ◌≡◌ {A = Option (List ℕ)} None (Some (behind_packet left)) = read.2 in absurd cc
takes_read (Some left) (Some rest) c ne read =
    let e : ◌≡◌ {A = Option (List ℕ)} (Some rest) (Some (behind_packet left)) = read.2 in
    let behind : behind_packet left ≡ rest = cc in
    subst (λ (r : List ℕ). Takes left (c ∷ []) r) behind (takes_one left c read.0 (sym read.1) ne)

quits_read : (left rest : Option (List ℕ)) → ReadsCommand (Ok command.Quit) left rest → IfSome left (λ bytes. commands_of bytes ≡ ([], ending.Quit))
quits_read None rest read = tt
quits_read (Some left) rest read = cuts_one left read.0 ∙ ap (λ (c : Command). then_commands c (commands_of (behind_packet left))) (sym read.1)

ends_read : (left rest : Option (List ℕ)) (e : CommandEnd) → (e ≡ why.Failed → ⊥) → ReadsCommand (Err (or.Other e)) left rest → IfSome left (λ bytes. commands_of bytes ≡ ([], ending_of e))
ends_read None rest e ne read = tt
ends_read (Some left) rest why.EndOfInput ne read = cuts_none left why.EndOfInput read.0
ends_read (Some left) rest (why.Cut n) ne read = cuts_none left (why.Cut n) read.0
ends_read (Some left) rest (why.TooLong n) ne read = cuts_none left (why.TooLong n) read.0
ends_read (Some left) rest (why.BadSequence found wanted) ne read = cuts_none left (why.BadSequence found wanted) read.0
ends_read (Some left) rest why.Failed ne read = absurd (ne refl)

all_taken : (input left : Option (List ℕ)) (cs : List Command) (e : Ending) → TakesOf input cs left → IfSome left (λ bytes. commands_of bytes ≡ ([], e)) → IfSome input (λ bytes. commands_of bytes ≡ (cs, e))
all_taken None left cs e takes is = tt
all_taken (Some input) None cs e takes is = absurd takes
all_taken (Some input) (Some left) cs e takes is = takes_all input left cs e takes is

-- ---- the loop

pub serving_begins : (t : Turn ServerState Event) (s : Session) (input : Option (List ℕ)) (held : Option (List Piece)) → IsAtRest t s → s.end ≡ None → IsServing t s s input input held held
serving_begins t s input held rest going = record { commands = []; answered = []; served = serves_none s held; takes = takes_none input; rest = rest; going = going }

serving_goes_on : (t : Turn ServerState Event) (old middle new : Session) (input left rest : Option (List ℕ)) (held between out : Option (List Piece)) (c : Command) → old.place ≤ length (seen_by old) → IsServing t old middle input left held between
    → ReadsCommand (Ok c) left rest → (c ≡ command.Quit → ⊥) → IsReplied t c middle new between out → IsServing t old new input rest held out
serving_goes_on t old middle new input left rest held between out c small serving read ne replied =
    let calm = serving.rest in
    let one = serves_one t c middle new between out calm.reached replied in
    let does = replied.does in
    record {
      commands = serving.commands ++ c ∷ [];
      answered = serving.answered ++ one.0 ∷ [];
      served = serves_more old middle new serving.commands (c ∷ []) serving.answered (one.0 ∷ []) held between out small serving.served one.1;
      takes = takes_on input left rest serving.commands (c ∷ []) serving.takes (takes_read left rest c ne read);
      rest = does.rest;
      going = does.end ∙ serving.going;
    }

-- ---- its end

serves_all : (t : Turn ServerState Event) (old middle new : Session) (input left : Option (List ℕ)) (held out : Option (List Piece)) (e : End) (ending : Ending) → old.place ≤ length (seen_by old) → IsServing t old middle input left held out
    → Leaves t middle new e → IfSome left (λ bytes. commands_of bytes ≡ ([], ending)) → ServesAll old new input held out ending
serves_all t old middle new input left held out e ending small serving leaves is =
    let more = serves_more old middle new serving.commands [] serving.answered [] held out out small serving.served (serves_quietly t middle new e out leaves) in
    record {
      commands = serving.commands;
      answered = serving.answered;
      served = subst (λ (p : List Command × List ReportLine). HasServed old new p.0 p.1 held out) (λ i. (append-nil serving.commands i, append-nil serving.answered i)) more;
      all = all_taken input left serving.commands ending serving.takes is;
    }

left_as : (t : Turn ServerState Event) (old middle new : Session) (input left : Option (List ℕ)) (held between : Option (List Piece)) → IsServing t old middle input left held between → HasLeft t (number_of middle) new.seat → HasLeft t (number_of old) new.seat
left_as t old middle new input left held between serving has = let served = serving.served in subst (λ (n : ℕ). HasLeft t n new.seat) served.session has

kept_while : (t : Turn ServerState Event) (old middle : Session) (input left : Option (List ℕ)) (held between : Option (List Piece)) → IsServing t old middle input left held between → standing_of middle ≡ standing_of old
kept_while t old middle input left held between serving = let served = serving.served in served.standing

ends_all : (t : Turn ServerState Event) (old middle new : Session) (input left : Option (List ℕ)) (held out : Option (List Piece)) (e : End) (ending : Ending) → old.place ≤ length (seen_by old) → IsServing t old middle input left held out
    → Leaves t middle new e → ending_at e ≡ Some ending → IfSome left (λ bytes. commands_of bytes ≡ ([], ending)) → IsServed t old new input held out e
ends_all t old middle new input left held out e ending small serving leaves at is = record {
  end = ap (λ (s : Session). s.end) leaves.same;
  left = left_as t old middle new input left held out serving leaves.left;
  standing = leaves.standing ∙ kept_while t old middle input left held out serving;
  served = subst (λ (o : Option Ending). MatchOption o (ServesSome t old new input held out e) (ServesAll old new input held out)) (sym at) (serves_all t old middle new input left held out e ending small serving leaves is);
}

ends_some : (t : Turn ServerState Event) (old middle new : Session) (input left : Option (List ℕ)) (held out : Option (List Piece)) (e : End) → IsServing t old middle input left held out → Leaves t middle new e → ending_at e ≡ None → IsServed t old new input held out e
ends_some t old middle new input left held out e serving leaves at = record {
  end = ap (λ (s : Session). s.end) leaves.same;
  left = left_as t old middle new input left held out serving leaves.left;
  standing = leaves.standing ∙ kept_while t old middle input left held out serving;
  served = subst (λ (o : Option Ending). MatchOption o (ServesSome t old new input held out e) (ServesAll old new input held out)) (sym at)
      (record { middle = middle; left = left; between = out; serving = serving; ended = inl (leaves, refl) });
}

-- no command is left, or none can be read
read_ends : (t : Turn ServerState Event) (old middle new : Session) (input left rest : Option (List ℕ)) (held out : Option (List Piece)) (e : Or CommandEnd) → old.place ≤ length (seen_by old) → IsServing t old middle input left held out
    → ReadsCommand (Err e) left rest → Leaves t middle new (reading_end e) → IsServed t old new input held out (reading_end e)
read_ends t old middle new input left rest held out or.Memory small serving read leaves = ends_some t old middle new input left held out end.Memory serving leaves refl
read_ends t old middle new input left rest held out (or.Other why.EndOfInput) small serving read leaves =
    ends_all t old middle new input left held out end.EndOfInput ending.Input small serving leaves refl (ends_read left rest why.EndOfInput (λ h. absurd cc) read)
read_ends t old middle new input left rest held out (or.Other (why.Cut n)) small serving read leaves =
    ends_all t old middle new input left held out (end.Cut n) (ending.Cut n) small serving leaves refl (ends_read left rest (why.Cut n) (λ h. absurd cc) read)
read_ends t old middle new input left rest held out (or.Other (why.TooLong n)) small serving read leaves =
    ends_all t old middle new input left held out (end.TooLong n) (ending.TooLong n) small serving leaves refl (ends_read left rest (why.TooLong n) (λ h. absurd cc) read)
read_ends t old middle new input left rest held out (or.Other (why.BadSequence found wanted)) small serving read leaves =
    ends_all t old middle new input left held out (end.BadSequence found wanted) (ending.BadSequence found wanted) small serving leaves refl (ends_read left rest (why.BadSequence found wanted) (λ h. absurd cc) read)
read_ends t old middle new input left rest held out (or.Other why.Failed) small serving read leaves = ends_some t old middle new input left held out end.ReadFault serving leaves refl

-- the command was COM_QUIT
quit_ends : (t : Turn ServerState Event) (old middle new : Session) (input left rest : Option (List ℕ)) (held between out : Option (List Piece)) (c : Command) → old.place ≤ length (seen_by old) → IsServing t old middle input left held between
    → ReadsCommand (Ok c) left rest → c ≡ command.Quit → Leaves t middle new end.Quit → out ≡ between → IsServed t old new input held out end.Quit
quit_ends t old middle new input left rest held between out c small serving read is leaves same =
    subst (λ (o : Option (List Piece)). IsServed t old new input held o end.Quit) (sym same)
    (ends_all t old middle new input left held between end.Quit ending.Quit small serving leaves refl (quits_read left rest (subst (λ (x : Command). ReadsCommand (Ok x) left rest) is read)))

no_ending : (before now : ℕ) (e : End) → MayFail before now e → ending_at e ≡ None
no_ending before now end.WriteFault h = refl
no_ending before now end.Memory h = refl
no_ending before now end.ReadFault h = absurd h
no_ending before now end.Quit h = absurd h
no_ending before now end.EndOfInput h = absurd h
no_ending before now (end.Cut n) h = absurd h
no_ending before now (end.TooLong n) h = absurd h
no_ending before now (end.BadSequence found wanted) h = absurd h

is_next : (left rest : Option (List ℕ)) (c : Command) → TakesOf left (c ∷ []) rest → IfSome left (λ bytes. (r : List ℕ) × Takes bytes (c ∷ []) r)
is_next None rest c takes = tt
is_next (Some left) None c takes = absurd takes
is_next (Some left) (Some rest) c takes = (rest, takes)

-- the session ended at the command
command_ends : (t : Turn ServerState Event) (old middle new : Session) (input left rest : Option (List ℕ)) (held between out : Option (List Piece)) (c : Command) (e : End) (before now : ℕ) → IsServing t old middle input left held between
    → ReadsCommand (Ok c) left rest → (c ≡ command.Quit → ⊥) → HasEnded t c middle new between out e × MayFail before now e → IsServed t old new input held out e
command_ends t old middle new input left rest held between out c e before now serving read ne has = record {
  end = has.0.end;
  left = left_as t old middle new input left held between serving has.0.left;
  standing = has.0.breaks.standing ∙ kept_while t old middle input left held between serving;
  served = subst (λ (o : Option Ending). MatchOption o (ServesSome t old new input held out e) (ServesAll old new input held out)) (sym (no_ending before now e has.1))
      (record { middle = middle; left = left; between = between; serving = serving; ended = inr (c, is_next left rest c (takes_read left rest c ne read), has.0) });
}

-- ---- what the loop of a session tells

-- the session has ended with a reason of which this is so
with_end : (o : Option End) (e : End) (IsSo : End → Type 0) → o ≡ Some e → IsSo e → IfSome o IsSo × IsSome o
with_end o e IsSo is so = subst (λ (x : Option End). IfSome x IsSo × IsSome x) (sym is) (so, refl)

-- no command could be read, and the session has left
pub ended_reading : (t : Turn ServerState Event) (old middle new : Session) (input left rest : Option (List ℕ)) (held out : Option (List Piece)) (e : Or CommandEnd) → old.place ≤ length (seen_by old) → IsServing t old middle input left held out
    → ReadsCommand (Err e) left rest → Leaves t middle new (reading_end e) → IfSome new.end (IsServed t old new input held out) × IsSome new.end
ended_reading t old middle new input left rest held out e small serving read leaves =
    with_end new.end (reading_end e) (IsServed t old new input held out) (ap (λ (s : Session). s.end) leaves.same) (read_ends t old middle new input left rest held out e small serving read leaves)

-- the command was COM_QUIT, or any other
is_quit : (c : Command) → (c ≡ command.Quit) ⊎ (c ≢ command.Quit)
is_quit command.Quit = inl refl
is_quit (command.InitDb name) = inr (λ h. absurd cc)
is_quit (command.Query text) = inr (λ h. absurd cc)
is_quit command.Ping = inr (λ h. absurd cc)
is_quit (command.Unknown byte) = inr (λ h. absurd cc)
is_quit command.Empty = inr (λ h. absurd cc)

-- what `execute` tells
pub record IsExecuted (t : Turn ServerState Event) (c : Command) (middle new : Session) (between out : Option (List Piece)) (before now : ℕ) (r : Executed) : Type 0 where
  pub executes : c ≢ command.Quit → Executes t c middle new between out before now r
  pub quits : c ≡ command.Quit → Quits t middle new between out r

ended_by : (t : Turn ServerState Event) (old middle new : Session) (input left rest : Option (List ℕ)) (held between out : Option (List Piece)) (c : Command) (before now : ℕ) (r : Executed) (e : End) → old.place ≤ length (seen_by old) → IsServing t old middle input left held between
    → ReadsCommand (Ok c) left rest → IsExecuted t c middle new between out before now r → r ≡ executed.Ended e → (c ≡ command.Quit) ⊎ (c ≢ command.Quit) → IfSome new.end (IsServed t old new input held out) × IsSome new.end
ended_by t old middle new input left rest held between out c before now r e small serving read done is (inl quit) =
    let quits = done.quits quit in
    let leaves = quits.1 in
    with_end new.end end.Quit (IsServed t old new input held out) (ap (λ (s : Session). s.end) leaves.same) (quit_ends t old middle new input left rest held between out c small serving read quit leaves quits.2)
ended_by t old middle new input left rest held between out c before now r e small serving read done is (inr other) =
    let has : HasEnded t c middle new between out e × MayFail before now e = subst (Executes t c middle new between out before now) is (done.executes other) in
    with_end new.end e (IsServed t old new input held out) has.0.end (command_ends t old middle new input left rest held between out c e before now serving read other has)

-- the session ended at the command
pub ended_here : (t : Turn ServerState Event) (old middle new : Session) (input left rest : Option (List ℕ)) (held between out : Option (List Piece)) (c : Command) (before now : ℕ) (r : Executed) (e : End) → old.place ≤ length (seen_by old) → IsServing t old middle input left held between
    → ReadsCommand (Ok c) left rest → IsExecuted t c middle new between out before now r → r ≡ executed.Ended e → IfSome new.end (IsServed t old new input held out) × IsSome new.end
ended_here t old middle new input left rest held between out c before now r e small serving read done is =
    ended_by t old middle new input left rest held between out c before now r e small serving read done is (is_quit c)

goes_on_by : (t : Turn ServerState Event) (old middle new : Session) (input left rest : Option (List ℕ)) (held between out : Option (List Piece)) (c : Command) (before now : ℕ) (r : Executed) → old.place ≤ length (seen_by old) → IsServing t old middle input left held between
    → ReadsCommand (Ok c) left rest → IsExecuted t c middle new between out before now r → r ≡ executed.Replied → (c ≡ command.Quit) ⊎ (c ≢ command.Quit) → IsServing t old new input rest held out
goes_on_by t old middle new input left rest held between out c before now r small serving read done is (inl quit) = let quits = done.quits quit in let not : executed.Replied ≡ executed.Ended end.Quit = sym is ∙ quits.0 in absurd cc
goes_on_by t old middle new input left rest held between out c before now r small serving read done is (inr other) =
    serving_goes_on t old middle new input left rest held between out c small serving read other (subst (Executes t c middle new between out before now) is (done.executes other))

-- it was answered
pub goes_on_here : (t : Turn ServerState Event) (old middle new : Session) (input left rest : Option (List ℕ)) (held between out : Option (List Piece)) (c : Command) (before now : ℕ) (r : Executed) → old.place ≤ length (seen_by old) → IsServing t old middle input left held between
    → ReadsCommand (Ok c) left rest → IsExecuted t c middle new between out before now r → r ≡ executed.Replied → IsServing t old new input rest held out
goes_on_here t old middle new input left rest held between out c before now r small serving read done is =
    goes_on_by t old middle new input left rest held between out c before now r small serving read done is (is_quit c)
