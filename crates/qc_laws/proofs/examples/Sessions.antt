-- What a session has done: the lines of commands with and without an event, how runs begin and go on, and how an input is cut.
use Rattle.qc_sql.specs.Errors.{not_supported}
use Rattle.std.proofs.Common.{◌≡◌, ℕ, List, [], ◌∷◌, refl, true, false, arith, ap}
use Rattle.std.specs.Prelude.{codes, Some, None, pos}
use Rattle.qc_types.specs.declared.options.Options.{Options}
use Rattle.qc_sql.specs.declared.commands.Command.TheVariants as command
use Rattle.qc_sql.specs.declared.replies.Reply.TheVariants as reply
use Rattle.qc_sql.specs.declared.tables.RowOp.TheVariants as op
use Rattle.qc_model.specs.declared.events.Who.{Who}
use Rattle.qc_model.specs.declared.events.Event.{Event}
use Rattle.qc_model.specs.declared.events.Event.TheVariants as event
use Rattle.qc_model.specs.declared.events.How.TheVariants as how
use Rattle.qc_model.specs.declared.events.GoneWhy.TheVariants as gone
use Rattle.qc_types.specs.declared.names.TableName.{TableName}
use Rattle.qc_model.specs.declared.reports.Word.TheVariants as word
use Rattle.qc_model.specs.declared.reports.Ending.TheVariants as ending
use Rattle.qc_model.specs.declared.reports.ReportLine.{ReportLine}
use Rattle.qc_model.specs.declared.reports.SessionReport.{SessionReport}
use Rattle.qc_sql.specs.Packets.{packet, encoded_integer}
use Rattle.qc_model.specs.Journal.{Journal}
use Rattle.qc_model.specs.Session.{State, starting}
use Rattle.qc_model.specs.Agrees.{commands_of, line, whole_machine, inputs_of, setup_first, is_of, fill_ends, machine_taking}
use Rattle.qc_laws.specs.runs.Runs.{StartsWith, own, Position, stand, HasItsEvent, HasNoEvent, Answers, Runs, logged_of, IsServed, AreServed, numbers, report_of, HasEnded, HaveEnded, IsOne, IsClosed}
use Rattle.qc_sql.specs.Words.{is_among}
use Rattle.qc_laws.specs.runs.Cuts.{Takes}

abbrev who : ℕ → ℕ → Who
who session n = record { session = session; number = n }

-- Session 2 makes a database, session 1 chooses it, an entry of none ends, and session 2 flushes.
abbrev story : Journal
story = event.Commit (who 2 1) (op.CreateDb (codes "d") ∷ []) ∷ event.Run (who 1 1) how.Other ∷ event.Done 7 ∷ event.Flush (who 2 2) ∷ []

-- ---- events of a session, with their numbers

of_second : own 2 story ≡ (1, event.Commit (who 2 1) (op.CreateDb (codes "d") ∷ [])) ∷ (4, event.Flush (who 2 2)) ∷ []
of_second = refl

of_first : own 1 story ≡ (2, event.Run (who 1 1) how.Other) ∷ []
of_first = refl

of_third : own 3 story ≡ []
of_third = refl

begins_with_two : StartsWith story (event.Commit (who 2 1) (op.CreateDb (codes "d") ∷ []) ∷ event.Run (who 1 1) how.Other ∷ [])
begins_with_two = (event.Done 7 ∷ event.Flush (who 2 2) ∷ [], refl)

begins_with_none : StartsWith story []
begins_with_none = (story, refl)

begins_with_another : StartsWith story (event.Done 7 ∷ []) → ⊥
begins_with_another h = absurd (cc h.1)

-- ---- one command

abbrev options : Options
options = record { size = 0; limit = 0; unit = 512; kind = 1 }

abbrev in_d : State
in_d = record { session = 1; db = codes "d"; autocommit = true; charset = 33; ansi = false; row_limit = 18446744073709551615; kind = 1; transaction = None }

-- where session 1 stands before it chose the database, and behind that
abbrev at_first : Position
at_first = stand (event.Commit (who 2 1) (op.CreateDb (codes "d") ∷ []) ∷ []) (starting 1 1) 0

abbrev then : Position
then = stand story in_d 2

-- OK, with no rows affected and autocommit on, as the packet 1
abbrev init_line : ReportLine
init_line = record { place = 2; how = word.Other; reply = 7 ∷ 0 ∷ 0 ∷ 1 ∷ 0 ∷ 0 ∷ 0 ∷ 2 ∷ 0 ∷ 0 ∷ 0 ∷ [] }

line_is : line 2 word.Other (reply.Ok 0 2) ≡ init_line
unfolding packet encoded_integer
line_is = refl

init_has_its_event : HasItsEvent whole_machine options 1 at_first (command.InitDb (codes "d")) init_line then
unfolding packet encoded_integer
init_has_its_event = (event.Run (who 1 1) how.Other, reply.Ok 0 2, refl, (refl, refl, refl), refl, tt, refl)

init_is_answered : Answers whole_machine options 1 at_first (command.InitDb (codes "d")) init_line then
init_is_answered = record { begins = (event.Run (who 1 1) how.Other ∷ event.Done 7 ∷ event.Flush (who 2 2) ∷ [], refl); place = refl; does = init_has_its_event }

-- the event at the line's place is another session's
no_event_at_four : HasItsEvent whole_machine options 1 at_first (command.InitDb (codes "d")) (record { place = 4; how = word.Other; reply = [] }) then → ⊥
no_event_at_four h = absurd (omega (arith, ap first_number h.2))
  where
    first_number : List (ℕ × Event) → ℕ
    first_number [] = 0
    first_number (x ∷ xs) = x.0

-- a ping has no event, so its place is that of the line before
abbrev ping_line : ReportLine
ping_line = record { place = 2; how = word.Local; reply = 7 ∷ 0 ∷ 0 ∷ 1 ∷ 0 ∷ 0 ∷ 0 ∷ 2 ∷ 0 ∷ 0 ∷ 0 ∷ [] }

ping_has_none : HasNoEvent 1 then ping_line then (reply.Ok 0 2, in_d)
unfolding packet encoded_integer
ping_has_none = (refl, refl, refl)

ping_is_answered : Answers whole_machine options 1 then command.Ping ping_line then
ping_is_answered = record { begins = ([], refl); place = refl; does = ping_has_none }

-- an unknown command is answered by its error, at the place 0 where no event came before
abbrev unknown_line : ReportLine
unknown_line = record { place = 0; how = word.Local; reply = 24 ∷ 0 ∷ 0 ∷ 1 ∷ 255 ∷ 23 ∷ 4 ∷ codes "#08S01Unknown command" }

unknown_is_answered : Answers whole_machine options 1 at_first (command.Unknown 29) unknown_line at_first
unfolding packet
unknown_is_answered = record { begins = ([], refl); place = refl; does = (refl, refl, refl) }

-- ---- runs

-- the two commands, one behind the other
both_run : Runs whole_machine options 1 at_first (command.InitDb (codes "d") ∷ command.Ping ∷ []) (init_line ∷ ping_line ∷ []) then
unfolding packet encoded_integer
both_run = record {
  begins = (event.Run (who 1 1) how.Other ∷ event.Done 7 ∷ event.Flush (who 2 2) ∷ [], refl);
  reaches = λ h. omega arith;
  events = (2, event.Run (who 1 1) how.Other) ∷ [];
  grows = refl;
  lines = (reply.Ok 0 2, in_d, (refl, refl, refl), refl, tt, (refl, (refl, refl, refl, refl)));
  fills_end = refl;
}

-- no command, and no event of the session since
none_runs : Runs whole_machine options 1 at_first [] [] (stand (event.Commit (who 2 1) (op.CreateDb (codes "d") ∷ []) ∷ event.Flush (who 2 2) ∷ []) (starting 1 1) 0)
none_runs = record { begins = (event.Flush (who 2 2) ∷ [], refl); reaches = λ h. omega arith; events = []; grows = refl; lines = (refl, refl, refl, refl); fills_end = refl }

-- a command without a line
no_line : Runs whole_machine options 1 at_first (command.Ping ∷ []) [] at_first → ⊥
no_line r = r.lines

-- ---- sessions of a report

logged : logged_of ping_line ≡ (2, word.Local)
logged = refl

abbrev report : ℕ → SessionReport
report n = record { session = n; lines = []; ending = ending.Input }

in_order : numbers (report 0 ∷ report 1 ∷ report 2 ∷ []) ≡ 0 ∷ 1 ∷ 2 ∷ []
in_order = refl

second_is_among : is_among (0 ∷ 1 ∷ 2 ∷ []) 2 ≡ true
second_is_among = refl

third_is_not : is_among (0 ∷ 1 ∷ 2 ∷ []) 3 ≡ false
third_is_not = refl

none_is_among : is_among [] 0 ≡ false
none_is_among = refl

empty_report : report_of options [] [] ≡ record { options = options; sessions = []; journal = []; counters = record { com_select = 0; hits = 0; inserts = 0; not_cached = 0; lowmem_prunes = 0; queries_in_cache = 0 } }
empty_report = refl

-- ---- inputs

without_setup : inputs_of (record { setup = None; sessions = codes "a" ∷ codes "b" ∷ [] }) ≡ (1, codes "a") ∷ (2, codes "b") ∷ []
without_setup = refl

with_setup : inputs_of (record { setup = Some (codes "s"); sessions = codes "a" ∷ [] }) ≡ (0, codes "s") ∷ (1, codes "a") ∷ []
with_setup = refl

no_sessions : inputs_of (record { setup = None; sessions = [] }) ≡ []
no_sessions = refl

-- a ping, a quit, and a byte that is never read
abbrev input : List ℕ
input = 1 ∷ 0 ∷ 0 ∷ 0 ∷ 14 ∷ 1 ∷ 0 ∷ 0 ∷ 0 ∷ 1 ∷ 9 ∷ []

cut_at_quit : commands_of input ≡ (command.Ping ∷ [], ending.Quit)
cut_at_quit = refl

-- the ping was taken, and what is left begins with the quit
one_taken : Takes input (command.Ping ∷ []) (1 ∷ 0 ∷ 0 ∷ 0 ∷ 1 ∷ 9 ∷ [])
one_taken = refl

none_taken : Takes input [] input
none_taken = refl

-- where nothing is left, the input would end otherwise
all_taken : Takes input (command.Ping ∷ []) [] → ⊥
all_taken h = absurd (cc (ap (λ x. x.1) h))

-- an empty command, and a packet of which two bytes lack
cut_short : commands_of (0 ∷ 0 ∷ 0 ∷ 0 ∷ 4 ∷ 0 ∷ 0 ∷ 0 ∷ 3 ∷ 65 ∷ []) ≡ (command.Empty ∷ [], ending.Cut 6)
cut_short = refl

-- ---- the order of a journal's sessions

setup_stands_first : setup_first false (event.Flush (who 0 1) ∷ event.Done 1 ∷ event.Flush (who 0 2) ∷ event.Flush (who 3 1) ∷ event.Done 2 ∷ []) ≡ true
setup_stands_first = refl

setup_goes_on : setup_first false (event.Flush (who 0 1) ∷ event.Flush (who 1 1) ∷ event.Done 1 ∷ event.Flush (who 0 2) ∷ []) ≡ false
setup_goes_on = refl

without_events : setup_first false [] ≡ true
without_events = refl

another_sessions : is_of (0 ∷ 1 ∷ []) (event.Flush (who 2 1)) ≡ false
another_sessions = refl

nobodys : is_of [] (event.Done 1) ≡ true
nobodys = refl

-- ---- sessions that have ended

-- a session without input has no lines, and no events
served : IsServed whole_machine options [] [] (report 1)
served = record { session = record { lines = refl; ending = refl }; fills_end = refl }

-- its input ends, and isn't quit
not_quit : IsServed whole_machine options [] [] (record { session = 1; lines = []; ending = ending.Quit }) → ⊥
not_quit h = absurd (cc h.session.ending)

-- nor has it an event
with_an_event : IsServed whole_machine options (event.Flush (who 1 1) ∷ []) [] (report 1) → ⊥
with_an_event h = absurd (cc h.session.lines)

one_is_served : AreServed whole_machine options [] ((1, []) ∷ []) (report 1 ∷ [])
one_is_served = (refl, served, tt)

-- a session lacks, and there is another than was asked for
one_lacks : AreServed whole_machine options [] ((1, []) ∷ []) [] → ⊥
one_lacks h = h

another_number : AreServed whole_machine options [] ((1, []) ∷ []) (report 2 ∷ []) → ⊥
another_number h = absurd (cc h.0)

ended_at_once : HasEnded whole_machine options [] [] [] (report 1)
ended_at_once = record {
  from = [];
  to = stand [] (starting 1 1) 0;
  begins = λ h. ([], refl);
  none = refl;
  runs = record { begins = ([], refl); reaches = λ h. omega arith; events = []; grows = refl; lines = (refl, refl, refl, refl); fills_end = refl };
  ending = refl;
  seen = ([], refl);
  all = refl;
}

-- session 1 had seen what session 0 did
all_ended : HaveEnded whole_machine options [] [] ((1, []) ∷ []) (report 1 ∷ [])
all_ended = (refl, ended_at_once, tt)

none_ended : HaveEnded whole_machine options [] [] [] []
none_ended = tt

one_too_many : HaveEnded whole_machine options [] [] [] (report 1 ∷ []) → ⊥
one_too_many h = h

-- ---- the one journal at the end

nothing_done : IsOne options [] []
nothing_done = record { lawful = tt; needs = tt; no_other = λ n h. refl; first = []; begins = ([], refl); setup = refl; before = λ n h. refl }

-- an event of a session that isn't among those that were served
not_served : IsOne options (event.Flush (who 1 1) ∷ []) [] → ⊥
not_served h = absurd (cc (h.no_other 1 refl))

-- session 0 flushed a second time, which wasn't before the others began
setup_later : IsClosed options (event.Flush (who 0 1) ∷ []) (event.Flush (who 0 1) ∷ event.Flush (who 0 2) ∷ []) (0 ∷ []) → ⊥
setup_later h = absurd (cc h.setup)

closed_at_once : IsClosed options [] [] []
closed_at_once = record { lawful = tt; needs = tt; no_other = λ n h. refl; begins = ([], refl); setup = refl }

-- ---- fills that end

abbrev table : List ℕ → TableName
table name = record { db = codes "d"; name = name }

abbrev start : Event
start = event.Run (who 1 1) (how.Start 1 [] (table (codes "t") ∷ []))

by_done : fill_ends (start ∷ event.Done 1 ∷ []) start ≡ true
by_done = refl

-- given up since it was too large
by_gone : fill_ends (start ∷ event.Gone 1 (gone.TooLarge 9 8) ∷ []) start ≡ true
by_gone = refl

-- a session that ended leaves it open
by_its_end : fill_ends (start ∷ event.Gone 1 gone.Ended ∷ []) start ≡ false
by_its_end = refl

-- a commit on its table removes it, and one on another table doesn't
by_commit : fill_ends (start ∷ event.Commit (who 2 1) (op.Del (table (codes "t")) (pos 1) ∷ []) ∷ []) start ≡ true
by_commit = refl

by_another_commit : fill_ends (start ∷ event.Commit (who 2 1) (op.Del (table (codes "u")) (pos 1) ∷ []) ∷ []) start ≡ false
by_another_commit = refl

by_reset : fill_ends (start ∷ event.Reset (who 2 1) ∷ []) start ≡ true
by_reset = refl

not_at_all : fill_ends (start ∷ []) start ≡ false
not_at_all = refl

no_fill : fill_ends [] (event.Flush (who 1 1)) ≡ true
no_fill = refl

-- ---- machines that take some commands

not_taken : (machine_taking (λ s j c. false)).without_event in_d [] command.Ping ≡ Some (reply.Err (not_supported (codes "form")), in_d)
not_taken = refl

is_taken : (machine_taking (λ s j c. true)).without_event in_d [] command.Ping ≡ Some (reply.Ok 0 2, in_d)
is_taken = refl

-- a command that is taken and has an event gives nothing without it
taken_with_event : (machine_taking (λ s j c. true)).without_event in_d [] (command.InitDb (codes "d")) ≡ None
taken_with_event = refl
