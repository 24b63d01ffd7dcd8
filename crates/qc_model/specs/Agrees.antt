-- When a report is one of a script's run.
use Rattle.std.specs.Prelude.{codes, ◌≡◌, ℕ, zero, suc, ◌+◌, Bool, true, false, not, ◌&&◌, ◌||◌, List, [], ◌∷◌, ◌++◌, length, map, take, Option, Some, None, unwrap_or, IsTrue, ◌==◌, if◌then◌else◌, option_map, MatchOption}
use Rattle.std.specs.List.{list_any, list_all}
use Rattle.qc_sql.specs.declared.commands.Command.{Command}
use Rattle.qc_sql.specs.declared.commands.Command.TheVariants as command
use Rattle.qc_sql.specs.declared.commands.CommandEnd.{CommandEnd}
use Rattle.qc_sql.specs.declared.commands.CommandEnd.TheVariants as end
use Rattle.qc_sql.specs.declared.replies.Reply.{Reply}
use Rattle.qc_types.specs.declared.options.Options.{Options}
use Rattle.qc_model.specs.declared.events.Event.{Event}
use Rattle.qc_model.specs.declared.events.Event.TheVariants as event
use Rattle.qc_model.specs.declared.events.How.{How}
use Rattle.qc_model.specs.declared.events.How.TheVariants as how
use Rattle.qc_model.specs.declared.events.GoneWhy.TheVariants as gone
use Rattle.qc_model.specs.declared.events.Who.{Who}
use Rattle.qc_model.specs.declared.reports.Script.{Script}
use Rattle.qc_model.specs.declared.reports.Report.{Report}
use Rattle.qc_model.specs.declared.reports.ReportLine.{ReportLine}
use Rattle.qc_model.specs.declared.reports.SessionReport.{SessionReport}
use Rattle.qc_model.specs.declared.reports.Word.{Word}
use Rattle.qc_model.specs.declared.reports.Word.TheVariants as word
use Rattle.qc_model.specs.declared.reports.Ending.{Ending}
use Rattle.qc_model.specs.declared.reports.Ending.TheVariants as ending
use Rattle.qc_sql.specs.Packets.{packets}
use Rattle.qc_sql.specs.Commands.{command_of, command_end, payload_at, behind_packet}
use Rattle.qc_model.specs.Journal.{Journal, before, decider, is_by}
use Rattle.qc_model.specs.Cache.{cache, counters, entry_of, uses_touched}
use Rattle.qc_model.specs.Session.{State, starting, key_of_text}
use Rattle.qc_model.specs.Machine.{Executes, Local, local, refused}
use Rattle.qc_sql.specs.Errors.{not_supported}
use Rattle.qc_model.specs.Licence.{IsLawful}
use Rattle.qc_model.specs.Needs.{HasNeeds, HasOwnNeeds}

-- ---- the commands of an input

-- the commands of an input, and how it ends
abbrev pub Commands : Type 0
Commands = List Command × Ending

abbrev pub then_commands : Command → Commands → Commands
then_commands command.Quit later = ([], ending.Quit)
then_commands c later = (c ∷ later.0, later.1)

-- bytes in memory have no fault
abbrev pub ending_of : CommandEnd → Ending
ending_of end.EndOfInput = ending.Input
ending_of (end.Cut n) = ending.Cut n
ending_of (end.TooLong n) = ending.TooLong n
ending_of (end.BadSequence found wanted) = ending.BadSequence found wanted
ending_of end.Failed = ending.Input

abbrev pub unless_ended : Option CommandEnd → Commands → Commands
unless_ended None later = later
unless_ended (Some e) later = ([], ending_of e)

-- Quit is left out, and ends the input. At most n packets are cut
abbrev pub cut_commands : ℕ → List ℕ → Commands
cut_commands zero bytes = ([], ending.Input)
cut_commands (suc n) bytes = unless_ended (command_end bytes) (then_commands (command_of (payload_at bytes)) (cut_commands n (behind_packet bytes)))

-- each packet has four bytes or more, so the length is enough
abbrev pub commands_of : List ℕ → Commands
commands_of bytes = cut_commands (length bytes) bytes

-- ---- the lines of a session

-- a session's events, each with its number in the journal
abbrev pub numbered_events : ℕ → ℕ → Journal → List (ℕ × Event)
numbered_events session n [] = []
numbered_events session n (e ∷ es) = if is_by session e then (n, e) ∷ numbered_events session (n + 1) es else numbered_events session (n + 1) es

abbrev pub word_of_how : How → Word
word_of_how (how.Hit n) = word.Hit
word_of_how (how.Start n key tables) = word.Start
word_of_how (how.Plain why) = word.Plain
word_of_how _ = word.Other

abbrev pub word_of : Event → Word
word_of (event.Run who h) = word_of_how h
word_of _ = word.Other

abbrev pub line : ℕ → Word → Reply → ReportLine
line place w r = record { place = place; how = w; reply = packets r }

abbrev pub who_of : ℕ → ℕ → Who
who_of session number = record { session = session; number = number }

-- the key of a command's text in the state that it meets
abbrev pub key_of_command : State → Command → List ℕ
key_of_command state (command.Query text) = key_of_text state text
key_of_command state _ = []

-- what commands may do: those with a deciding event, and those without one, which may depend on the events so far where not every command is taken yet
pub record Machine : Type 1 where
  pub executes : Options → Who → State → Command → Journal → Event → Reply → State → Type 0
  pub without_event : State → Journal → Command → Local

-- all commands are taken
abbrev pub whole_machine : Machine
whole_machine = record { executes = Executes; without_event = λ state journal c. local state c }

-- a machine that takes some commands, and refuses the form of all others
abbrev pub machine_taking : (State → Journal → Command → Bool) → Machine
machine_taking takes = record {
  executes = Executes;
  without_event = λ state journal c. if takes state journal c then local state c else Some (refused (not_supported (codes "form")), state);
}

-- what the rest of a session has to be, from a state, a place, a count of events and the events that are left
abbrev pub Rest : Type 1
Rest = State → ℕ → ℕ → List (ℕ × Event) → Type 0

-- a command that takes the session's next event
abbrev pub TakesNext : Machine → Options → Journal → State → ℕ → Command → ReportLine → List (ℕ × Event) → Rest → Type 0
TakesNext m options journal state count c l [] rest = ⊥
TakesNext m options journal state count c l (x ∷ xs) rest =
    (r : Reply) × (next : State)
    × m.executes options (who_of state.session (count + 1)) state c (before x.0 journal) x.1 r next
    × (l ≡ line x.0 (word_of x.1) r)
    × HasOwnNeeds options (before x.0 journal) (key_of_command state c) x.1
    × rest next x.0 (count + 1) xs

-- The lines are those of the commands, and then this holds: one without deciding event has the place of the one before, and each other takes the session's next event.
abbrev pub LinesThen : Machine → Options → Journal → Rest → List Command → List ReportLine → Rest
LinesThen m options journal done [] [] state place count events = done state place count events
LinesThen m options journal done [] (l ∷ ls) state place count events = ⊥
LinesThen m options journal done (c ∷ cs) [] state place count events = ⊥
LinesThen m options journal done (c ∷ cs) (l ∷ ls) state place count events =
    MatchOption (m.without_event state (take place journal) c)
    (TakesNext m options journal state count c l events (LinesThen m options journal done cs ls))
    (λ given. (l ≡ line place word.Local given.0) × LinesThen m options journal done cs ls given.1 place count events)

abbrev pub none_left : Rest
none_left state place count events = events ≡ []

abbrev pub AreLines : Machine → Options → Journal → List Command → List ReportLine → Rest
AreLines m options journal = LinesThen m options journal none_left

pub record IsSessionOf (m : Machine) (options : Options) (journal : Journal) (input : List ℕ) (s : SessionReport) : Type 0 where
  pub lines : AreLines m options journal (commands_of input).0 s.lines (starting s.session options.kind) 0 0 (numbered_events s.session 1 journal)
  pub ending : s.ending ≡ (commands_of input).1

-- ---- sessions of a script

-- a session's number, and its input
abbrev pub inputs_from : ℕ → List (List ℕ) → List (ℕ × List ℕ)
inputs_from n [] = []
inputs_from n (bytes ∷ others) = (n, bytes) ∷ inputs_from (n + 1) others

abbrev pub inputs_of : Script → List (ℕ × List ℕ)
inputs_of script = with_setup script.setup
  where
    with_setup : Option (List ℕ) → List (ℕ × List ℕ)
    with_setup None = inputs_from 1 script.sessions
    with_setup (Some bytes) = (0, bytes) ∷ inputs_from 1 script.sessions

abbrev pub AreSessions : Machine → Options → Journal → List (ℕ × List ℕ) → List SessionReport → Type 0
AreSessions m options journal [] [] = Unit {0}
AreSessions m options journal (i ∷ is) (s ∷ ss) = (s.session ≡ i.0) × IsSessionOf m options journal i.1 s × AreSessions m options journal is ss
AreSessions m options journal [] (s ∷ ss) = ⊥
AreSessions m options journal (i ∷ is) [] = ⊥

abbrev pub session_of : Event → Option ℕ
session_of e = option_map (λ who. who.session) (decider e)

-- after an event of another session none of session 0 comes; here and behind say it of the rest
abbrev pub none_after : Bool → Option ℕ → Bool → Bool → Bool
none_after begun None here behind = here
none_after begun (Some n) here behind = if n == 0 then not begun && here else behind

abbrev pub setup_first : Bool → Journal → Bool
setup_first begun [] = true
setup_first begun (e ∷ es) = none_after begun (session_of e) (setup_first begun es) (setup_first true es)

abbrev pub is_of : List ℕ → Event → Bool
is_of numbers e = unwrap_or (option_map (λ n. list_any (λ m. m == n) numbers) (session_of e)) true

-- ---- fills that end

abbrev pub ends_fill : ℕ → Event → Bool
ends_fill serial (event.Done n) = n == serial
ends_fill serial (event.Gone n gone.Ended) = false
ends_fill serial (event.Gone n why) = n == serial
ends_fill serial _ = false

-- an event that removes an entry which isn't complete
abbrev pub removes : Journal → ℕ → Event → Bool
removes earlier serial (event.Commit who ops) = unwrap_or (option_map (λ entry. not entry.complete && uses_touched (event.Commit who ops) entry) (entry_of serial (cache earlier))) false
removes earlier serial (event.Reset who) = unwrap_or (option_map (λ entry. not entry.complete) (entry_of serial (cache earlier))) false
removes earlier serial _ = false

abbrev pub is_ended : ℕ → Journal → Journal → Bool
is_ended serial earlier [] = false
is_ended serial earlier (e ∷ es) = ends_fill serial e || removes earlier serial e || is_ended serial (earlier ++ e ∷ []) es

-- whether the fill that an event starts is ended in the journal
abbrev pub fill_ends : Journal → Event → Bool
fill_ends journal (event.Run who (how.Start serial key tables)) = is_ended serial [] journal
fill_ends journal e = true

-- ---- the whole

pub record Agrees (m : Machine) (script : Script) (options : Options) (report : Report) : Type 0 where
  pub same_options : report.options ≡ options
  pub sessions : AreSessions m options report.journal (inputs_of script) report.sessions
  pub lawful : IsLawful options report.journal
  pub no_other : IsTrue (list_all (is_of (map (λ s. s.session) report.sessions)) report.journal)
  pub setup_before : setup_first false report.journal ≡ true
  pub same_counters : report.counters ≡ counters report.journal
  pub fills_end : IsTrue (list_all (fill_ends report.journal) report.journal)
  pub needs : HasNeeds options report.journal
