-- Laws of runs.
use Rattle.std.specs.Prelude.{◌≡◌, Bool, ℕ, ◌≤◌, ◌<◌, true, List, [], ◌∷◌, ◌++◌, length}
use Rattle.qc_sql.specs.declared.commands.Command.{Command}
use Rattle.qc_types.specs.declared.options.Options.{Options}
use Rattle.qc_model.specs.declared.reports.ReportLine.{ReportLine}
use Rattle.qc_model.specs.Session.{State}
use Rattle.qc_model.specs.Journal.{Journal, events_of}
use Rattle.qc_model.specs.Agrees.{Machine, machine_taking, whole_machine, AreLines, numbered_events, fill_ends, inputs_of, Agrees}
use Rattle.qc_model.specs.declared.reports.Script.{Script}
use Rattle.qc_model.specs.declared.reports.SessionReport.{SessionReport}
use Rattle.std.specs.List.{list_all}
use Rattle.qc_laws.specs.runs.Runs.{StartsWith, Position, stand, own, Runs, Answers, AreServed, IsOne, numbers, report_of, HaveEnded, IsClosed, HasItsEvent}

-- of the machine of all commands, and of each that takes some of them
abbrev pub OfEach : (Machine → Type 0) → Type 0
OfEach P = P whole_machine × ((takes : State → Journal → Command → Bool) → P (machine_taking takes))

-- a further run goes on with a run
abbrev pub RunsCompose : Machine → Type 0
RunsCompose m = (options : Options) (session : ℕ) (a b c : Position) (cs ds : List Command) (ls ks : List ReportLine)
    → a.place ≤ length a.seen → Runs m options session a cs ls b → Runs m options session b ds ks c → Runs m options session a (cs ++ ds) (ls ++ ks) c

-- a command that was answered is a run
abbrev pub AnswersRuns : Machine → Type 0
AnswersRuns m = (options : Options) (session : ℕ) (a b : Position) (c : Command) (l : ReportLine)
    → a.place ≤ length a.seen → Answers m options session a c l b → Runs m options session a (c ∷ []) (l ∷ []) b

-- a journal that goes on without events of the session
abbrev pub QuietRuns : Machine → Type 0
QuietRuns m = (options : Options) (session : ℕ) (a : Position) (more : Journal) → events_of session more ≡ []
    → Runs m options session a [] [] (stand (a.seen ++ more) a.state a.place)

-- At the end, a session's lines are those of the whole journal.
abbrev pub RunsEnd : Machine → Type 0
RunsEnd m = (options : Options) (session : ℕ) (from to : Position) (cs : List Command) (ls : List ReportLine) (more : Journal)
    → from.place ≡ 0 → own session from.seen ≡ [] → events_of session (to.seen ++ more) ≡ events_of session to.seen → Runs m options session from cs ls to
    → AreLines m options (to.seen ++ more) cs ls from.state 0 0 (numbered_events session 1 (to.seen ++ more))
    × (list_all (fill_ends (to.seen ++ more)) (events_of session (to.seen ++ more)) ≡ true)

-- the whole
abbrev pub OneAgrees : Machine → Type 0
OneAgrees m = (script : Script) (options : Options) (journal : Journal) (sessions : List SessionReport)
    → AreServed m options journal (inputs_of script) sessions → IsOne options journal (numbers sessions) → Agrees m script options (report_of options sessions journal)

-- from the runs of the sessions and what `close` gives, the whole
abbrev pub RunsAgree : Machine → Type 0
RunsAgree m = (script : Script) (options : Options) (first journal : Journal) (sessions : List SessionReport)
    → HaveEnded m options first journal (inputs_of script) sessions → IsClosed options first journal (numbers sessions) → Agrees m script options (report_of options sessions journal)

-- the place of an answered command with an event is behind all that its session had seen, and the session has then seen it
abbrev pub PlaceIsNew : Machine → Type 0
PlaceIsNew m = (options : Options) (session : ℕ) (a b : Position) (c : Command) (l : ReportLine) → StartsWith b.seen a.seen → HasItsEvent m options session a c l b
    → (length a.seen < l.place) × (l.place ≤ length b.seen)
