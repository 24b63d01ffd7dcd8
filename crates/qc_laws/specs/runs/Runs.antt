-- What a session has done, by the journal that it has seen.
use Rattle.std.specs.Prelude.{◌≡◌, ◌≢◌, ℕ, ◌+◌, ◌≤◌, true, false, List, [], ◌∷◌, ◌++◌, length, take, map, MatchOption, IsTrue}
use Rattle.std.specs.List.{list_all}
use Rattle.qc_model.specs.declared.reports.Report.{Report}
use Rattle.qc_model.specs.Cache.{counters}
use Rattle.qc_model.specs.Licence.{IsLawful}
use Rattle.qc_sql.specs.declared.commands.Command.{Command}
use Rattle.qc_sql.specs.declared.replies.Reply.{Reply}
use Rattle.qc_types.specs.declared.options.Options.{Options}
use Rattle.qc_model.specs.declared.events.Event.{Event}
use Rattle.qc_model.specs.declared.reports.ReportLine.{ReportLine}
use Rattle.qc_model.specs.declared.reports.SessionReport.{SessionReport}
use Rattle.qc_model.specs.declared.reports.Word.{Word}
use Rattle.qc_model.specs.declared.reports.Word.TheVariants as word
use Rattle.qc_model.specs.Journal.{Journal, before, events_of}
use Rattle.qc_model.specs.Session.{State, starting}
use Rattle.qc_model.specs.Needs.{HasOwnNeeds, HasNeeds}
use Rattle.qc_model.specs.Agrees.{Machine, Rest, LinesThen, IsSessionOf, numbered_events, word_of, line, who_of, key_of_command, fill_ends, commands_of}
use Rattle.qc_sql.specs.Words.{is_among}

module _ {E : Type 0} where
  -- the list begins with these
  abbrev pub StartsWith : List E → List E → Type 0
  StartsWith xs ys = (rest : List E) × (xs ≡ ys ++ rest)

-- the events of a session, each with its number
abbrev pub own : ℕ → Journal → List (ℕ × Event)
own session journal = numbered_events session 1 journal

-- where a session stands between two commands: the journal that it has seen, its state, and the place of its last line, or 0
pub record Position : Type 0 where
  pub seen : Journal
  pub state : State
  pub place : ℕ

abbrev pub stand : Journal → State → ℕ → Position
stand seen state place = record { seen = seen; state = state; place = place }

-- all is read, in this state, at this place and with this many events
abbrev pub StandsAt : State → ℕ → ℕ → Rest
StandsAt state place count s p n events = (s ≡ state) × (p ≡ place) × (n ≡ count) × (events ≡ [])

-- A session took these commands, and gave these lines.
pub record Runs (m : Machine) (options : Options) (session : ℕ) (from : Position) (cs : List Command) (ls : List ReportLine) (to : Position) : Type 0 where
  pub begins : StartsWith to.seen from.seen
  pub reaches : from.place ≤ length from.seen → to.place ≤ length to.seen
  pub events : List (ℕ × Event)
  pub grows : own session to.seen ≡ own session from.seen ++ events
  pub lines : LinesThen m options to.seen (StandsAt to.state to.place (length (own session to.seen))) cs ls from.state from.place (length (own session from.seen)) events
  pub fills_end : IsTrue (list_all (λ x. fill_ends to.seen x.1) events)

-- the command has its one event in the journal since, at the place of its line
abbrev pub HasItsEvent : Machine → Options → ℕ → Position → Command → ReportLine → Position → Type 0
HasItsEvent m options session from c l to =
    (e : Event) × (r : Reply)
    × (own session to.seen ≡ own session from.seen ++ (l.place, e) ∷ [])
    × m.executes options (who_of from.state.session (length (own session from.seen) + 1)) from.state c (before l.place to.seen) e r to.state
    × (l ≡ line l.place (word_of e) r)
    × HasOwnNeeds options (before l.place to.seen) (key_of_command from.state c) e
    × (fill_ends to.seen e ≡ true)

-- the command has no event, and gives this reply and this next state
abbrev pub HasNoEvent : ℕ → Position → ReportLine → Position → Reply × State → Type 0
HasNoEvent session from l to given = (l ≡ line from.place word.Local given.0) × (given.1 ≡ to.state) × (own session to.seen ≡ own session from.seen)

-- what one command did that was answered: its line, and where the session then stands
pub record Answers (m : Machine) (options : Options) (session : ℕ) (from : Position) (c : Command) (l : ReportLine) (to : Position) : Type 0 where
  pub begins : StartsWith to.seen from.seen
  pub place : to.place ≡ l.place
  pub does : MatchOption (m.without_event from.state (take from.place from.seen) c) (HasItsEvent m options session from c l to) (HasNoEvent session from l to)

-- what the log has of a line
abbrev pub logged_of : ReportLine → ℕ × Word
logged_of l = (l.place, l.how)

-- what the whole journal has of a session that has ended
pub record IsServed (m : Machine) (options : Options) (journal : Journal) (input : List ℕ) (s : SessionReport) : Type 0 where
  pub session : IsSessionOf m options journal input s
  pub fills_end : IsTrue (list_all (fill_ends journal) (events_of s.session journal))

-- each session of the script, in its order
abbrev pub AreServed : Machine → Options → Journal → List (ℕ × List ℕ) → List SessionReport → Type 0
AreServed m options journal [] [] = Unit {0}
AreServed m options journal (i ∷ is) (s ∷ ss) = (s.session ≡ i.0) × IsServed m options journal i.1 s × AreServed m options journal is ss
AreServed m options journal [] (s ∷ ss) = ⊥
AreServed m options journal (i ∷ is) [] = ⊥

abbrev pub numbers : List SessionReport → List ℕ
numbers ss = map (λ s. s.session) ss

-- what is known of the one journal at the end: the sessions that were served, and what session 0 had seen before the others began
pub record IsOne (options : Options) (journal : Journal) (sessions : List ℕ) : Type 0 where
  pub lawful : IsLawful options journal
  pub needs : HasNeeds options journal
  pub no_other : (n : ℕ) → is_among sessions n ≡ false → events_of n journal ≡ []
  pub first : Journal
  pub begins : StartsWith journal first
  pub setup : events_of 0 journal ≡ events_of 0 first
  pub before : (n : ℕ) → n ≢ 0 → events_of n first ≡ []

abbrev pub report_of : Options → List SessionReport → Journal → Report
report_of options sessions journal = record { options = options; sessions = sessions; journal = journal; counters = counters journal }

-- A session has ended, in the one journal. The others began when session 0 had ended, and had then seen what it had seen.
pub record HasEnded (m : Machine) (options : Options) (first journal : Journal) (input : List ℕ) (s : SessionReport) : Type 0 where
  pub from : Journal
  pub to : Position
  pub begins : s.session ≢ 0 → StartsWith from first
  pub none : own s.session from ≡ []
  pub runs : Runs m options s.session (stand from (starting s.session options.kind) 0) (commands_of input).0 s.lines to
  pub ending : s.ending ≡ (commands_of input).1
  -- these two are what `close` gives
  pub seen : StartsWith journal to.seen
  pub all : events_of s.session journal ≡ events_of s.session to.seen

abbrev pub HaveEnded : Machine → Options → Journal → Journal → List (ℕ × List ℕ) → List SessionReport → Type 0
HaveEnded m options first journal [] [] = Unit {0}
HaveEnded m options first journal (i ∷ is) (s ∷ ss) = (s.session ≡ i.0) × HasEnded m options first journal i.1 s × HaveEnded m options first journal is ss
HaveEnded m options first journal [] (s ∷ ss) = ⊥
HaveEnded m options first journal (i ∷ is) [] = ⊥

-- what else is known of the value that `close` gave: it is sound, no other seat has events, and session 0 has none but those that it had when the others began
pub record IsClosed (options : Options) (first journal : Journal) (sessions : List ℕ) : Type 0 where
  pub lawful : IsLawful options journal
  pub needs : HasNeeds options journal
  pub no_other : (n : ℕ) → is_among sessions n ≡ false → events_of n journal ≡ []
  pub begins : StartsWith journal first
  pub setup : events_of 0 journal ≡ events_of 0 first
