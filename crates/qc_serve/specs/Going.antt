-- What a session's methods do.
use Rattle.std.specs.List.{AllByRecursion}
use Rattle.std.specs.Prelude.{◌≡◌, ℕ, ◌+◌, ◌*◌, ◌<◌, ◌≤◌, Bool, true, not, ◌||◌, Option, None, is_some, List, [], ◌∷◌, ◌++◌, length, map, take, Ok, MatchResult}
use Rattle.qc_types.specs.declared.options.Options.{Options}
use Rattle.qc_types.specs.declared.totals.Totals.{Totals}
use Rattle.qc_sql.specs.declared.commands.Command.{Command}
use Rattle.qc_sql.specs.declared.commands.Command.TheVariants as command
use Rattle.qc_sql.specs.declared.replies.Reply.{Reply}
use Rattle.qc_sql.specs.declared.statements.Setting.{Setting}
use Rattle.qc_sql.specs.declared.statements.Statement.{Statement}
use Rattle.qc_sql.specs.Effects.{effect}
use Rattle.qc_sql.specs.Grammar.{meaning, trimmed}
use Rattle.qc_sql.specs.Packets.{packets}
use Rattle.qc_model.specs.declared.events.Event.{Event}
use Rattle.qc_model.specs.declared.events.Event.TheVariants as event
use Rattle.qc_model.specs.declared.events.How.TheVariants as how
use Rattle.qc_model.specs.declared.events.Who.{Who}
use Rattle.qc_model.specs.declared.reports.ReportLine.{ReportLine}
use Rattle.qc_model.specs.declared.reports.Word.TheVariants as word
use Rattle.qc_model.specs.Agrees.{whole_machine, word_of}
use Rattle.qc_model.specs.Cache.{counters}
use Rattle.qc_model.specs.Journal.{Journal, before, is_by}
use Rattle.qc_model.specs.Machine.{Given, changed_rows, ok_reply, refused, status_reply}
use Rattle.qc_model.specs.Session.{State, arrived, base, snapshot_of}
use Rattle.qc_model.specs.Settings.{set_to}
use Rattle.qc_laws.specs.runs.Runs.{Answers, Position, StartsWith, own, stand}
use Rattle.qc_statements.specs.Sound.{IsFitState, IsPast}
use Rattle.qc_turn.specs.declared.turn.Turn.{Turn}
use Rattle.qc_turn.specs.declared.view.MetSeat.{MetSeat}
use Rattle.qc_turn.specs.Seats.{view}
use Rattle.qc_core.specs.declared.server_state.ServerState.{ServerState}
use Rattle.qc_serve.specs.declared.session.Session.{Session}
use Rattle.qc_serve.specs.Logs.{logged, logged_event, logged_line}
use Rattle.qc_serve.specs.Seats.{Decides, GoesOn, RestsAgain, SeatRests, next_of}

abbrev pub seen_by : Session → Journal
seen_by s = (view s.seat).seen

abbrev pub number_of : Session → ℕ
number_of s = s.state.state.session

-- what stays of its seat as long as it is connected: what is fixed, and the seats that it has split off, with what it keeps of those that it has met
abbrev pub standing_of : Session → List ℕ × List (Option (MetSeat Event))
standing_of s = ((view s.seat).fixed, (view s.seat).registry)

-- where the session stands
abbrev pub position_of : Session → Position
position_of s = stand (seen_by s) s.state.state s.place

-- the session, and the number of its next event
abbrev pub next_who : Session → Who
next_who s = next_of (number_of s) (seen_by s)

-- the options as a seat knows them
abbrev pub as_fixed : Options → List ℕ
as_fixed o = o.size ∷ o.limit ∷ o.unit ∷ o.kind ∷ []

-- what holds between two commands
pub record IsAtRest (t : Turn ServerState Event) (s : Session) : Type 0 where
  pub rests : SeatRests t (number_of s) s.seat
  pub fit : IsFitState (seen_by s) s.state
  pub past : IsPast (seen_by s) (snapshot_of s.state.state)
  pub reached : s.place ≤ length (seen_by s)
  pub options : (view s.seat).fixed ≡ as_fixed s.options
  pub ranges : s.options.size ≤ 512 * s.seat.ranges.room

-- and there is room for a line
pub record MayAnswer (t : Turn ServerState Event) (s : Session) : Type 0 where
  pub rest : IsAtRest t s
  pub room : 0 < s.log.room

-- Memory was wanting: the seat rests. At most one event of the session came, of which this is so by the journal before it, and which is no select's; the log has
-- its line, and no other.
pub record Stops (t : Turn ServerState Event) (old new : Session) (IsSo : Journal → Event → Type 0) : Type 0 where
  pub rests : RestsAgain t (number_of old) old.seat new.seat
  pub begins : StartsWith (seen_by new) (seen_by old)
  pub events : List (ℕ × Event)
  pub few : length events ≤ 1
  pub others : AllByRecursion (λ x. word_of x.1 ≡ word.Other) events
  pub are_so : AllByRecursion (λ x. IsSo (before x.0 (seen_by new)) x.1) events
  pub grows : own (number_of old) (seen_by new) ≡ own (number_of old) (seen_by old) ++ events
  pub lines : new.log.lines ≡ old.log.lines ++ map logged_event events
  pub session : number_of new ≡ number_of old
  pub end : new.end ≡ old.end

-- it was wanting before an event came
abbrev pub StopsWithout : Turn ServerState Event → Session → Session → Type 0
StopsWithout t old new = Stops t old new (λ journal e. ⊥)

-- the event is the one that is given by the journal before it
abbrev pub IsGivenBy : (Journal → Given) → Journal → Event → Type 0
IsGivenBy given journal e = e ≡ (given journal).event

-- the event is this command's: the command has one, and from where the session stands the machine has this one by the journal before it, with some reply and next state
pub record IsEventOf (c : Command) (old : Session) (journal : Journal) (e : Event) : Type 0 where
  pub has_one : whole_machine.without_event old.state.state (take old.place (seen_by old)) c ≡ None
  pub reply : Reply
  pub next : State
  pub executes : whole_machine.executes old.options (next_who old) old.state.state c journal e reply next

-- memory was wanting at a query of a text that means this statement
abbrev pub StopsStatement : Turn ServerState Event → Statement → Session → Session → Type 0
StopsStatement t s old new = (text : List ℕ) → meaning (trimmed text) old.state.state.ansi ≡ Ok s → Stops t old new (IsEventOf (command.Query text) old)

-- the event of a command that is no SELECT came, behind what others did, with its line
pub record Logs (t : Turn ServerState Event) (old new : Session) (IsSo : Journal → Event → Type 0) : Type 0 where
  pub decides : Decides (number_of old) (seen_by old) (seen_by new) IsSo
  pub rests : RestsAgain t (number_of old) old.seat new.seat
  pub place : new.place ≡ length (seen_by new)
  pub lines : new.log.lines ≡ old.log.lines ++ logged new.place word.Other ∷ []
  pub options : new.options ≡ old.options
  pub end : new.end ≡ old.end

-- the same, with the event, the reply and the next state that are given by the journal before it
pub record GivesOut (t : Turn ServerState Event) (old new : Session) (bytes : List ℕ) (given : Journal → Given) : Type 0 where
  pub journal : Journal
  pub goes_on : GoesOn (number_of old) (seen_by old) journal
  pub events : seen_by new ≡ journal ++ (given journal).event ∷ []
  pub other : word_of (given journal).event ≡ word.Other
  pub mine : is_by (number_of old) (given journal).event ≡ true
  pub place : new.place ≡ length (seen_by new)
  pub lines : new.log.lines ≡ old.log.lines ++ logged new.place word.Other ∷ []
  pub reply : bytes ≡ packets (given journal).reply
  pub state : new.state.state ≡ (given journal).next
  pub options : new.options ≡ old.options
  pub standing : standing_of new ≡ standing_of old
  pub end : new.end ≡ old.end
  pub rest : IsAtRest t new

-- a reply without an event, and the session's next state
pub record TellsOut (t : Turn ServerState Event) (old new : Session) (bytes : List ℕ) (r : Reply) (next : State) : Type 0 where
  pub seen : seen_by new ≡ seen_by old
  pub place : new.place ≡ old.place
  pub lines : new.log.lines ≡ old.log.lines ++ logged old.place word.Local ∷ []
  pub reply : bytes ≡ packets r
  pub state : new.state.state ≡ next
  pub options : new.options ≡ old.options
  pub standing : standing_of new ≡ standing_of old
  pub end : new.end ≡ old.end
  pub rest : IsAtRest t new

-- one command was answered, with these packets
pub record DoesOne (t : Turn ServerState Event) (c : Command) (old new : Session) (bytes : List ℕ) : Type 0 where
  pub answered : ReportLine
  pub answers : Answers whole_machine old.options (number_of old) (position_of old) c answered (position_of new)
  pub reply : answered.reply ≡ bytes
  pub lines : new.log.lines ≡ old.log.lines ++ logged_line answered ∷ []
  pub options : new.options ≡ old.options
  pub standing : standing_of new ≡ standing_of old
  pub end : new.end ≡ old.end
  pub session : number_of new ≡ number_of old
  pub rest : IsAtRest t new

-- a query of a text that means this statement was answered
abbrev pub DoesStatement : Turn ServerState Event → Statement → Session → Session → List ℕ → Type 0
DoesStatement t s old new reply = (text : List ℕ) → meaning (trimmed text) old.state.state.ansi ≡ Ok s → DoesOne t (command.Query text) old new reply

-- SHOW STATUS, with these totals
abbrev pub status_given : Who → State → Totals → Journal → Given
status_given who state t journal = record { event = event.Run who (how.Status t); reply = status_reply state (counters journal) t; next = state }

-- a command that changes nothing which a session sees, and answers OK
abbrev pub event_given : Event → State → Given
event_given e state = record { event = e; reply = ok_reply state 0; next = state }

-- a statement on rows, in the state in which it is validated
abbrev pub rows_given : Who → State → Statement → Journal → Given
rows_given who state s journal = let at = arrived (length journal + 1) s state in changed_rows who at (effect s (base at journal) at.db at.session)

-- it runs in a transaction, which it opens where autocommit is off
abbrev pub runs_in_transaction : State → Bool
runs_in_transaction state = is_some state.transaction || not state.autocommit

-- a variable without event was set, or not
abbrev pub SetsOther : Turn ServerState Event → Setting → Session → Session → List ℕ → Type 0
SetsOther t setting old new bytes = MatchResult (set_to old.state.state setting) (λ next. TellsOut t old new bytes (ok_reply next 0) next) (λ e. TellsOut t old new bytes (refused e) old.state.state)
