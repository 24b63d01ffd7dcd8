-- What became of a command and of its reply.
use Rattle.std.specs.Prelude.{◌≡◌, ◌⊎◌, true, ℕ, ◌+◌, ◌≤◌, List, [], ◌∷◌, ◌++◌, length, map, take, All, Option, Some, MatchOption}
use Rattle.qc_types.specs.declared.options.Options.{Options}
use Rattle.qc_types.specs.Streams.{Rose}
use Rattle.qc_sql.specs.declared.commands.Command.{Command}
use Rattle.qc_sql.specs.declared.commands.Command.TheVariants as command
use Rattle.qc_sql.specs.declared.replies.Reply.{Reply}
use Rattle.qc_model.specs.declared.events.Event.{Event}
use Rattle.qc_model.specs.declared.events.Event.TheVariants as event
use Rattle.qc_model.specs.declared.events.How.TheVariants as how
use Rattle.qc_model.specs.declared.reports.ReportLine.{ReportLine}
use Rattle.qc_model.specs.declared.reports.Word.{Word}
use Rattle.qc_model.specs.declared.reports.Word.TheVariants as word
use Rattle.qc_model.specs.Agrees.{Machine, key_of_command, line, who_of, whole_machine, word_of}
use Rattle.qc_model.specs.Journal.{Journal, before}
use Rattle.qc_model.specs.Needs.{HasOwnNeeds}
use Rattle.qc_model.specs.Session.{State}
use Rattle.qc_laws.specs.history.Runs.{is_completed}
use Rattle.qc_laws.specs.runs.Runs.{Position, StartsWith, own}
use Rattle.qc_turn.specs.declared.task.Task.{Task}
use Rattle.qc_turn.specs.declared.task.Task.TheVariants as task
use Rattle.qc_turn.specs.declared.turn.Turn.{Turn}
use Rattle.qc_core.specs.declared.server_state.ServerState.{ServerState}
use Rattle.qc_serve.specs.declared.ending.End.{End}
use Rattle.qc_serve.specs.declared.ending.End.TheVariants as end
use Rattle.qc_serve.specs.declared.execution.Executed.{Executed}
use Rattle.qc_serve.specs.declared.execution.Executed.TheVariants as executed
use Rattle.qc_serve.specs.declared.session.Session.{Session}
use Rattle.qc_serve.specs.declared.sinks.Piece.{Piece}
use Rattle.qc_serve.specs.Going.{DoesOne, number_of, position_of, seen_by, standing_of}
use Rattle.qc_serve.specs.Leaving.{HasLeft}
use Rattle.qc_serve.specs.Logs.{logged_event}
use Rattle.qc_serve.specs.Seats.{GoesOn, SeatRests}
use Rattle.qc_serve.specs.Sent.{Adds, AreCut, NoneIsEmpty, Sends, SendsFrontOf, hit_size, packet_size}

-- ---- the tasks of the seat while a reply goes out

abbrev pub AllAt : Task → List Piece → Type 0
AllAt t pieces = All (λ p. p.task ≡ t) pieces

-- the pieces of a Hit's reply go out while the seat streams the entry, and those of a Start that is done while the seat fills it
abbrev pub GoOutAt : Journal → Event → List Piece → Type 0
GoOutAt seen (event.Run who (how.Hit n)) pieces = AllAt (task.Stream n) pieces
GoOutAt seen (event.Run who (how.Start n key tables)) pieces = is_completed n seen ≡ true → AllAt (task.Fill n) pieces
GoOutAt seen _ pieces = Unit {0}

-- the same of the one event of a command
abbrev pub ArePutBy : Session → Session → List Piece → Type 0
ArePutBy old new pieces = (place : ℕ) (e : Event) → own (number_of old) (seen_by new) ≡ own (number_of old) (seen_by old) ++ (place, e) ∷ [] → GoOutAt (seen_by new) e pieces

-- the pieces of a Hit's reply go out while the seat streams the entry, also where the reply breaks off
abbrev pub StreamsOut : Event → List Piece → Type 0
StreamsOut (event.Run who (how.Hit n)) pieces = AllAt (task.Stream n) pieces
StreamsOut _ pieces = Unit {0}

-- the same of the one event of a command
abbrev pub AreStreamedBy : Session → Session → List Piece → Type 0
AreStreamedBy old new pieces = (place : ℕ) (e : Event) → own (number_of old) (seen_by new) ≡ own (number_of old) (seen_by old) ++ (place, e) ∷ [] → StreamsOut e pieces

-- ---- the sizes of a reply's pieces

-- by the word of its line: a hit goes out in pieces of 512 bytes, and every other reply packet by packet
abbrev pub size_by : Word → List ℕ → ℕ
size_by word.Hit = hit_size
size_by _ = packet_size

-- ---- a command is answered

-- the command was answered, and exactly its reply went out, while the seat had the task of its event, in pieces of their sizes, of which the last one may be shorter
pub record IsReplied (t : Turn ServerState Event) (c : Command) (old new : Session) (held out : Option (List Piece)) : Type 0 where
  pub reply : List ℕ
  pub does : DoesOne t c old new reply
  pub sends : Sends held out reply
  pub at : Adds held out (ArePutBy old new)
  pub cut : Adds held out (AreCut (size_by does.answered.how))
  pub some : Adds held out NoneIsEmpty

-- ---- a session ends at a command

-- the line of a command at its one event, whatever became of its fill
abbrev pub HasEventLine : Machine → Options → ℕ → Position → Command → ReportLine → Journal → Type 0
HasEventLine m options session from c l seen =
    (e : Event) × (r : Reply) × (next : State)
    × (own session seen ≡ own session from.seen ++ (l.place, e) ∷ [])
    × m.executes options (who_of from.state.session (length (own session from.seen) + 1)) from.state c (before l.place seen) e r next
    × (l ≡ line l.place (word_of e) r)
    × HasOwnNeeds options (before l.place seen) (key_of_command from.state c) e

-- the line of a command, at its event or, where it has none, by the session alone
abbrev pub HasLine : Machine → Options → ℕ → Position → Command → ReportLine → Journal → Type 0
HasLine m options session from c l seen =
    MatchOption (m.without_event from.state (take from.place from.seen) c) (HasEventLine m options session from c l seen)
    (λ given. (l ≡ line from.place word.Local given.0) × (own session seen ≡ own session from.seen))

-- a front of the command's reply went out, which may be empty, in pieces of their sizes but for the last one
abbrev pub SendsPart : Command → Session → Session → Option (List Piece) → Option (List Piece) → Type 0
SendsPart c old new held out =
    (l : ReportLine) × HasLine whole_machine old.options (number_of old) (position_of old) c l (seen_by new) × SendsFrontOf held out l.reply × Adds held out (AreCut (size_by l.how))

-- Nothing came and nothing went out. Or the one event that came is the command's, as the machine has it at its place, the log has its line and no other, and a front
-- of the command's reply at it went out, which may be empty; where the command has no event, none came. What went out of a hit went out while the seat streamed it.
pub record BreaksOff (c : Command) (old new : Session) (held out : Option (List Piece)) : Type 0 where
  pub begins : StartsWith (seen_by new) (seen_by old)
  pub events : List (ℕ × Event)
  pub few : length events ≤ 1
  pub grows : own (number_of old) (seen_by new) ≡ own (number_of old) (seen_by old) ++ events
  pub lines : new.log.lines ≡ old.log.lines ++ map logged_event events
  pub session : number_of new ≡ number_of old
  pub standing : standing_of new ≡ standing_of old
  pub sent : ((events ≡ []) × (out ≡ held)) ⊎ SendsPart c old new held out
  pub at : Adds held out (AreStreamedBy old new)

-- the session has to end: its seat rests
pub record MustEnd (t : Turn ServerState Event) (c : Command) (old new : Session) (held out : Option (List Piece)) : Type 0 where
  pub rests : SeatRests t (number_of old) new.seat
  pub breaks : BreaksOff c old new held out

-- it has ended, and its seat isn't connected any more
pub record HasEnded (t : Turn ServerState Event) (c : Command) (old new : Session) (held out : Option (List Piece)) (e : End) : Type 0 where
  pub left : HasLeft t (number_of old) new.seat
  pub end : new.end ≡ Some e
  pub breaks : BreaksOff c old new held out

-- it has ended, and of it nothing but its seat has changed: no event and no line of it came
pub record Leaves (t : Turn ServerState Event) (old new : Session) (e : End) : Type 0 where
  pub left : HasLeft t (number_of old) new.seat
  pub seen : GoesOn (number_of old) (seen_by old) (seen_by new)
  pub standing : standing_of new ≡ standing_of old
  pub same : new ≡ record old { seat = new.seat; end = Some e }

-- ---- what a command does

-- the reason of an end while a reply is made or sent, by the sink's count of faults before and after
abbrev pub MayFail : ℕ → ℕ → End → Type 0
MayFail before now end.WriteFault = Rose before now
MayFail before now end.Memory = Unit {0}
MayFail before now _ = ⊥

-- it is no COM_QUERY, and no COM_QUIT
abbrev pub IsOther : Command → Type 0
IsOther command.Quit = ⊥
IsOther (command.Query text) = ⊥
IsOther _ = Unit {0}

-- a command other than COM_QUIT was answered, or the session has ended at it
abbrev pub Executes : Turn ServerState Event → Command → Session → Session → (held out : Option (List Piece)) → (before now : ℕ) → Executed → Type 0
Executes t c old new held out before now executed.Replied = IsReplied t c old new held out
Executes t c old new held out before now (executed.Ended e) = HasEnded t c old new held out e × MayFail before now e

-- the session has ended at COM_QUIT
abbrev pub Quits : Turn ServerState Event → Session → Session → (held out : Option (List Piece)) → Executed → Type 0
Quits t old new held out r = (r ≡ executed.Ended end.Quit) × Leaves t old new end.Quit × (out ≡ held)
