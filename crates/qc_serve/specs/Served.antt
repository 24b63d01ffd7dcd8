-- What became of the commands of an input.
use Rattle.std.specs.Prelude.{◌≡◌, ◌⊎◌, ℕ, List, [], ◌∷◌, ◌++◌, map, flat_map, Option, Some, None, IfSome, MatchOption}
use Rattle.qc_types.specs.declared.memory.Or.{Or}
use Rattle.qc_types.specs.declared.memory.Or.TheVariants as or
use Rattle.qc_types.specs.Streams.{Rose}
use Rattle.qc_sql.specs.declared.commands.Command.{Command}
use Rattle.qc_sql.specs.declared.commands.CommandEnd.{CommandEnd}
use Rattle.qc_sql.specs.declared.commands.CommandEnd.TheVariants as why
use Rattle.qc_model.specs.declared.events.Event.{Event}
use Rattle.qc_model.specs.declared.reports.Ending.{Ending}
use Rattle.qc_model.specs.declared.reports.Ending.TheVariants as ending
use Rattle.qc_model.specs.declared.reports.ReportLine.{ReportLine}
use Rattle.qc_model.specs.Agrees.{commands_of, whole_machine}
use Rattle.qc_laws.specs.runs.Cuts.{Takes}
use Rattle.qc_laws.specs.runs.Runs.{Runs}
use Rattle.qc_turn.specs.declared.turn.Turn.{Turn}
use Rattle.qc_core.specs.declared.server_state.ServerState.{ServerState}
use Rattle.qc_serve.specs.declared.ending.End.{End}
use Rattle.qc_serve.specs.declared.ending.End.TheVariants as end
use Rattle.qc_serve.specs.declared.session.Session.{Session}
use Rattle.qc_serve.specs.declared.sinks.Piece.{Piece}
use Rattle.qc_serve.specs.Executed.{HasEnded, Leaves}
use Rattle.qc_serve.specs.Going.{IsAtRest, number_of, position_of, standing_of}
use Rattle.qc_serve.specs.Leaving.{HasLeft}
use Rattle.qc_serve.specs.Logs.{logged_line}
use Rattle.qc_serve.specs.Sent.{Sends}

-- the replies of lines, one after another
abbrev pub replies_of : List ReportLine → List ℕ
replies_of ls = flat_map (λ l. l.reply) ls

-- These commands were answered, one after another, with these lines: the log has them, and their replies went out.
pub record HasServed (old new : Session) (cs : List Command) (ls : List ReportLine) (held out : Option (List Piece)) : Type 0 where
  pub runs : Runs whole_machine old.options (number_of old) (position_of old) cs ls (position_of new)
  pub lines : new.log.lines ≡ old.log.lines ++ map logged_line ls
  pub sends : Sends held out (replies_of ls)
  pub options : new.options ≡ old.options
  pub standing : standing_of new ≡ standing_of old
  pub session : number_of new ≡ number_of old

-- of an input, where it is told, these commands were taken, and this is left
abbrev pub TakesOf : Option (List ℕ) → List Command → Option (List ℕ) → Type 0
TakesOf None cs left = left ≡ None
TakesOf (Some input) cs None = ⊥
TakesOf (Some input) cs (Some left) = Takes input cs left

-- ---- while it goes on

-- the session has served some commands of the input, and rests
pub record IsServing (t : Turn ServerState Event) (old new : Session) (input left : Option (List ℕ)) (held out : Option (List Piece)) : Type 0 where
  pub commands : List Command
  pub answered : List ReportLine
  pub served : HasServed old new commands answered held out
  pub takes : TakesOf input commands left
  pub rest : IsAtRest t new
  pub going : new.end ≡ None

-- ---- where it has ended

-- how the input ends at which a session ends, where it is no fault and no want of memory
abbrev pub ending_at : End → Option Ending
ending_at end.Quit = Some ending.Quit
ending_at end.EndOfInput = Some ending.Input
ending_at (end.Cut n) = Some (ending.Cut n)
ending_at (end.TooLong n) = Some (ending.TooLong n)
ending_at (end.BadSequence found wanted) = Some (ending.BadSequence found wanted)
ending_at end.ReadFault = None
ending_at end.WriteFault = None
ending_at end.Memory = None

-- why a session ends of whose input no command is left
abbrev pub reading_end : Or CommandEnd → End
reading_end or.Memory = end.Memory
reading_end (or.Other why.EndOfInput) = end.EndOfInput
reading_end (or.Other (why.Cut n)) = end.Cut n
reading_end (or.Other (why.TooLong n)) = end.TooLong n
reading_end (or.Other (why.BadSequence found wanted)) = end.BadSequence found wanted
reading_end (or.Other why.Failed) = end.ReadFault

-- All commands of the input were answered, and it ends so.
pub record ServesAll (old new : Session) (input : Option (List ℕ)) (held out : Option (List Piece)) (ending : Ending) : Type 0 where
  pub commands : List Command
  pub answered : List ReportLine
  pub served : HasServed old new commands answered held out
  pub all : IfSome input (λ bytes. commands_of bytes ≡ (commands, ending))

-- it ended at the next command
abbrev pub EndsAt : Turn ServerState Event → Session → Session → Option (List ℕ) → Option (List Piece) → Option (List Piece) → End → Type 0
EndsAt t old new left held out e = (c : Command) × IfSome left (λ bytes. (rest : List ℕ) × Takes bytes (c ∷ []) rest) × HasEnded t c old new held out e

-- Some commands of the input were answered; then the session ended while it read the next one, or at that one.
pub record ServesSome (t : Turn ServerState Event) (old new : Session) (input : Option (List ℕ)) (held out : Option (List Piece)) (e : End) : Type 0 where
  pub middle : Session
  pub left : Option (List ℕ)
  pub between : Option (List Piece)
  pub serving : IsServing t old middle input left held between
  pub ended : (Leaves t middle new e × (out ≡ between)) ⊎ EndsAt t middle new left between out e

-- A session has ended: all commands of its input were answered, or some where a read or a put failed or memory lacked.
pub record IsServed (t : Turn ServerState Event) (old new : Session) (input : Option (List ℕ)) (held out : Option (List Piece)) (e : End) : Type 0 where
  pub end : new.end ≡ Some e
  pub left : HasLeft t (number_of old) new.seat
  pub standing : standing_of new ≡ standing_of old
  pub served : MatchOption (ending_at e) (ServesSome t old new input held out e) (ServesAll old new input held out)

-- the fault at which it ended, by the counts of the source and of the sink before and after
abbrev pub HasFault : (read read' put put' : ℕ) → End → Type 0
HasFault read read' put put' end.ReadFault = Rose read read'
HasFault read read' put put' end.WriteFault = Rose put put'
HasFault read read' put put' _ = Unit {0}
