-- What a session has done with its input.
use Rattle.std.specs.Prelude.{◌≡◌, ◌≢◌, List, ℕ, [], ◌∷◌, ◌++◌, None}
use Rattle.qc_sql.specs.declared.commands.Command.{Command}
use Rattle.qc_sql.specs.declared.commands.Command.TheVariants as command
use Rattle.qc_model.specs.declared.events.Event.{Event}
use Rattle.qc_model.specs.declared.reports.Ending.{Ending}
use Rattle.qc_model.specs.declared.reports.ReportLine.{ReportLine}
use Rattle.qc_model.specs.Agrees.{commands_of}
use Rattle.qc_laws.specs.runs.Cuts.{Takes}
use Rattle.qc_turn.specs.declared.turn.Turn.{Turn}
use Rattle.qc_core.specs.declared.server_state.ServerState.{ServerState}
use Rattle.qc_serve.specs.declared.ending.End.{End}
use Rattle.qc_serve.specs.declared.ending.End.TheVariants as end
use Rattle.qc_serve.specs.declared.log.Logged.{Logged}
use Rattle.qc_serve.specs.declared.session.Session.{Session}
use Rattle.qc_serve.specs.declared.sinks.Piece.{Piece}
use Rattle.qc_serve.specs.Executed.{Leaves}
use Rattle.qc_serve.specs.Going.{DoesOne, IsAtRest, number_of, standing_of}
use Rattle.qc_serve.specs.Leaving.{HasLeft}
use Rattle.qc_serve.specs.Logs.{logged_line}
use Rattle.qc_serve.specs.Sent.{bytes_of}
use Rattle.qc_serve.specs.Served.{HasServed, ending_at}

-- the session has ended, and its seat rests and isn't connected any more
pub record HasEnded (t : Turn ServerState Event) (old new : Session) : Type 0 where
  pub left : HasLeft t (number_of old) new.seat
  pub standing : standing_of new ≡ standing_of old
  pub ended : new.end ≢ None
  pub session : number_of new ≡ number_of old

-- all commands of the input were answered, with these lines, and it ends so
pub record HasAnswered (old new : Session) (input : List ℕ) (lines : List ReportLine) (ending : Ending) : Type 0 where
  pub served : HasServed old new (commands_of input).0 lines None None
  pub ends : ending ≡ (commands_of input).1

-- the log's last line is this one's, whose reply are these pieces
pub record IsLastLine (l : ReportLine) (s : Session) (pieces : List Piece) : Type 0 where
  pub before : List Logged
  pub lines : s.log.lines ≡ before ++ logged_line l ∷ []
  pub reply : l.reply ≡ bytes_of pieces

-- these lines were given to commands of the input, of which this is left, and the session rests
pub record HasGone (t : Turn ServerState Event) (old new : Session) (input left : List ℕ) (lines : List ReportLine) : Type 0 where
  pub commands : List Command
  pub served : HasServed old new commands lines None None
  pub takes : Takes input commands left
  pub rest : IsAtRest t new
  pub going : new.end ≡ None

-- a command was answered, and its line is the last one
pub record KeepsLine (t : Turn ServerState Event) (c : Command) (old new : Session) (lines now : List ReportLine) : Type 0 where
  pub going : c ≢ command.Quit
  pub reply : List ℕ
  pub does : DoesOne t c old new reply
  pub kept : now ≡ lines ++ does.answered ∷ []

-- the session has ended at a command: at COM_QUIT, or for want of memory
pub record EndsAt (t : Turn ServerState Event) (c : Command) (old new : Session) (e : End) : Type 0 where
  pub quit : c ≡ command.Quit → (e ≡ end.Quit) × Leaves t old new end.Quit
  pub other : c ≢ command.Quit → HasEnded t old new × (ending_at e ≡ None)
