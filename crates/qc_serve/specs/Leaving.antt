-- What a seat knows that connects, and that leaves.
use Rattle.std.specs.Prelude.{◌≡◌, ℕ, ◌+◌, ◌-◌, ◌<◌, false}
use Rattle.qc_model.specs.declared.events.Event.{Event}
use Rattle.qc_model.specs.Journal.{events_of}
use Rattle.qc_turn.specs.declared.seat.Seat.{Seat}
use Rattle.qc_turn.specs.declared.turn.Turn.{Turn}
use Rattle.qc_turn.specs.declared.view.View.{View}
use Rattle.qc_turn.specs.declared.task.Task.TheVariants as task
use Rattle.qc_turn.specs.Seats.{Held, IsSeatOf, MayRelease, holder, view}
use Rattle.qc_turn.specs.Words.{StartsWith}
use Rattle.qc_core.specs.contracts.server.ServerKept.TheImpl.{ghosts}
use Rattle.qc_core.specs.declared.server_state.ServerState.{ServerState}
use Rattle.qc_core.specs.Calls.{Rests}
use Rattle.qc_core.specs.Connection.{is_connected}

-- ---- outside of the turn

-- the seat rests, and isn't connected
pub record IsApart (t : Turn ServerState Event) (s : Seat ServerState Event ghosts) : Type 0 where
  pub seated : IsSeatOf t s
  pub task : (view s).task ≡ task.Rest
  pub connected : (view s).connected ≡ false

-- the same of the seat of a session that has ended, with what it knows of its own events
pub record HasLeft (t : Turn ServerState Event) (session : ℕ) (s : Seat ServerState Event ghosts) : Type 0 where
  pub apart : IsApart t s
  pub number : (view s).number ≡ session + 1
  pub events : (view s).events ≡ events_of session (view s).seen

-- ---- under the turn

-- the seat holds the turn, isn't connected, and has no task but perhaps a stream that it has ended; what it had seen is in front of the journal
pub record IsStranger (h : Held ServerState Event ghosts) : Type 0 where
  pub stands : MayRelease h
  pub seated : 0 < (holder h).number
  pub unset : (holder h).word_set ≡ false
  pub rests : Rests h
  pub connected : is_connected (holder h).number h.value ≡ false
  pub begins : StartsWith h.value.journal.events (holder h).seen

-- it may give the turn back, and then rests
pub record MayLetGo (h : Held ServerState Event ghosts) : Type 0 where
  pub stands : MayRelease h
  pub seated : 0 < (holder h).number
  pub unset : (holder h).word_set ≡ false
  pub rests : Rests h

-- what a seat knows that has given the turn back and rests
pub record HasLetGo (old now : View ServerState Event) (value : ServerState) : Type 0 where
  pub number : now.number ≡ old.number
  pub fixed : now.fixed ≡ old.fixed
  pub registry : now.registry ≡ old.registry
  pub seen : now.seen ≡ value.journal.events
  pub task : now.task ≡ task.Rest
  pub connected : now.connected ≡ is_connected old.number value
  pub events : now.events ≡ events_of (old.number - 1) value.journal.events
