-- The setup part, which is run alone on the first seat.
use Rattle.std.specs.Prelude.{◌≡◌, ℕ, List, [], Option, Some, None}
use Rattle.qc_types.specs.declared.options.Options.{Options}
use Rattle.qc_model.specs.declared.events.Event.{Event}
use Rattle.qc_turn.specs.declared.seat.Seat.{Seat}
use Rattle.qc_turn.specs.declared.turn.Turn.{Turn}
use Rattle.qc_turn.specs.declared.view.View.{View}
use Rattle.qc_turn.specs.Seats.{IsSeatOf, view}
use Rattle.qc_turn.specs.Views.{first_seat}
use Rattle.qc_core.specs.contracts.server.ServerKept.TheImpl.{ghosts}
use Rattle.qc_core.specs.declared.server_state.ServerState.{ServerState}
use Rattle.qc_serve.specs.Going.{as_fixed}
use Rattle.qc_app.specs.declared.outcomes.Outcome.{Outcome}
use Rattle.qc_app.specs.declared.sessions.Slot.{Slot}
use Rattle.qc_app.specs.SessionEnds.{IsOutcomeOf}
use Rattle.qc_app.specs.SessionStarts.{IsOpen}
use Rattle.qc_app.specs.Sessions.{IsServed}

-- the seat of a new turn, under these options
pub record IsFresh (t : Turn ServerState Event) (o : Options) (s : Seat ServerState Event ghosts) : Type 0 where
  pub seated : IsSeatOf t s
  pub size : ℕ
  pub is : view s ≡ first_seat size (as_fixed o)

-- session 0 has begun on a new seat with this input, and has ended, and this is what its seat knows then
pub record IsPrepared (t : Turn ServerState Event) (o : Options) (input : List ℕ) (now : View ServerState Event) (outcome : Outcome) : Type 0 where
  pub begun : Slot
  pub over : Slot
  pub opened : IsOpen t o [] (0, input) begun
  pub served : IsServed t begun over
  pub left : IsOutcomeOf over outcome
  pub seat : view over.session.seat ≡ now

-- of a script without a setup part, the first seat has seen nothing
abbrev pub HasPrepared : Turn ServerState Event → Options → Option (List ℕ) → View ServerState Event → Option Outcome → Type 0
HasPrepared t o None now None = (now.seen ≡ []) × (now.events ≡ [])
HasPrepared t o None now (Some outcome) = ⊥
HasPrepared t o (Some input) now None = ⊥
HasPrepared t o (Some input) now (Some outcome) = IsPrepared t o input now outcome
