-- What the tests know of seats and of the sessions on them.
use Rattle.std.specs.Prelude.{◌≡◌, ℕ, ◌-◌, Result, Ok, Err, Option, None, Some, List, ◌++◌, slice_set, MatchResult}
use Rattle.qc_types.specs.declared.options.Options.{Options}
use Rattle.qc_model.specs.declared.events.Event.{Event}
use Rattle.qc_turn.specs.declared.seat.Seat.{Seat}
use Rattle.qc_turn.specs.declared.turn.Turn.{Turn}
use Rattle.qc_turn.specs.declared.view.MetSeat.{MetSeat}
use Rattle.qc_turn.specs.Seats.{IsSeatOf, view}
use Rattle.qc_turn.specs.Views.{AllMet}
use Rattle.qc_core.specs.contracts.server.ServerKept.TheImpl.{ghosts}
use Rattle.qc_core.specs.declared.server_state.ServerState.{ServerState}
use Rattle.qc_serve.specs.declared.session.Session.{Session}
use Rattle.qc_serve.specs.Going.{IsAtRest, as_fixed}
use Rattle.qc_serve.specs.Leaving.{IsApart}

-- the first seat
pub record IsFirst (t : Turn ServerState Event) (o : Options) (s : Seat ServerState Event ghosts) : Type 0 where
  pub seated : IsSeatOf t s
  pub number : (view s).number ≡ 1
  pub fixed : (view s).fixed ≡ as_fixed o

-- a session that goes on, or a seat that was refused one
abbrev pub IsOther : Turn ServerState Event → Result Session (Seat ServerState Event ghosts) → Type 0
IsOther t r = MatchResult r (λ s. IsAtRest t s × (s.end ≡ None)) (λ seat. IsApart t seat)

-- the number of its seat
abbrev pub other_number : Result Session (Seat ServerState Event ghosts) → ℕ
other_number (Ok s) = (view s.seat).number
other_number (Err seat) = (view seat).number

-- the first seat has met the one with this number
abbrev pub HasMet : ℕ → List (Option (MetSeat Event)) → List (Option (MetSeat Event)) → Type 0
HasMet n old new = (kept : MetSeat Event) × (new ≡ slice_set old (n - 2) (Some kept))

-- it has split others off and met them
abbrev pub MeetsMore : List (Option (MetSeat Event)) → List (Option (MetSeat Event)) → Type 0
MeetsMore old new = (more : List (Option (MetSeat Event))) × (new ≡ old ++ more) × AllMet more
