-- The first seat, and those that it makes and meets.
use Rattle.std.specs.Prelude.{◌≡◌, Option, Some, List, [], ◌∷◌, ◌++◌}
use Rattle.qc_turn.specs.declared.kept.Kept.{Ghosts}
use Rattle.qc_turn.specs.declared.seat.Seat.{Seat}
use Rattle.qc_turn.specs.declared.task.Task.TheVariants.{Rest}
use Rattle.qc_turn.specs.declared.turn.Turn.{Turn}
use Rattle.qc_turn.specs.declared.view.MetSeat.{MetSeat}
use Rattle.qc_turn.specs.declared.view.View.{View}
use Rattle.qc_turn.specs.Seats.{IsSeatOf, view}
use Rattle.qc_turn.specs.Views.{AllMet, of_seat}

module _ {V E : Type 0} {K : Ghosts V E} where
  pub record IsFirst (t : Turn V E) (s : Seat V E K) : Type 0 where
    pub seated : IsSeatOf t s
    pub number : (view s).number ≡ 1
    pub rests : (view s).task ≡ Rest

module _ {E : Type 0} where
  -- the seats made meanwhile were met
  pub record MeetsAll (old new : List (Option (MetSeat E))) : Type 0 where
    pub more : List (Option (MetSeat E))
    pub longer : new ≡ old ++ more
    pub met : AllMet more

module _ {V E : Type 0} where
  -- The first seat has no events, and has met the second one when that had these. It has seen what the second had seen.
  pub record HasMet (K : Ghosts V E) (events : List E) (v : View V E) : Type 0 where
    pub registry : v.registry ≡ Some (record { events = events; seen = v.seen }) ∷ []
    pub met : of_seat K 2 v.seen ≡ events
    pub own : v.events ≡ []
