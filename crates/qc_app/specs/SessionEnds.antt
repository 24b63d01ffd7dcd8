-- Seats of sessions that have ended are met.
use Rattle.std.specs.Prelude.{◌≡◌, ◌≢◌, Bool, true, ℕ, ◌+◌, ◌<◌, ◌≤◌, List, ◌++◌, length, map, take, drop, reverse, Option, Some, None, slice_index_or}
use Rattle.std.specs.List.{All, AllZip}
use Rattle.qc_model.specs.declared.events.Event.{Event}
use Rattle.qc_model.specs.declared.reports.Ending.{Ending}
use Rattle.qc_model.specs.declared.reports.SessionReport.{SessionReport}
use Rattle.qc_model.specs.Journal.{Journal}
use Rattle.qc_laws.specs.runs.Runs.{StartsWith}
use Rattle.qc_turn.specs.declared.seat.Seat.{Seat}
use Rattle.qc_turn.specs.declared.turn.Turn.{Turn}
use Rattle.qc_turn.specs.declared.view.MetSeat.{MetSeat}
use Rattle.qc_turn.specs.Seats.{view}
use Rattle.qc_turn.specs.Views.{met_seat}
use Rattle.qc_core.specs.contracts.server.ServerKept.TheImpl.{ghosts}
use Rattle.qc_core.specs.declared.server_state.ServerState.{ServerState}
use Rattle.qc_serve.specs.declared.connecting.Receipt.{Receipt}
use Rattle.qc_serve.specs.Going.{number_of, seen_by}
use Rattle.qc_serve.specs.Leaving.{HasLeft}
use Rattle.qc_app.specs.declared.outcomes.Outcome.{Outcome}
use Rattle.qc_app.specs.declared.sessions.Slot.{Slot}
use Rattle.qc_app.specs.SessionStarts.{IsFirst}

-- the session with this number has ended
pub record MayMeet (t : Turn ServerState Event) (number : ℕ) (s : Slot) : Type 0 where
  pub left : HasLeft t number s.session.seat
  pub ended : s.session.end ≢ None
  pub numbered : number_of s.session ≡ number

-- they have ended, and are numbered from 1
abbrev pub MayBeMet : Turn ServerState Event → List Slot → Type 0
MayBeMet t slots = (i : ℕ) (d : Slot) → i < length slots → MayMeet t (i + 1) (slice_index_or slots i d)

-- what the first seat keeps of one
abbrev pub kept_of : Slot → Option (MetSeat Event)
kept_of s = Some (met_seat (view s.session.seat))

-- the first seat has met them
pub record HasMet (t : Turn ServerState Event) (old new : Seat ServerState Event ghosts) (slots : List Slot) : Type 0 where
  pub first : IsFirst t new
  pub registry : (view new).registry ≡ map kept_of slots ++ drop (length slots) (view old).registry
  pub events : (view new).events ≡ (view old).events
  pub fixed : (view new).fixed ≡ (view old).fixed
  pub seen : (journal : Journal) → StartsWith (view old).seen journal → All (λ s. StartsWith (seen_by s.session) journal) slots → StartsWith (view new).seen journal

-- the receipt of a session
abbrev pub receipt_of : Slot → Receipt
receipt_of s = record { session = number_of s.session; log = s.session.log }

-- the report of a session whose input ends so
abbrev pub report_of : Slot → Ending → SessionReport
report_of s ending = record { session = number_of s.session; lines = s.lines; ending = ending }

-- what a session leaves that has served its input
abbrev pub IsOutcomeOf : Slot → Outcome → Type 0
IsOutcomeOf s outcome = (ending : Ending) × (s.ending ≡ Some ending) × (outcome.report ≡ report_of s ending) × (outcome.receipt ≡ receipt_of s)

-- what sessions leave that have all served their inputs
abbrev pub AreOutcomes : List Slot → List Outcome → Type 0
AreOutcomes slots outcomes = AllZip IsOutcomeOf slots outcomes

-- the first seat has met the last ones of them, and these are left
pub record HasMetBehind (t : Turn ServerState Event) (old now : Seat ServerState Event ghosts) (slots left : List Slot) (served : Bool) (outcomes : List Outcome) : Type 0 where
  pub met : List Slot
  pub parts : slots ≡ left ++ met
  pub first : IsFirst t now
  pub registry : (view now).registry ≡ take (length left) (view old).registry ++ (map kept_of met ++ drop (length slots) (view old).registry)
  pub events : (view now).events ≡ (view old).events
  pub fixed : (view now).fixed ≡ (view old).fixed
  pub seen : (journal : Journal) → StartsWith (view old).seen journal → All (λ s. StartsWith (seen_by s.session) journal) slots → StartsWith (view now).seen journal
  pub count : length outcomes ≤ length met
  pub told : served ≡ true → AreOutcomes met (reverse outcomes)
