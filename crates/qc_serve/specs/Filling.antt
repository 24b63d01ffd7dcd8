-- The fill of an entry while the packets of its answer go out.
use Rattle.std.specs.Prelude.{◌≡◌, ◌⊎◌, ℕ, List, ◌++◌, Option, Some, None}
use Rattle.std.specs.List.{concat}
use Rattle.qc_model.specs.declared.events.Event.{Event}
use Rattle.qc_model.specs.declared.events.Event.TheVariants as event
use Rattle.qc_model.specs.declared.events.GoneWhy.{GoneWhy}
use Rattle.qc_model.specs.Journal.{Journal, present}
use Rattle.qc_model.specs.Session.{answer_packets}
use Rattle.qc_laws.specs.history.Runs.{IsStarted}
use Rattle.qc_turn.specs.declared.seat.Seat.{Seat}
use Rattle.qc_turn.specs.declared.view.View.{View}
use Rattle.qc_turn.specs.Seats.{view}
use Rattle.qc_core.specs.contracts.server.ServerKept.TheImpl.{ghosts}
use Rattle.qc_core.specs.declared.server_state.ServerState.{ServerState}
use Rattle.qc_core.specs.OvertakenFill.{IsOvertaken}
use Rattle.qc_flow.specs.declared.fills.Fill.{Fill}
use Rattle.qc_flow.specs.Fills.{IsFillOf}
use Rattle.qc_flow.specs.Seats.{EndsIn, HasEnded}

-- the seat fills the entry; what is stored are packets of its answer at its start, and these come behind them
pub record IsGoing (serial : ℕ) (left : List (List ℕ)) (f : Fill) (s : Seat ServerState Event ghosts) : Type 0 where
  pub serial_is : f.serial ≡ serial
  pub fills : IsFillOf f s
  pub start : IsStarted (view s).seen serial
  pub earlier : List (List ℕ)
  pub packets : answer_packets start.key (present start.earlier) ≡ Some (earlier ++ left)
  pub stored : (view s).content ≡ concat earlier

-- the last event gave the entry up, or a commit or a reset took it out before
abbrev pub IsGone : ℕ → Journal → Type 0
IsGone serial seen = ((why : GoneWhy) × EndsIn (event.Gone serial why) seen) ⊎ ((by : ℕ) × IsOvertaken seen serial by)

-- the fill has ended before its last packet
pub record HasStopped (serial : ℕ) (v : View ServerState Event) : Type 0 where
  pub ended : HasEnded serial v
  pub gone : IsGone serial v.seen

-- the fill goes on, or it has stopped
abbrev pub Fills : ℕ → List (List ℕ) → Option Fill → Seat ServerState Event ghosts → Type 0
Fills serial left (Some f) s = IsGoing serial left f s
Fills serial left None s = HasStopped serial (view s)
