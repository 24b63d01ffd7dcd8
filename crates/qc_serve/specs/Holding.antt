-- A session takes the turn for one request, and gives it back with a task.
use Rattle.std.specs.Prelude.{◌≡◌, ℕ, ◌+◌, ◌<◌, ◌≤◌, true, false, List, Result, Ok, Err, length}
use Rattle.qc_model.specs.declared.events.Event.{Event}
use Rattle.qc_model.specs.declared.events.Who.{Who}
use Rattle.qc_model.specs.Journal.{Journal, events_of}
use Rattle.qc_laws.specs.history.Runs.{IsStarted}
use Rattle.qc_turn.specs.declared.seat.Seat.{Seat}
use Rattle.qc_turn.specs.declared.task.Task.{Task}
use Rattle.qc_turn.specs.declared.task.Task.TheVariants as task
use Rattle.qc_turn.specs.declared.turn.Turn.{Turn}
use Rattle.qc_turn.specs.Seats.{Held, IsSeatOf, MayRelease, holder, view, with_ranges, words}
use Rattle.qc_turn.specs.Tasks.{is_stream, listed_for, own}
use Rattle.qc_turn.specs.Views.{after_release, with_word_set}
use Rattle.qc_turn.specs.Words.{word_seats}
use Rattle.qc_core.specs.contracts.server.ServerKept.TheImpl.{ghosts}
use Rattle.qc_core.specs.declared.server_state.ServerState.{ServerState}
use Rattle.qc_core.specs.Connection.{is_connected}
use Rattle.qc_core.specs.Whole.{tasks_of}
use Rattle.qc_serve.specs.Seats.{Decides, IsIdle, IsReady, IsSameSeat, next_of}

-- ---- the seat

-- where a session stands when it asks: what it has seen, what no holding changes, and the room for ranges
pub record Standing : Type 0 where
  pub session : ℕ
  pub seen : Journal
  pub fixed : List ℕ
  pub room : ℕ

abbrev pub standing_at : ℕ → Seat ServerState Event ghosts → Standing
standing_at session s = record { session = session; seen = (view s).seen; fixed = (view s).fixed; room = s.ranges.room }

abbrev pub standing_in : ℕ → Held ServerState Event ghosts → Standing
standing_in session h = record { session = session; seen = (holder h).seen; fixed = (holder h).fixed; room = h.ranges.room }

-- the seat of a connected session has this task, and what it knows of its own events is what it has seen
pub record HasTask (t : Turn ServerState Event) (session : ℕ) (x : Task) (s : Seat ServerState Event ghosts) : Type 0 where
  pub seated : IsSeatOf t s
  pub number : (view s).number ≡ session + 1
  pub few : session + 1 ≤ word_seats
  pub task : (view s).task ≡ x
  pub connected : (view s).connected ≡ true
  pub events : (view s).events ≡ events_of session (view s).seen

-- it has this task now, with the options, the seats split off and the room for ranges that it had
pub record TurnsTo (t : Turn ServerState Event) (session : ℕ) (x : Task) (old new : Seat ServerState Event ghosts) : Type 0 where
  pub has : HasTask t session x new
  pub fixed : (view new).fixed ≡ (view old).fixed
  pub registry : (view new).registry ≡ (view old).registry
  pub room : new.ranges.room ≡ old.ranges.room

-- ---- under the turn

-- the turn was just taken by the seat of a session that rested
pub record IsTaken (session : ℕ) (h : Held ServerState Event ghosts) : Type 0 where
  pub idle : IsIdle session h
  pub rested : (holder h).task ≡ task.Rest
  pub known : (holder h).fixed ≡ ghosts.fixed h.value
  pub few : (holder h).number ≤ word_seats

-- the same seat may push its next event
pub record IsPrepared (who : Who) (h : Held ServerState Event ghosts) : Type 0 where
  pub ready : IsReady who h
  pub rested : (holder h).task ≡ task.Rest
  pub known : (holder h).fixed ≡ ghosts.fixed h.value
  pub few : (holder h).number ≤ word_seats

-- an entry that is to be filled was started
abbrev pub HasBegun : Task → Journal → Type 0
HasBegun (task.Fill n) journal = IsStarted journal n
HasBegun _ journal = Unit {0}

-- it may give the turn back and go on with this task
pub record MayGoOn (x : Task) (h : Held ServerState Event ghosts) : Type 0 where
  pub stands : MayRelease h
  pub seated : 0 < (holder h).number
  pub few : (holder h).number ≤ word_seats
  pub unset : (holder h).word_set ≡ false
  pub rested : (holder h).task ≡ task.Rest
  pub listed : listed_for (holder h).number (tasks_of h.value) ≡ own (holder h).number x h.ranges.blocks
  pub begun : HasBegun x h.value.journal.events
  pub connected : is_connected (holder h).number h.value ≡ true

-- the seat gave this holding back, and went on with the task
pub record IsReleased (x : Task) (k : Held ServerState Event ghosts) (s : Seat ServerState Event ghosts) : Type 0 where
  pub may : MayGoOn x k
  pub view : view s ≡ after_release ghosts (with_word_set (holder k) (is_stream x)) k.value (words k)
  pub ranges : s.ranges ≡ k.ranges

-- the seat is the same but for its ranges, which have as much room, and may go on with this task
pub record TurnsHeld (x : Task) (h k : Held ServerState Event ghosts) : Type 0 where
  pub may : MayGoOn x k
  pub same : IsSameSeat h (with_ranges k h.ranges)
  pub room : k.ranges.room ≡ h.ranges.room

-- ---- a request

-- what it goes on with, as the decision says, or where memory lacked
abbrev pub next_task : {A E : Type 0} → Result (A × Task) E → Task
next_task (Ok r) = r.1
next_task (Err e) = task.Rest

-- the task of a seat whose request was answered, or for which memory lacked
abbrev pub task_left : {A E : Type 0} → (A → Task) → Result A E → Task
task_left leaves (Ok a) = leaves a
task_left leaves (Err e) = task.Rest

-- the request pushed one event, which stands at this place, and of which this is so by the journal before it
pub record HasOne (s : Standing) (at : ℕ) (now : Journal) (IsSo : Journal → Event → Type 0) : Type 0 where
  pub place : at ≡ length now
  pub decides : Decides s.session s.seen now IsSo

abbrev pub next_in : Standing → Who
next_in s = next_of s.session s.seen
