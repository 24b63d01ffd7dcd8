-- The fifth part of soundness: the connected seats, and the tasks that are listed.
use Rattle.std.specs.Prelude.{◌≡◌, ℕ, ◌<◌, ◌≤◌, Bool, true, false, List, map, count_by, Option, Some, IsSomeAnd, IfSome, ◌==◌}
use Rattle.std.specs.List.{AllByRecursion}
use Rattle.qc_model.specs.declared.events.Event.{Event}
use Rattle.qc_model.specs.Journal.{Journal, last_event}
use Rattle.qc_model.specs.Licence.{hit_by, starts_serial}
use Rattle.qc_laws.specs.history.Runs.{are_distinct}
use Rattle.qc_turn.specs.declared.task.Task.{Task}
use Rattle.qc_turn.specs.declared.task.Task.TheVariants as task
use Rattle.qc_turn.specs.Words.{word_seats}
use Rattle.qc_sound.specs.PlainServer.{PlainServer, EntryChain, SeatTask, session_of, serial_of, has_chain}
use Rattle.qc_sound.specs.Ended.{is_ended}

abbrev pub is_fill_of : ℕ → Task → Bool
is_fill_of n (task.Fill m) = m == n
is_fill_of n _ = false

abbrev pub is_stream_of : ℕ → Task → Bool
is_stream_of n (task.Stream m) = m == n
is_stream_of n _ = false

-- a seat's number is from 1 to 65
pub record IsSeat (n : ℕ) : Type 0 where
  pub low : 0 < n
  pub high : n ≤ word_seats

abbrev pub HitsSerial : ℕ → Option Event → Type 0
HitsSerial n e = IsSomeAnd e (λ x. hit_by x ≡ Some n)

-- a stream is of a session whose last event hit the entry, and a fill of one whose last event started it, and the fill hasn't ended
abbrev pub TaskIsSound : Journal → ℕ → Task → Type 0
TaskIsSound journal seat task.Rest = ⊥
TaskIsSound journal seat (task.Stream n) = HitsSerial n (last_event journal (session_of seat))
TaskIsSound journal seat (task.Fill n) = (starts_serial n (last_event journal (session_of seat)) ≡ true) × (is_ended n journal ≡ false)

pub record SeatTaskIsSound (journal : Journal) (chains : List EntryChain) (w : SeatTask) : Type 0 where
  pub seat : IsSeat w.seat
  pub task : TaskIsSound journal w.seat w.task
  -- what it streams or fills has a chain
  pub chained : IfSome (serial_of w.task) (λ n. has_chain n chains ≡ true)

pub record TasksAreSound (s : PlainServer) : Type 0 where
  -- those that are connected are seats
  pub connected : AllByRecursion IsSeat s.connected
  -- no seat has two tasks
  pub one_each : are_distinct (map (λ w. w.seat) s.tasks) ≡ true
  pub each : AllByRecursion (SeatTaskIsSound s.journal s.chains) s.tasks
  -- an entry that isn't complete is filled by one seat
  pub filled : AllByRecursion (λ e. e.complete ≡ false → count_by (λ w. is_fill_of e.serial w.task) s.tasks ≡ 1) s.entries
  -- an entry's users are the streams on it
  pub users : AllByRecursion (λ e. e.users ≡ count_by (λ w. is_stream_of e.serial w.task) s.tasks) s.entries
