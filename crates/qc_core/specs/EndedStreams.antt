-- The streams are struck off that other seats have ended.
use Rattle.std.specs.Prelude.{◌≡◌, ◌≢◌, ℕ, ◌≤◌, Bool, true, false, List, [], ◌∷◌, ◌++◌, length, take, slice_get, Option, Some, None, ◌==◌, if◌then◌else◌}
use Rattle.std.specs.List.{list_any, find, AllByRecursion}
use Rattle.qc_turn.specs.declared.kept.Kept.{Ghosts}
use Rattle.qc_turn.specs.declared.view.FoundWord.{FoundWord}
use Rattle.qc_turn.specs.declared.view.Holding.TheVariants.{Holds}
use Rattle.qc_turn.specs.Tasks.{listed_for, is_stream}
use Rattle.qc_turn.specs.Views.{with_holding, with_found}
use Rattle.qc_turn.specs.Seats.{Held, holder, words, taken}
use Rattle.qc_core.specs.declared.server_state.RunningTask.{RunningTask}
use Rattle.qc_core.specs.declared.server_state.ServerState.{ServerState}
use Rattle.qc_core.specs.Whole.{tasks_of}
use Rattle.qc_core.specs.TaskEnd.{is_of, rested}

abbrev pub has_stream : Option RunningTask → Bool
has_stream None = false
has_stream (Some w) = is_stream w.task

-- the seat of a stream
abbrev pub stream_seat : Option RunningTask → Option ℕ
stream_seat None = None
stream_seat (Some w) = if is_stream w.task then Some w.seat else None

-- a stream is listed for the seat
abbrev pub streams : ℕ → ServerState → Bool
streams seat s = has_stream (find (is_of seat) s.tasks.items)

-- The streams struck off whose seats' words were found at 0. The word that was read last stands first.
abbrev pub swept : List FoundWord → ServerState → ServerState
swept [] s = s
swept (f ∷ fs) s = if f.set then swept fs s else rested f.seat (swept fs s)

-- these words were read, each of another seat for which a stream is listed, and that of each such seat
pub record ReadsStreams (own : ℕ) (s : ServerState) (found : List FoundWord) : Type 0 where
  pub each : AllByRecursion (λ f. (f.seat ≢ own) × (streams f.seat s ≡ true)) found
  pub all : (n : ℕ) → n ≢ own → streams n s ≡ true → list_any (λ f. f.seat == n) found ≡ true

-- with one seat read
pub record ReadsOne (own seat : ℕ) (s : ServerState) (found : List FoundWord) : Type 0 where
  pub each : AllByRecursion (λ f. (f.seat ≡ seat) × (f.seat ≢ own) × (streams f.seat s ≡ true)) found
  pub all : seat ≢ own → streams seat s ≡ true → list_any (λ f. f.seat == seat) found ≡ true

-- with the task at one place of the list read; those in front of it stay
pub record ReadsAt (own index : ℕ) (old new : ServerState) (found : List FoundWord) : Type 0 where
  pub work : RunningTask
  pub at : slice_get old.tasks.items index ≡ Some work
  pub reads : ReadsOne own work.seat old found
  pub front : take index new.tasks.items ≡ take index old.tasks.items

-- with the tasks behind the first few read
pub record ReadsBehind (own index : ℕ) (old new : ServerState) (found : List FoundWord) : Type 0 where
  pub within : index ≤ length new.tasks.items
  pub front : take index new.tasks.items ≡ take index old.tasks.items
  pub each : AllByRecursion (λ f. (f.seat ≢ own) × (streams f.seat old ≡ true)) found
  pub all : (n : ℕ) → n ≢ own → streams n old ≡ true → find (is_of n) (take index old.tasks.items) ≡ None → list_any (λ f. f.seat == n) found ≡ true

module _ {V E : Type 0} {K : Ghosts V E} where
  -- the same holding, in which these words were read
  pub record Finds (h k : Held V E K) (found : List FoundWord) : Type 0 where
    pub seat : k.seat.ghost_name ≡ h.seat.ghost_name
    pub turn : k.turn.now ≡ h.turn.now
    pub holder : holder k ≡ with_found (with_holding (holder h) (Holds (taken h) (words k))) (found ++ (holder h).found)
    pub ranges : k.ranges ≡ h.ranges

-- What the words told was done, and all else stays: also what is listed for the own seat, and the task of each seat whose word wasn't read.
pub record IsSwept (own : ℕ) (old new : ServerState) (found : List FoundWord) : Type 0 where
  pub value : new ≡ swept found old
  pub journal : new.journal ≡ old.journal
  pub options : new.options ≡ old.options
  pub connected : new.connected ≡ old.connected
  pub listed : listed_for own (tasks_of new) ≡ listed_for own (tasks_of old)
  pub stays : (n : ℕ) → list_any (λ f. f.seat == n) found ≡ false → find (is_of n) new.tasks.items ≡ find (is_of n) old.tasks.items
