-- A task is struck off without an event: a stream that has ended, or a fill whose entry has left. Seats connect and leave.
use Rattle.std.specs.Prelude.{◌≡◌, ◌≢◌, ℕ, ◌-◌, ◌⊎◌, false, List, map, filter, Some, if◌then◌else◌}
use Rattle.std.specs.List.{list_any, find, AllByRecursion}
use Rattle.qc_tiles.specs.declared.blocks.Tile.{Tile}
use Rattle.qc_turn.specs.declared.task.Task.TheVariants as task
use Rattle.qc_sound.specs.PlainServer.{PlainServer, StoredEntry, SeatTask, is_stored, is_wanted}
use Rattle.qc_sound.specs.Moment.{Moment}
use Rattle.qc_sound.specs.parts.Memory.{TilesAreSound}
use Rattle.qc_sound.specs.parts.Tasks.{IsSeat}
use Rattle.qc_sound.specs.Sound.{IsSound}
use Rattle.qc_sound.specs.steps.Listing.{ListsAlone}
use Rattle.qc_sound.specs.steps.Leaving.{is_of_seat, without_seat}

abbrev pub used_less : StoredEntry → StoredEntry
used_less e = record e { users = e.users - 1 }

-- the entry with a serial, where it stands, has one user less
abbrev pub left_by_user : ℕ → List StoredEntry → List StoredEntry
left_by_user n entries = map (λ e. if is_stored n e then used_less e else e) entries

-- The seat's task on a serial is struck off. Its chain goes where neither an entry nor another task is on it.
abbrev pub struck_off : ℕ → ℕ → List Tile → PlainServer → PlainServer
struck_off seat n tiles s = record s {
  entries = left_by_user n s.entries;
  chains = filter (λ c. is_wanted (left_by_user n s.entries) (without_seat seat s.tasks) c.serial) s.chains;
  tiles = tiles;
  tasks = without_seat seat s.tasks;
}

-- it streams the entry, or fills one that has left
abbrev pub MayEnd : ℕ → ℕ → PlainServer → Type 0
MayEnd seat n s =
    (find (is_of_seat seat) s.tasks ≡ Some (record { seat = seat; task = task.Stream n }))
    ⊎ ((find (is_of_seat seat) s.tasks ≡ Some (record { seat = seat; task = task.Fill n })) × (list_any (is_stored n) s.entries ≡ false))

abbrev pub StrikeSteps : Type 0
StrikeSteps = (moment : Moment) (words : List ℕ) (s : PlainServer) (seat n : ℕ) (tiles : List Tile) → IsSound moment words s → MayEnd seat n s
    → TilesAreSound moment (struck_off seat n tiles s) → IsSound moment words (struck_off seat n tiles s)

abbrev pub StrikeLists : Type 0
StrikeLists = (s : PlainServer) (seat n : ℕ) (tiles : List Tile) → ListsAlone seat task.Rest s (struck_off seat n tiles s)

-- ---- seats

abbrev pub with_connected : List ℕ → PlainServer → PlainServer
with_connected seats s = record s { connected = seats }

abbrev pub SeatSteps : Type 0
SeatSteps = (moment : Moment) (words : List ℕ) (s : PlainServer) (seats : List ℕ) → IsSound moment words s → AllByRecursion IsSeat seats → IsSound moment words (with_connected seats s)
