-- Entries leave by an event: a commit on their tables, a prune, a reset, or a fill that gives up.
use Rattle.std.specs.Prelude.{◌≡◌, ℕ, ◌-◌, ◌<◌, Bool, true, false, not, List, [], ◌∷◌, ◌++◌, map, IsPermutation, ◌==◌, Some}
use Rattle.std.specs.List.{list_any, list_all, filter, find, AllByRecursion}
use Rattle.qc_types.specs.declared.names.TableName.{TableName}
use Rattle.qc_sql.specs.declared.tables.RowOp.{RowOp}
use Rattle.qc_sql.specs.Database.{apply}
use Rattle.qc_model.specs.declared.events.Who.{Who}
use Rattle.qc_model.specs.declared.events.Event.{Event}
use Rattle.qc_model.specs.declared.events.Event.TheVariants as event
use Rattle.qc_model.specs.declared.events.GoneWhy.{GoneWhy}
use Rattle.qc_model.specs.Journal.{Journal, operations, present, touches_table}
use Rattle.qc_model.specs.Cache.{Entry, cache, after_event}
use Rattle.qc_model.specs.Session.{answer}
use Rattle.qc_model.specs.Licence.{IsLicensed, region_words}
use Rattle.qc_laws.specs.history.Runs.{IsKept}
use Rattle.qc_laws.specs.sizes.Operations.{is_small_event, is_small_operation}
use Rattle.qc_tiles.specs.declared.blocks.Tile.{Tile}
use Rattle.qc_tiles.specs.declared.blocks.Block.{Block}
use Rattle.qc_tiles.specs.Tiles.{IsTiling, handed_out}
use Rattle.qc_turn.specs.declared.task.Task.TheVariants as task
use Rattle.qc_sound.specs.PlainServer.{PlainServer, StoredEntry, SeatTask, is_stored, is_wanted, listed_tasks}
use Rattle.qc_sound.specs.Moment.{Moment}
use Rattle.qc_sound.specs.Pending.{NeedsOf}
use Rattle.qc_sound.specs.Ended.{ends_fill}
use Rattle.qc_sound.specs.parts.Journal.{reserved}
use Rattle.qc_sound.specs.parts.Directory.{IsStoredAs}
use Rattle.qc_sound.specs.parts.Memory.{TilesAreSound, TablesAreSound, blocks_in_use, pinned_blocks}
use Rattle.qc_sound.specs.Sound.{IsSound}
use Rattle.qc_sound.specs.steps.Events.{OfNone, HasRoom}
use Rattle.qc_sound.specs.steps.Listing.{ListsAlone}

abbrev pub staying : (StoredEntry → Bool) → List StoredEntry → List StoredEntry
staying gone entries = filter (λ x. not (gone x)) entries

-- Entries leave by an event, with these tasks left, and the chains go that no entry and no task is on.
abbrev pub left_with : Event → (StoredEntry → Bool) → List SeatTask → List Tile → List (TableName × Block) → PlainServer → PlainServer
left_with e gone tasks tiles table_blocks s = record s {
  journal = s.journal ++ e ∷ [];
  spare = s.spare - 1;
  database = apply (operations e) s.database;
  entries = staying gone s.entries;
  chains = filter (λ c. is_wanted (staying gone s.entries) tasks c.serial) s.chains;
  table_blocks = table_blocks;
  tiles = tiles;
  tasks = tasks;
}

-- with all tasks left
abbrev pub left : Event → (StoredEntry → Bool) → List Tile → List (TableName × Block) → PlainServer → PlainServer
left e gone tiles table_blocks s = left_with e gone s.tasks tiles table_blocks s

-- The event takes those entries out of the cache that pass a test, and leaves the answers of the others.
pub record TakesOut (moment : Moment) (j : Journal) (e : Event) (gone : StoredEntry → Bool) (off : Entry → Bool) : Type 0 where
  pub after : after_event e (cache j) ≡ filter (λ y. not (off y)) (cache j)
  pub same : (x : StoredEntry) (y : Entry) → IsStoredAs moment.hash x y → gone x ≡ off y
  pub answers : (y : Entry) → not (off y) ≡ true → IsKept j y → answer y.key (present (j ++ e ∷ [])) ≡ answer y.key (present j)

-- The blocks that nobody wants were given back, and none was pinned or unpinned.
pub record GivesBack (m : Moment) (s t : PlainServer) : Type 0 where
  pub tiling : IsTiling (region_words t.options) t.tiles
  pub in_use : IsPermutation (handed_out t.tiles) (m.held ++ blocks_in_use t)
  pub pinned : pinned_blocks t.tiles ≡ pinned_blocks s.tiles
  pub tables : TablesAreSound t

-- room for the event that takes entries out
abbrev pub LeavesRoom : (Entry → Bool) → PlainServer → Type 0
LeavesRoom off s = reserved (filter (λ y. not (off y)) (cache s.journal)) < s.spare

abbrev pub LeaveSteps : Type 0
LeaveSteps = (moment : Moment) (words : List ℕ) (s : PlainServer) (e : Event) (gone : StoredEntry → Bool) (off : Entry → Bool) (tiles : List Tile) (blocks : List (TableName × Block)) → IsSound moment words s → IsLicensed s.options s.journal e
    → is_small_event e ≡ true → NeedsOf s.options moment.next (s.journal ++ e ∷ []) → TakesOut moment s.journal e gone off → ((n : ℕ) → ends_fill n e ≡ false) → OfNone e s.tasks → LeavesRoom off s → GivesBack moment s (left e gone tiles blocks s) → IsSound moment words (left e gone tiles blocks s)

-- ---- a prune, where the needs of the journal allow it

abbrev pub PruneSteps : Type 0
PruneSteps = (moment : Moment) (words : List ℕ) (s : PlainServer) (n need largest : ℕ) (tiles : List Tile) (blocks : List (TableName × Block)) → IsSound moment words s → IsLicensed s.options s.journal (event.Prune n need largest)
    → NeedsOf s.options moment.next (s.journal ++ event.Prune n need largest ∷ []) → GivesBack moment s (left (event.Prune n need largest) (is_stored n) tiles blocks s) → IsSound moment words (left (event.Prune n need largest) (is_stored n) tiles blocks s)

-- ---- a reset

abbrev pub ResetSteps : Type 0
ResetSteps = (moment : Moment) (words : List ℕ) (s : PlainServer) (who : Who) (tiles : List Tile) (blocks : List (TableName × Block)) → IsSound moment words s → IsLicensed s.options s.journal (event.Reset who)
    → NeedsOf s.options moment.next (s.journal ++ event.Reset who ∷ []) → OfNone (event.Reset who) s.tasks → HasRoom s → GivesBack moment s (left (event.Reset who) (λ x. true) tiles blocks s) → IsSound moment words (left (event.Reset who) (λ x. true) tiles blocks s)

-- ---- a commit, of small operations

abbrev pub is_touched : Event → StoredEntry → Bool
is_touched e x = list_any (λ t. touches_table t e) x.tables

abbrev pub committed : Who → List RowOp → List Tile → List (TableName × Block) → PlainServer → PlainServer
committed who ops tiles table_blocks s = left (event.Commit who ops) (is_touched (event.Commit who ops)) tiles table_blocks s

abbrev pub CommitSteps : Type 0
CommitSteps = (moment : Moment) (words : List ℕ) (s : PlainServer) (who : Who) (ops : List RowOp) (tiles : List Tile) (blocks : List (TableName × Block)) → IsSound moment words s → IsLicensed s.options s.journal (event.Commit who ops)
    → list_all is_small_operation ops ≡ true → NeedsOf s.options moment.next (s.journal ++ event.Commit who ops ∷ []) → OfNone (event.Commit who ops) s.tasks → HasRoom s → GivesBack moment s (committed who ops tiles blocks s) → IsSound moment words (committed who ops tiles blocks s)

-- What is listed for the seats stays.
abbrev pub LeavesKeepTasks : Type 0
LeavesKeepTasks = (e : Event) (gone : StoredEntry → Bool) (tiles : List Tile) (blocks : List (TableName × Block)) (s : PlainServer) → listed_tasks (left e gone tiles blocks s) ≡ listed_tasks s

-- ---- a fill that gives its entry up

abbrev pub is_of_seat : ℕ → SeatTask → Bool
is_of_seat seat w = w.seat == seat

abbrev pub without_seat : ℕ → List SeatTask → List SeatTask
without_seat seat tasks = filter (λ w. not (is_of_seat seat w)) tasks

abbrev pub filling : ℕ → ℕ → SeatTask
filling seat n = record { seat = seat; task = task.Fill n }

-- the entry leaves, and with it the task of the seat that filled it
abbrev pub given_up : ℕ → GoneWhy → ℕ → List Tile → List (TableName × Block) → PlainServer → PlainServer
given_up n why seat tiles table_blocks s = left_with (event.Gone n why) (is_stored n) (without_seat seat s.tasks) tiles table_blocks s

abbrev pub GoneSteps : Type 0
GoneSteps = (moment : Moment) (words : List ℕ) (s : PlainServer) (n : ℕ) (why : GoneWhy) (seat : ℕ) (tiles : List Tile) (blocks : List (TableName × Block)) → IsSound moment words s → IsLicensed s.options s.journal (event.Gone n why)
    → NeedsOf s.options moment.next (s.journal ++ event.Gone n why ∷ []) → find (is_of_seat seat) s.tasks ≡ Some (filling seat n)
    → TilesAreSound moment (given_up n why seat tiles blocks s) → TablesAreSound (given_up n why seat tiles blocks s) → IsSound moment words (given_up n why seat tiles blocks s)

abbrev pub GoneLists : Type 0
GoneLists = (s : PlainServer) (n : ℕ) (why : GoneWhy) (seat : ℕ) (tiles : List Tile) (blocks : List (TableName × Block)) → ListsAlone seat task.Rest s (given_up n why seat tiles blocks s)
