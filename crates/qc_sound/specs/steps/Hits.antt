-- A hit of a complete entry.
use Rattle.std.specs.Prelude.{◌≡◌, ℕ, ◌+◌, ◌-◌, Bool, false, not, List, [], ◌∷◌, ◌++◌, map, ◌==◌, Option, Some, None, Contains, ◌↔◌}
use Rattle.std.specs.List.{list_any, filter, find}
use Rattle.qc_model.specs.declared.events.Who.{Who}
use Rattle.qc_model.specs.declared.events.Event.TheVariants as event
use Rattle.qc_model.specs.declared.events.How.TheVariants as how
use Rattle.qc_model.specs.Licence.{IsLicensed, region_words}
use Rattle.qc_tiles.specs.declared.blocks.Tile.{Tile}
use Rattle.qc_tiles.specs.declared.blocks.Block.{Block}
use Rattle.qc_tiles.specs.Tiles.{IsTiling, handed_out}
use Rattle.qc_turn.specs.declared.task.Task.TheVariants as task
use Rattle.qc_sound.specs.PlainServer.{PlainServer, StoredEntry, SeatTask, session_of, is_stored}
use Rattle.qc_sound.specs.Moment.{Moment}
use Rattle.qc_sound.specs.Pending.{NeedsOf}
use Rattle.qc_sound.specs.parts.Memory.{blocks_of_tasks, pinned_blocks}
use Rattle.qc_sound.specs.parts.Tasks.{IsSeat}
use Rattle.qc_sound.specs.Sound.{IsSound}
use Rattle.qc_sound.specs.steps.Events.{HasRoom}
use Rattle.qc_sound.specs.steps.Listing.{ListsAlone}

-- the entry, changed, at the end of those that are left
abbrev pub moved_stored : ℕ → (StoredEntry → StoredEntry) → Option StoredEntry → List StoredEntry → List StoredEntry
moved_stored n f None entries = entries
moved_stored n f (Some e) entries = filter (λ x. not (is_stored n x)) entries ++ f e ∷ []

abbrev pub used_more : StoredEntry → StoredEntry
used_more e = record e { users = e.users + 1 }

abbrev pub streaming : ℕ → ℕ → SeatTask
streaming seat n = record { seat = seat; task = task.Stream n }

-- The entry goes to the end, with one user more, and the seat streams it.
abbrev pub hit : Who → ℕ → ℕ → List Tile → PlainServer → PlainServer
hit who n seat tiles s = record s {
  journal = s.journal ++ event.Run who (how.Hit n) ∷ [];
  spare = s.spare - 1;
  entries = moved_stored n used_more (find (is_stored n) s.entries) s.entries;
  tasks = s.tasks ++ streaming seat n ∷ [];
  tiles = tiles;
}

-- the event is of the session of this seat, which has no listed task
pub record IsFreeSeat (who : Who) (seat : ℕ) (s : PlainServer) : Type 0 where
  pub number : IsSeat seat
  pub session : who.session ≡ session_of seat
  pub rests : list_any (λ m. m == seat) (map (λ w. w.seat) s.tasks) ≡ false

-- the chain's blocks were pinned
pub record Pins (s t : PlainServer) : Type 0 where
  pub tiling : IsTiling (region_words t.options) t.tiles
  pub same : handed_out t.tiles ≡ handed_out s.tiles
  pub pinned : (b : Block) → Contains (pinned_blocks t.tiles) b ↔ Contains (blocks_of_tasks t) b

abbrev pub HitSteps : Type 0
HitSteps = (moment : Moment) (words : List ℕ) (s : PlainServer) (who : Who) (n seat : ℕ) (tiles : List Tile) → IsSound moment words s → IsLicensed s.options s.journal (event.Run who (how.Hit n))
    → NeedsOf s.options moment.next (s.journal ++ event.Run who (how.Hit n) ∷ []) → HasRoom s → IsFreeSeat who seat s → Pins s (hit who n seat tiles s) → IsSound moment words (hit who n seat tiles s)

abbrev pub HitLists : Type 0
HitLists = (s : PlainServer) (who : Who) (n seat : ℕ) (tiles : List Tile) → IsFreeSeat who seat s → ListsAlone seat (task.Stream n) s (hit who n seat tiles s)
