-- A block is allocated, after as many prunes as that takes.
use Rattle.std.specs.Prelude.{◌≡◌, ℕ, zero, suc, ◌+◌, ◌<◌, ◌≤◌, List, [], ◌∷◌, length, Some, None}
use Rattle.std.specs.List.{AllByRecursion}
use Rattle.qc_types.specs.declared.names.TableName.{TableName}
use Rattle.qc_types.specs.Blocks.{least_block}
use Rattle.qc_model.specs.declared.events.Event.TheVariants as event
use Rattle.qc_model.specs.Licence.{unit_words}
use Rattle.qc_model.specs.Needs.{PruneHasNeed}
use Rattle.qc_tiles.specs.declared.blocks.Block.{Block}
use Rattle.qc_tiles.specs.declared.blocks.NoTile.{NoTile}
use Rattle.qc_tiles.specs.Tiles.{taken, after_take, largest_free}
use Rattle.qc_dir.specs.Directory.{oldest_idle}
use Rattle.qc_sound.specs.Moment.{Moment}
use Rattle.qc_core.specs.declared.server_state.ServerState.{ServerState}
use Rattle.qc_core.specs.Whole.{Named, IsWhole, tasks_of, with_event}
use Rattle.qc_core.specs.EntryRemoval.{MayLeave, LeavesBut}

-- One entry was pruned: no free block held the need, the least recently used entry that is complete and without users went, and its event has the need
-- and the largest free block as that was. Its blocks were given back, but for those of these tables, which a start keeps for its own. Nothing else
-- changed, and what is listed for each seat stays.
pub record Prunes (tables : List TableName) (need : ℕ) (old new : ServerState) : Type 0 where
  pub small : largest_free old.tiles < need
  pub serial : ℕ
  pub oldest : oldest_idle old.dir.entries ≡ Some serial
  pub may : MayLeave serial old
  pub mid : ServerState
  pub left : LeavesBut tables serial may.entry may.held old mid
  pub server : new ≡ with_event (event.Prune serial need (largest_free old.tiles)) mid
  pub tasks : tasks_of new ≡ tasks_of old

-- so many entries were, one after another
abbrev pub PrunesMany : List TableName → ℕ → ℕ → ServerState → ServerState → Type 0
PrunesMany tables need zero old new = new ≡ old
PrunesMany tables need (suc k) old new = (mid : ServerState) × PrunesMany tables need k old mid × Prunes tables need mid new

-- no free block holds the need, and no entry is left that is complete and without users
pub record LacksTile (need : ℕ) (s : ServerState) (e : NoTile) : Type 0 where
  pub answer : e ≡ record { need = need; largest = largest_free s.tiles }
  pub small : largest_free s.tiles < need
  pub none : oldest_idle s.dir.entries ≡ None
