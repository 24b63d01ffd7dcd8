-- What SHOW STATUS is told.
use Rattle.std.specs.Prelude.{◌≡◌, ℕ, length}
use Rattle.qc_types.specs.declared.totals.Totals.{Totals}
use Rattle.qc_model.specs.declared.events.Who.{Who}
use Rattle.qc_model.specs.declared.events.Counters.{Counters}
use Rattle.qc_model.specs.declared.events.Event.TheVariants as event
use Rattle.qc_model.specs.declared.events.How.TheVariants as how
use Rattle.qc_model.specs.Cache.{counters}
use Rattle.qc_tiles.specs.Tiles.{totals_of}
use Rattle.qc_core.specs.declared.server_state.ServerState.{ServerState}
use Rattle.qc_core.specs.Whole.{with_event}

-- The place of the event, the counters there, and the totals of the blocks; nothing but the event was added.
pub record TellsStatus (who : Who) (old new : ServerState) (told : ℕ × Counters × Totals) : Type 0 where
  pub server : new ≡ with_event (event.Run who (how.Status told.2)) old
  pub place : told.0 ≡ length new.journal.events
  pub counts : told.1 ≡ counters new.journal.events
  pub totals : told.2 ≡ totals_of old.tiles
