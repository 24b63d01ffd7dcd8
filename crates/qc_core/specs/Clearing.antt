-- All entries leave.
use Rattle.std.specs.Prelude.{◌≡◌, ℕ, List, []}
use Rattle.qc_model.specs.declared.events.Who.{Who}
use Rattle.qc_model.specs.declared.events.Event.TheVariants as event
use Rattle.qc_core.specs.declared.server_state.ServerState.{ServerState}
use Rattle.qc_core.specs.Whole.{with_event}
use Rattle.qc_core.specs.EntriesCut.{LeaveInTurn}

-- entries left one after another, until none was there
pub record IsEmptied (old new : ServerState) : Type 0 where
  pub serials : List ℕ
  pub left : LeaveInTurn serials old new
  pub none : new.dir.entries ≡ []

-- and then the event was added
pub record IsReset (who : Who) (old new : ServerState) : Type 0 where
  pub mid : ServerState
  pub emptied : IsEmptied old mid
  pub server : new ≡ with_event (event.Reset who) mid
