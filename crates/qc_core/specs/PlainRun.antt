-- A SELECT runs plain.
use Rattle.qc_model.specs.declared.events.Who.{Who}
use Rattle.qc_model.specs.declared.events.Reason.{Reason}
use Rattle.qc_model.specs.declared.events.Reason.TheVariants as reason
use Rattle.qc_model.specs.Licence.{MayHaveReason}
use Rattle.qc_core.specs.declared.server_state.ServerState.{ServerState}

-- The session's next run may have this reason. Want of room is found by a start alone.
abbrev pub MayRunPlain : ServerState → Who → Reason → Type 0
MayRunPlain s who (reason.NoRoom need largest) = ⊥
MayRunPlain s who why = MayHaveReason s.options s.journal.events who why
