use Rattle.qc_model.specs.Cache.{cache}
use Rattle.qc_sound.specs.parts.Journal.{reserved}
use Rattle.qc_core.specs.Allocation.{MayTakeOne}
use Rattle.qc_core.proofs.Searching.{GoesOn}
use Rattle.qc_core.proofs.server_state.ServerState.prune.Given as goal

abbrev pub invariant-loop-self : goal.invariant-loop-self
invariant-loop-self l = (u : MayTakeOne l.need l.fn.hand l.fn.self) → GoesOn l.need l.fn.hand l.hand l.fn.self l.self u

abbrev pub decreases-loop-self : goal.decreases-loop-self
decreases-loop-self l = reserved (cache l.self.journal.events)
