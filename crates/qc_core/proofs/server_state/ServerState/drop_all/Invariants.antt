use Rattle.std.proofs.Common.{List, ℕ, length}
use Rattle.qc_core.specs.EntriesCut.{HasSoundBlocks, LeaveInTurn}
use Rattle.qc_core.proofs.server_state.ServerState.drop_all.Given as goal

abbrev pub invariant-loop-serial : goal.invariant-loop-serial
invariant-loop-serial l = HasSoundBlocks l.self × ((serials : List ℕ) × LeaveInTurn serials l.fn.self l.self)

abbrev pub decreases-loop-serial : goal.decreases-loop-serial
decreases-loop-serial l = length l.self.dir.entries
