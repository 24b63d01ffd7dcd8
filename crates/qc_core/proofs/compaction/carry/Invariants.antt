use Rattle.qc_core.specs.Compaction.{HasCarried}
use Rattle.qc_core.proofs.compaction.carry.Given as goal

abbrev pub invariant-loop-index : goal.invariant-loop-index
invariant-loop-index l = HasCarried l.fn.held l.held l.change l.index
