use Rattle.qc_tiles.specs.Tiles.{handed_out}
use Rattle.qc_core.proofs.Compacting.{firsts}
use Rattle.qc_core.proofs.Flushing.{Compacts}
use Rattle.qc_core.proofs.compaction.compact.Given as goal

abbrev pub invariant-loop-change : goal.invariant-loop-change
invariant-loop-change l = Compacts l.fn.held l.held

abbrev pub decreases-loop-change : goal.decreases-loop-change
decreases-loop-change l = firsts (handed_out l.held.value.tiles)
