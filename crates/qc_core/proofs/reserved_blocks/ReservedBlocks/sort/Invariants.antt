use Rattle.std.proofs.Common.{length}
use Rattle.qc_core.proofs.Sorting.{IsSorting}
use Rattle.qc_core.proofs.reserved_blocks.ReservedBlocks.sort.Given as goal

abbrev pub invariant-loop-item : goal.invariant-loop-item
invariant-loop-item l = IsSorting l.fn.self l.fn.freed l.fn.tiles l.self l.freed l.tiles

abbrev pub decreases-loop-item : goal.decreases-loop-item
decreases-loop-item l = length l.freed
