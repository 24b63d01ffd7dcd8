use Rattle.std.proofs.Common.{◌≡◌, ◌+◌, map}
use Rattle.qc_chain.specs.Filed.{IsFiled}
use Rattle.qc_chain.specs.Listed.{place_home, moved_in, blocks_at}
use Rattle.qc_chain.proofs.block_lists.move_all.Given as goal

abbrev pub invariant-loop-change : goal.invariant-loop-change
invariant-loop-change l = record {
  slots : map (moved_in l.change) l.slots ≡ map (moved_in l.change) l.initial.slots;
  placed : IsFiled (place_home l.mask) (l.mask + 2) l.slots l.by_place;
}

abbrev pub decreases-loop-change : goal.decreases-loop-change
decreases-loop-change l = blocks_at l.change.from l.slots
