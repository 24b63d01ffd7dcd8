use Rattle.std.proofs.Common.{◌≡◌, ◌++◌, length}
use Rattle.qc_chain.specs.Views.{blocks_of}
use Rattle.qc_chain.proofs.walks.push_blocks.Given as goal

abbrev pub invariant-loop-block : goal.invariant-loop-block
invariant-loop-block l = record {
  blocks : l.out.blocks ++ l.walk ≡ blocks_of l.chain l.blocks.lists;
  bytes : l.out.bytes ≡ l.initial.out.bytes;
  room : l.out.room ≡ l.initial.out.room;
}

abbrev pub decreases-loop-block : goal.decreases-loop-block
decreases-loop-block l = length l.walk
