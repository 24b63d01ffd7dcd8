use Rattle.std.proofs.Common.{◌≡◌, ◌+◌, length}
use Rattle.qc_tiles.specs.Tiles.{IsTiling, region_words}
use Rattle.qc_chain.specs.Chains.{AreHandedOut, after_release}
use Rattle.qc_chain.specs.Views.{blocks_of, KeepsOthers}
use Rattle.qc_chain.proofs.walks.give_back_all.Given as goal

abbrev pub invariant-loop-block : goal.invariant-loop-block
invariant-loop-block l = record {
  others : KeepsOthers l.chain l.initial.blocks.lists l.blocks.lists;
  lists : length l.blocks.lists ≡ length l.initial.blocks.lists;
  room : l.blocks.room + length (blocks_of l.chain l.blocks.lists) ≡ l.initial.blocks.room + length (blocks_of l.chain l.initial.blocks.lists);
  tiles : after_release (blocks_of l.chain l.blocks.lists) l.tiles ≡ after_release (blocks_of l.chain l.initial.blocks.lists) l.initial.tiles;
  tiling : IsTiling (region_words l.initial.tiles) l.tiles;
  handed_out : AreHandedOut l.tiles (blocks_of l.chain l.blocks.lists);
}

abbrev pub decreases-loop-block : goal.decreases-loop-block
decreases-loop-block l = length (blocks_of l.chain l.blocks.lists)
