use Rattle.std.proofs.Common.{◌≡◌, ◌<◌, length}
use Rattle.qc_chain.specs.Words.{words_of, word_at}
use Rattle.qc_chain.specs.Views.{blocks_of}
use Rattle.qc_chain.proofs.walks.place_of.Given as goal

abbrev pub invariant-loop-block : goal.invariant-loop-block
invariant-loop-block l = record {
  within : l.left < words_of l.walk;
  place : word_at l.left l.walk ≡ word_at l.word (blocks_of l.chain l.blocks.lists);
}

abbrev pub decreases-loop-block : goal.decreases-loop-block
decreases-loop-block l = length l.walk
