use Rattle.qc_core.proofs.Pinning.{unpinning_on}
use Rattle.qc_core.proofs.chain_pins.unpin_all.Goals as goal

pub loop-index-preserved : goal.loop-index-preserved
loop-index-preserved c = unpinning_on c.args.ranges.now.blocks c.loop-index.index c.block.result c.args.tiles.now c.loop-index.tiles c.unpin.new.self c.block.ensures c.unpin.ensures.tiles c.loop-index.invariant
