use Rattle.qc_core.proofs.Pinning.{pinning_on}
use Rattle.qc_core.proofs.chain_pins.pin_all.Goals as goal

pub loop-index-preserved : goal.loop-index-preserved
loop-index-preserved c = pinning_on c.args.ranges.now.blocks c.loop-index.index c.block.result c.args.tiles.now c.loop-index.tiles c.pin.new.self c.block.ensures c.pin.ensures.tiles c.loop-index.invariant
