use Rattle.qc_core.specs.ChainPins.{IsUnpinning}
use Rattle.qc_core.proofs.chain_pins.unpin_all.Given as goal

abbrev pub invariant-loop-index : goal.invariant-loop-index
invariant-loop-index l = IsUnpinning l.ranges.blocks l.index l.initial.tiles l.tiles
