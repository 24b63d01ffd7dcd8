use Rattle.qc_core.specs.ChainPins.{IsPinning}
use Rattle.qc_core.proofs.chain_pins.pin_all.Given as goal

abbrev pub invariant-loop-index : goal.invariant-loop-index
invariant-loop-index l = IsPinning l.ranges.blocks l.index l.initial.tiles l.tiles
