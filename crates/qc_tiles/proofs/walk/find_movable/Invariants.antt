use Rattle.std.proofs.Common.{ℕ, ◌-◌}
use Rattle.qc_tiles.specs.Tiles.{region_words}
use Rattle.qc_tiles.specs.Ready.{IsPassed}
use Rattle.qc_tiles.proofs.walk.find_movable.Given as goal

abbrev pub invariant-loop-tile : goal.invariant-loop-tile
invariant-loop-tile l = (k : ℕ) × IsPassed l.places k l.below

abbrev pub decreases-loop-tile : goal.decreases-loop-tile
decreases-loop-tile l = region_words l.places - l.below.first
