use Rattle.std.proofs.Common.{◌≡◌, set, true, false}
use Rattle.qc_tiles.specs.Tiles.{tile, after_pin}
use Rattle.qc_tiles.proofs.Calls.{told_tiling}
use Rattle.qc_tiles.proofs.Changes.{Done, stands_at, pins}
use Rattle.qc_tiles.proofs.tiles.Tiles.pin.Goals.{After-min-self-inside}
use Rattle.qc_tiles.proofs.tiles.Tiles.pin.Goals as goal

pub change-requires : goal.change-requires
change-requires c =
    let p = stands_at c.self.inside.places c.args.block (rw (← c.self.view_is) at c.requires) in
    rw c.used_tile.ensures (p.0, p.1)

done : (c : After-min-self-inside) → Done c.self.inside.words (after_pin true c.args.block.first c.self.inside.places) c.change.new.self c.self.inside.free c.min-self-inside.result
done c =
    let ts = c.self.inside.places in
    let p = stands_at ts c.args.block (rw (← c.self.view_is) at c.requires) in
    let made : c.change.new.self ≡ set ts p.0 (tile c.args.block.first c.args.block.words false true) = (rw c.used_tile.ensures at c.change.ensures) p.0 p.1 in
    pins c.self.inside.words c.self.inside.lowest c.min-self-inside.result p.0 ts c.change.new.self c.self.inside.free c.args.block c.self.invariant p.2 made c.min-self-inside.ensures

pub invariant_of-self : goal.invariant_of-self
invariant_of-self c = (done (goal.at.invariant_of-self c).After-min-self-inside).ready

pub returns-clause-tiles : goal.returns-clause-tiles
returns-clause-tiles c = rw (← c.self.view_is) (done (goal.at.returns-clause-tiles c).After-min-self-inside).tiles

pub returns-clause-tiling : goal.returns-clause-tiling
returns-clause-tiling c =
    rw (← c.self.view_is) (told_tiling c.self.inside.words c.self.inside.places c.change.new.self c.self.invariant.tiling (done (goal.at.returns-clause-tiling c).After-min-self-inside).ready.tiling)
