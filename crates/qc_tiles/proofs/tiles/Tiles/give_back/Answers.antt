use Rattle.std.proofs.Common.{◌≡◌, set, ◌∙◌, ap, min}
use Rattle.qc_tiles.specs.Tiles.{free_tile, after_give_back}
use Rattle.qc_tiles.specs.Settled.{IsHole}
use Rattle.qc_tiles.proofs.Holes.{hole_given}
use Rattle.qc_tiles.proofs.Calls.{told_tiling}
use Rattle.qc_tiles.proofs.Changes.{Done, stands_at, gives_back}
use Rattle.qc_tiles.proofs.tiles.Tiles.give_back.Goals.{After-min-self-inside}
use Rattle.qc_tiles.proofs.tiles.Tiles.give_back.Goals as goal

pub change-requires : goal.change-requires
change-requires c =
    let p = stands_at c.self.inside.places c.args.block (rw (← c.self.view_is) at c.requires) in
    rw c.free_tile.ensures (p.0, p.1)

pub settle-whole-requires : goal.settle-whole-requires
settle-whole-requires c =
    let ts = c.self.inside.places in
    let p = stands_at ts c.args.block (rw (← c.self.view_is) at c.requires) in
    let mid : c.change.new.self ≡ set ts p.0 (free_tile c.args.block.first c.args.block.words) = (rw c.free_tile.ensures at c.change.ensures) p.0 p.1 in
    rw mid (c.self.inside.words, p.0, hole_given c.self.inside.words ts c.self.inside.free c.args.block p.0 c.self.invariant.tiling c.self.invariant.region c.self.invariant.indexed p.2)

done : (c : After-min-self-inside) → Done c.self.inside.words (after_give_back c.args.block.first c.self.inside.places) c.settle-whole.new.places c.settle-whole.new.free c.min-self-inside.result
done c =
    let ts = c.self.inside.places in
    let words = c.self.inside.words in
    let p = stands_at ts c.args.block (rw (← c.self.view_is) at c.requires) in
    let mid : c.change.new.self ≡ set ts p.0 (free_tile c.args.block.first c.args.block.words) = (rw c.free_tile.ensures at c.change.ensures) p.0 p.1 in
    let hole : IsHole words c.change.new.self c.self.inside.free c.args.block p.0 = rw mid (hole_given words ts c.self.inside.free c.args.block p.0 c.self.invariant.tiling c.self.invariant.region c.self.invariant.indexed p.2) in
    let low = c.min-self-inside.ensures ∙ ap (λ m. min m c.settle-whole.result.first) c.min.ensures in
    gives_back words c.self.inside.lowest c.min-self-inside.result p.0 ts c.change.new.self c.settle-whole.new.places c.self.inside.free c.settle-whole.new.free c.args.block c.settle-whole.result c.self.invariant p.2 mid (c.settle-whole.ensures words p.0 hole) low

pub invariant_of-self : goal.invariant_of-self
invariant_of-self c = (done (goal.at.invariant_of-self c).After-min-self-inside).ready

pub returns-clause-tiles : goal.returns-clause-tiles
returns-clause-tiles c = rw (← c.self.view_is) (done (goal.at.returns-clause-tiles c).After-min-self-inside).tiles

pub returns-clause-tiling : goal.returns-clause-tiling
returns-clause-tiling c =
    rw (← c.self.view_is) (told_tiling c.self.inside.words c.self.inside.places c.settle-whole.new.places c.self.invariant.tiling (done (goal.at.returns-clause-tiling c).After-min-self-inside).ready.tiling)
