use Rattle.std.proofs.Common.{◌≡◌, set, sym, ◌∙◌, ap, false, Some, None}
use Rattle.qc_tiles.specs.declared.blocks.Tile.{Tile}
use Rattle.qc_tiles.specs.Tiles.{tile, after_pin}
use Rattle.qc_tiles.proofs.Calls.{told_tiling}
use Rattle.qc_tiles.proofs.Changes.{Done, stands_at, unpins, same_some}
use Rattle.qc_tiles.proofs.tiles.Tiles.unpin.Goals as goal
use Rattle.qc_tiles.proofs.tiles.Tiles.unpin.Goals.{After-min-self-inside, in-Some, in-None}

pub before-requires : goal.before-requires
before-requires c = let p = stands_at c.self.inside.places c.args.block (rw (← c.self.view_is) at c.requires) in (p.0, p.1)

pub change-requires : goal.change-requires
change-requires c =
    let p = stands_at c.self.inside.places c.args.block (rw (← c.self.view_is) at c.requires) in
    rw c.used_tile.ensures (p.0, p.1)

done : (c : After-min-self-inside) → Done c.self.inside.words (after_pin false c.args.block.first c.self.inside.places) c.change.new.self c.self.inside.free c.min-self-inside.result
done c =
    let ts = c.self.inside.places in
    let words = c.self.inside.words in
    let p = stands_at ts c.args.block (rw (← c.self.view_is) at c.requires) in
    let made : c.change.new.self ≡ set ts p.0 (tile c.args.block.first c.args.block.words false false) = (rw c.used_tile.ensures at c.change.ensures) p.0 p.1 in
    let none : c.before-2.result ≡ None → c.match-before.from ≡ c.args.block.first = (λ e. elim c.match-before.branch [ in-Some w ↦ absurd (cc (sym e ∙ w.in-Some.is)) | in-None w ↦ w.from-is ]) in
    let some : (t : Tile) → c.before-2.result ≡ Some t → c.match-before.from ≡ t.first = (λ t e. elim c.match-before.branch [ in-Some w ↦ w.from-is ∙ ap (λ (x : Tile). x.first) (same_some w.in-Some.lower t (sym w.in-Some.is ∙ e)) | in-None w ↦ absurd (cc (sym e ∙ w.in-None.is)) ]) in
    unpins words c.self.inside.lowest c.min-self-inside.result p.0 ts c.change.new.self c.self.inside.free c.args.block c.before-2.result c.match-before.from c.self.invariant p.2 made (c.before-2.ensures p.0 p.1) none some c.min-self-inside.ensures

pub invariant_of-self : goal.invariant_of-self
invariant_of-self c = (done (goal.at.invariant_of-self c).After-min-self-inside).ready

pub returns-clause-tiles : goal.returns-clause-tiles
returns-clause-tiles c = rw (← c.self.view_is) (done (goal.at.returns-clause-tiles c).After-min-self-inside).tiles

pub returns-clause-tiling : goal.returns-clause-tiling
returns-clause-tiling c =
    rw (← c.self.view_is) (told_tiling c.self.inside.words c.self.inside.places c.change.new.self c.self.invariant.tiling (done (goal.at.returns-clause-tiling c).After-min-self-inside).ready.tiling)
