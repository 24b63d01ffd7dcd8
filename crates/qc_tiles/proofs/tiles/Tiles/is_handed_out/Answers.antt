use Rattle.std.proofs.Common.{◌≡◌, Some, None, false, sym, ◌∙◌, refl, arith}
use Rattle.std.proofs.lemmas.Bool.Decides.{nat_tests}
use Rattle.qc_tiles.specs.Cells.{block_at}
use Rattle.qc_tiles.proofs.Changes.{held, held_only, never_held}
use Rattle.qc_tiles.proofs.tiles.Tiles.is_handed_out.Goals as goal

pub returns-then-tile-block : goal.returns-then-tile-block
returns-then-tile-block c =
    let ts = c.self.inside.places in
    let some : block_at c.args.block.first ts ≡ Some c.in-Some.tile = sym c.get.ensures ∙ c.in-Some.is in
    rw (← c.self.view_is) (
      λ e. let used : c.in-Some.tile.free ≡ false = grind (arith, e) in held ts c.args.block c.in-Some.tile some c.if-tile-block.true used,
      λ h. let used = (held_only c.self.inside.words ts c.args.block c.in-Some.tile c.self.invariant.tiling some h).1 in rw used refl,
    )

pub returns-else-tile-block : goal.returns-else-tile-block
returns-else-tile-block c =
    let ts = c.self.inside.places in
    let some : block_at c.args.block.first ts ≡ Some c.in-Some.tile = sym c.get.ensures ∙ c.in-Some.is in
    rw (← c.self.view_is) (
      λ e. absurd (c.if-tile-block.false (grind (arith, nat_tests, e))),
      λ h. absurd (c.if-tile-block.false (held_only c.self.inside.words ts c.args.block c.in-Some.tile c.self.invariant.tiling some h).0),
    )

pub returns-in-None : goal.returns-in-None
returns-in-None c =
    let ts = c.self.inside.places in
    let none : block_at c.args.block.first ts ≡ None = sym c.get.ensures ∙ c.in-None.is in
    rw (← c.self.view_is) (λ e. absurd (cc e), λ h. absurd (never_held c.self.inside.words ts c.args.block c.self.invariant.tiling none h))
