use Rattle.std.proofs.Common.{◌≡◌, ◌+◌, ◌-◌, ◌<◌, sym, ◌∙◌, refl, arith, false, true}
use Rattle.qc_tiles.specs.Tiles.{region_words, may_move}
use Rattle.qc_tiles.proofs.Passing.{passes, finds, ends, goes_up, passed_fits}
use Rattle.qc_tiles.proofs.walk.find_movable.Goals as goal
use Rattle.qc_tiles.proofs.walk.find_movable.Goals.{else-below-via-then-below+then-not-tile+else-not-tile-2, else-below-via-then-below+else-not-tile, else-below-via-else-below}

pub loop-tile-init : goal.loop-tile-init
loop-tile-init c = c.in_ok-below.ensures {u = tt}

pub overflow_add-below : goal.overflow_add-below
overflow_add-below c = omega (arith, passed_fits (region_words c.args.places.now) c.args.places.now c.loop-tile.invariant.0 c.loop-tile.below c.requires.tiling c.loop-tile.invariant.1, c.requires.region)

pub returns-then-not-tile-2 : goal.returns-then-not-tile-2
returns-then-not-tile-2 c =
    let moves : may_move c.loop-tile.below c.in-Some.tile ≡ true = rw (c.if-below.true, c.if-not-tile.true, c.if-not-tile-2.true) refl in
    let f = finds (region_words c.args.places.now) c.args.places.now c.loop-tile.invariant.0 c.loop-tile.below c.in-Some.tile c.requires.tiling c.loop-tile.invariant.1 (sym c.get.ensures ∙ c.in-Some.is) moves in
    (c.loop-tile.invariant.0, f.0, f.1, f.2)

pub loop-tile-smaller : goal.loop-tile-smaller
loop-tile-smaller c =
    let up = goes_up (region_words c.args.places.now) c.args.places.now c.loop-tile.invariant.0 c.loop-tile.below c.in-Some.tile c.requires.tiling c.loop-tile.invariant.1 (sym c.get.ensures ∙ c.in-Some.is) in
    let less : region_words c.args.places.now - c.in-Some.tile.first < region_words c.args.places.now - c.loop-tile.below.first = omega (arith, up.0, up.1) in
    less

pub loop-tile-preserved : goal.loop-tile-preserved
loop-tile-preserved c =
    let stays : may_move c.loop-tile.below c.in-Some.tile ≡ false = elim c.else-below.branch [
      | else-below-via-then-below+then-not-tile+else-not-tile-2 w ↦ rw (w.if-below.true, w.if-not-tile.true, w.if-not-tile-2.false) refl
      | else-below-via-then-below+else-not-tile w ↦ rw (w.if-below.true, w.if-not-tile.false) refl
      | else-below-via-else-below w ↦ rw w.if-below.false refl
    ] in
    (c.loop-tile.invariant.0 + 1, passes (region_words c.args.places.now) c.args.places.now c.loop-tile.invariant.0 c.loop-tile.below c.in-Some.tile c.requires.tiling c.loop-tile.invariant.1 (sym c.get.ensures ∙ c.in-Some.is) stays)

pub returns : goal.returns
returns c = ends (region_words c.args.places.now) c.args.places.now c.loop-tile.invariant.0 c.loop-tile.below c.requires.tiling c.loop-tile.invariant.1 (sym c.get.ensures ∙ c.in_default.is)
