use Rattle.std.proofs.Common.{subst, ℕ, ◌≡◌, ◌+◌, ◌-◌, ◌≤◌, ◌∷◌, ◌++◌, take, drop, sym, ◌∙◌, ap, arith, min, false}
use Rattle.qc_tiles.specs.declared.blocks.Tile.{Tile}
use Rattle.qc_types.specs.Blocks.{least_block, raised}
use Rattle.qc_tiles.specs.Tiles.{tile, free_tile, after_trim}
use Rattle.qc_tiles.specs.Kept.{tile_at}
use Rattle.qc_tiles.specs.Cells.{IsAt, block_at}
use Rattle.qc_tiles.proofs.Standing.{large_at, place_bounds}
use Rattle.qc_tiles.proofs.Calls.{own_tiling, told_tiling}
use Rattle.qc_tiles.proofs.PlaceReads.{block_at_is}
use Rattle.qc_tiles.proofs.Changes.{Done, stands_at, cuts, trims, stays_whole, same_some, never_held}
use Rattle.qc_tiles.proofs.tiles.Tiles.trim.Goals.{After-min-self-inside}
use Rattle.qc_tiles.proofs.tiles.Tiles.trim.Goals as goal

pub unreachable-requires : goal.unreachable-requires
unreachable-requires c = never_held c.self.inside.words c.self.inside.places c.args.block c.self.invariant.tiling (sym c.get.ensures ∙ c.in_default.is) (rw (← c.self.view_is) at c.requires.handed_out)

pub overflow_sub-rest : goal.overflow_sub-rest
overflow_sub-rest c =
    let ts = c.self.inside.places in
    let words = c.self.inside.words in
    let p = stands_at ts c.args.block (rw (← c.self.view_is) at c.requires.handed_out) in
    omega (arith, c.max-wanted.ensures, c.requires.most, large_at ts p.0 c.self.invariant.tiling.large p.2.within, p.2.words)

pub returns-then-rest-lt-LEAST_WORDS-clause-tiles : goal.returns-then-rest-lt-LEAST_WORDS-clause-tiles
returns-then-rest-lt-LEAST_WORDS-clause-tiles c =
    let ts = c.self.inside.places in
    let words = c.self.inside.words in
    let p = stands_at ts c.args.block (rw (← c.self.view_is) at c.requires.handed_out) in
    rw (← c.self.view_is) (stays_whole words p.0 c.args.used ts c.args.block c.self.invariant.tiling p.2 (omega (arith, c.max-wanted.ensures, c.requires.most, c.if-rest-lt-LEAST_WORDS.true, large_at ts p.0 c.self.invariant.tiling.large p.2.within, p.2.words)))

pub returns-then-rest-lt-LEAST_WORDS-clause-tiling : goal.returns-then-rest-lt-LEAST_WORDS-clause-tiling
returns-then-rest-lt-LEAST_WORDS-clause-tiling c = rw (← c.self.view_is) (own_tiling c.self.inside.words c.self.inside.places c.self.invariant.tiling)

pub overflow_add-back : goal.overflow_add-back
overflow_add-back c =
    let ts = c.self.inside.places in
    let words = c.self.inside.words in
    let p = stands_at ts c.args.block (rw (← c.self.view_is) at c.requires.handed_out) in
    omega (arith, c.if-rest-lt-LEAST_WORDS.false, (place_bounds 0 words ts p.0 c.self.invariant.tiling.covers p.2.within).1, p.2.first, p.2.words, c.self.invariant.region)

pub cut-requires-clause-at : goal.cut-requires-clause-at
cut-requires-clause-at c =
    let ts = c.self.inside.places in
    let words = c.self.inside.words in
    let p = stands_at ts c.args.block (rw (← c.self.view_is) at c.requires.handed_out) in
    let w = raised c.args.used in
    let wanted : c.max-wanted.result ≡ w = c.max-wanted.ensures in
    let large : w + least_block ≤ c.args.block.words = omega (arith, c.if-rest-lt-LEAST_WORDS.false, wanted) in
    let sum : c.args.block.words ≡ w + (c.args.block.words - w) = omega (arith, large) in
    rw (c.used_tile.ensures, c.free_tile.ensures, wanted) (p.0, subst (λ (n : ℕ). IsAt ts p.0 c.args.block.first n) sum p.1)

pub settle-whole-requires : goal.settle-whole-requires
settle-whole-requires c =
    let ts = c.self.inside.places in
    let words = c.self.inside.words in
    let p = stands_at ts c.args.block (rw (← c.self.view_is) at c.requires.handed_out) in
    let found = block_at_is 0 words ts p.0 c.self.invariant.tiling.covers c.self.invariant.tiling.large p.2.within in
    let same : tile_at ts p.0 ≡ c.in-Some.tile = same_some (tile_at ts p.0) c.in-Some.tile (sym found ∙ (ap (λ n. block_at n ts) p.2.first ∙ (sym c.get.ensures ∙ c.in-Some.is))) in
    let w = raised c.args.used in
    let wanted : c.max-wanted.result ≡ w = c.max-wanted.ensures in
    let large : w + least_block ≤ c.args.block.words = omega (arith, c.if-rest-lt-LEAST_WORDS.false, wanted) in
    let sum : c.args.block.words ≡ w + (c.args.block.words - w) = omega (arith, large) in
    let at : IsAt ts p.0 c.args.block.first (w + (c.args.block.words - w)) = subst (λ (n : ℕ). IsAt ts p.0 c.args.block.first n) sum p.1 in
    let pinned = ap (λ (t : Tile). t.pinned) (sym same) in
    let mid : c.cut.new.self ≡ take p.0 ts ++ (tile c.args.block.first w false (tile_at ts p.0).pinned ∷ free_tile (c.args.block.first + w) (c.args.block.words - w) ∷ drop (p.0 + 1) ts) = (rw (c.used_tile.ensures, c.free_tile.ensures, wanted, pinned) at c.cut.ensures) p.0 at in
    let cut = cuts words c.self.inside.lowest p.0 c.args.used ts c.cut.new.self c.self.inside.free c.args.block c.self.invariant p.2 large mid in
    rw wanted (words, p.0 + 1, cut.hole)

done : (c : After-min-self-inside) → Done c.self.inside.words (after_trim c.args.block.first c.args.used c.self.inside.places) c.settle-whole.new.places c.settle-whole.new.free c.min-self-inside.result
done c =
    let ts = c.self.inside.places in
    let words = c.self.inside.words in
    let p = stands_at ts c.args.block (rw (← c.self.view_is) at c.requires.handed_out) in
    let found = block_at_is 0 words ts p.0 c.self.invariant.tiling.covers c.self.invariant.tiling.large p.2.within in
    let same : tile_at ts p.0 ≡ c.in-Some.tile = same_some (tile_at ts p.0) c.in-Some.tile (sym found ∙ (ap (λ n. block_at n ts) p.2.first ∙ (sym c.get.ensures ∙ c.in-Some.is))) in
    let w = raised c.args.used in
    let wanted : c.max-wanted.result ≡ w = c.max-wanted.ensures in
    let large : w + least_block ≤ c.args.block.words = omega (arith, c.if-rest-lt-LEAST_WORDS.false, wanted) in
    let sum : c.args.block.words ≡ w + (c.args.block.words - w) = omega (arith, large) in
    let at : IsAt ts p.0 c.args.block.first (w + (c.args.block.words - w)) = subst (λ (n : ℕ). IsAt ts p.0 c.args.block.first n) sum p.1 in
    let pinned = ap (λ (t : Tile). t.pinned) (sym same) in
    let mid : c.cut.new.self ≡ take p.0 ts ++ (tile c.args.block.first w false (tile_at ts p.0).pinned ∷ free_tile (c.args.block.first + w) (c.args.block.words - w) ∷ drop (p.0 + 1) ts) = (rw (c.used_tile.ensures, c.free_tile.ensures, wanted, pinned) at c.cut.ensures) p.0 at in
    let cut = cuts words c.self.inside.lowest p.0 c.args.used ts c.cut.new.self c.self.inside.free c.args.block c.self.invariant p.2 large mid in
    let low = c.min-self-inside.ensures ∙ ap (λ m. min m c.settle-whole.result.first) c.min.ensures in
    let settles = (rw wanted at c.settle-whole.ensures) words (p.0 + 1) cut.hole in
    trims words c.self.inside.lowest c.min-self-inside.result p.0 c.args.used ts c.cut.new.self c.settle-whole.new.places c.self.inside.free c.settle-whole.new.free c.args.block c.settle-whole.result c.self.invariant p.2 cut mid settles low

pub invariant_of-self : goal.invariant_of-self
invariant_of-self c = (done (goal.at.invariant_of-self c).After-min-self-inside).ready

pub returns-clause-tiles : goal.returns-clause-tiles
returns-clause-tiles c = rw (← c.self.view_is) (done (goal.at.returns-clause-tiles c).After-min-self-inside).tiles

pub returns-clause-tiling : goal.returns-clause-tiling
returns-clause-tiling c =
    rw (← c.self.view_is) (told_tiling c.self.inside.words c.self.inside.places c.settle-whole.new.places c.self.invariant.tiling (done (goal.at.returns-clause-tiling c).After-min-self-inside).ready.tiling)
