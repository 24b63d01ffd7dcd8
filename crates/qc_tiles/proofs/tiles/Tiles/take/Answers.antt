use Rattle.std.proofs.Common.{◌≡◌, refl, sym, ◌∙◌, ap, Some, None}
use Rattle.qc_types.specs.Blocks.{raised}
use Rattle.qc_tiles.specs.Tiles.{after_take, best, largest_free, taken}
use Rattle.qc_tiles.specs.Sizes.{last_of, words_or_none}
use Rattle.qc_tiles.proofs.Fits.{largest-last}
use Rattle.qc_tiles.proofs.Keeps.{raised_some}
use Rattle.qc_tiles.proofs.Calls.{own_tiling, told_tiling, not_taken}
use Rattle.qc_tiles.proofs.Holes.{picked_is, picked, none_of}
use Rattle.qc_tiles.proofs.Changes.{Done, takes}
use Rattle.qc_tiles.proofs.tiles.Tiles.take.Goals.{After-min-self-inside}
use Rattle.qc_tiles.proofs.tiles.Tiles.take.Goals as goal

pub returns-in_default-clause-block : goal.returns-in_default-clause-block
returns-in_default-clause-block c =
    let ts = c.self.inside.places in
    let words = c.self.inside.words in
    let found = picked_is words (raised c.args.need) ts c.self.inside.free None c.self.invariant.tiling c.self.invariant.indexed (rw c.max-need.ensures at (c.in_default.ensures {u = tt})) in
    let none : best (raised c.args.need) ts ≡ None = none_of (best (raised c.args.need) ts) (sym found) in
    rw (← c.self.view_is) (sym (not_taken c.args.need ts none).0)

pub returns-in_default-clause-refusal : goal.returns-in_default-clause-refusal
returns-in_default-clause-refusal c =
    let largest : c.largest.result ≡ largest_free c.self.inside.places = c.largest.ensures ∙ (ap (λ bs. words_or_none (last_of bs)) c.self.invariant.indexed.sizes ∙ sym (largest-last c.self.inside.places)) in
    rw (← c.self.view_is, largest, c.max-need.ensures) refl

pub returns-in_default-clause-tiles : goal.returns-in_default-clause-tiles
returns-in_default-clause-tiles c =
    let ts = c.self.inside.places in
    let words = c.self.inside.words in
    let found = picked_is words (raised c.args.need) ts c.self.inside.free None c.self.invariant.tiling c.self.invariant.indexed (rw c.max-need.ensures at (c.in_default.ensures {u = tt})) in
    let none : best (raised c.args.need) ts ≡ None = none_of (best (raised c.args.need) ts) (sym found) in
    rw (← c.self.view_is) (sym (not_taken c.args.need ts none).1)

pub returns-in_default-clause-tiling : goal.returns-in_default-clause-tiling
returns-in_default-clause-tiling c = rw (← c.self.view_is) (own_tiling c.self.inside.words c.self.inside.places c.self.invariant.tiling)

pub hand_out-taken-requires : goal.hand_out-taken-requires
hand_out-taken-requires c =
    let ts = c.self.inside.places in
    let words = c.self.inside.words in
    let found = picked_is words (raised c.args.need) ts c.self.inside.free (Some c.in-Some.block) c.self.invariant.tiling c.self.invariant.indexed (rw c.max-need.ensures at (c.in-Some.ensures {u = tt})) in
    let p = picked words (raised c.args.need) ts c.self.inside.free c.in-Some.block c.self.invariant.tiling c.self.invariant.region c.self.invariant.indexed (raised_some c.args.need) (sym found) in
    rw c.max-need.ensures (words, p.at, p.is_free)

done : (c : After-min-self-inside) → Done c.self.inside.words (after_take c.args.need c.self.inside.places) c.hand_out-taken.new.places c.hand_out-taken.new.free c.min-self-inside.result × (Some c.hand_out-taken.result ≡ taken c.args.need c.self.inside.places)
done c =
    let ts = c.self.inside.places in
    let words = c.self.inside.words in
    let found = picked_is words (raised c.args.need) ts c.self.inside.free (Some c.in-Some.block) c.self.invariant.tiling c.self.invariant.indexed (rw c.max-need.ensures at (c.in-Some.ensures {u = tt})) in
    let p = picked words (raised c.args.need) ts c.self.inside.free c.in-Some.block c.self.invariant.tiling c.self.invariant.region c.self.invariant.indexed (raised_some c.args.need) (sym found) in
    let out = (rw c.max-need.ensures at c.hand_out-taken.ensures) words p.at p.is_free in
    takes words c.self.inside.lowest c.min-self-inside.result c.args.need ts c.hand_out-taken.new.places c.self.inside.free c.hand_out-taken.new.free c.in-Some.block c.hand_out-taken.result c.self.invariant p out c.min-self-inside.ensures

pub invariant_of-self : goal.invariant_of-self
invariant_of-self c = (done (goal.at.invariant_of-self c).After-min-self-inside).0.ready

pub returns-clause-tiles : goal.returns-clause-tiles
returns-clause-tiles c = rw (← c.self.view_is) (done (goal.at.returns-clause-tiles c).After-min-self-inside).0.tiles

pub returns-clause-tiling : goal.returns-clause-tiling
returns-clause-tiling c =
    rw (← c.self.view_is) (told_tiling c.self.inside.words c.self.inside.places c.hand_out-taken.new.places c.self.invariant.tiling (done (goal.at.returns-clause-tiling c).After-min-self-inside).0.ready.tiling)

pub returns-clause-block : goal.returns-clause-block
returns-clause-block c = rw (← c.self.view_is) (done (goal.at.returns-clause-block c).After-min-self-inside).1
