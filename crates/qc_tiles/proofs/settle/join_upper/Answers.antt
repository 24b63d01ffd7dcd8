use Rattle.std.proofs.Common.{◌≡◌, ◌+◌, ◌++◌, take, drop, Some, true, sym, ap, ◌∙◌, arith}
use Rattle.qc_tiles.specs.declared.blocks.Block.{Block}
use Rattle.qc_tiles.specs.Cells.{block_at}
use Rattle.qc_tiles.proofs.Standing.{place_bounds}
use Rattle.qc_tiles.proofs.Sorting.{by_size-sorted}
use Rattle.qc_tiles.proofs.SettleSteps.{hole_at}
use Rattle.qc_tiles.proofs.SettleSides.{upper_alone, upper_used, upper_indexed, upper_at, upper_joins}
use Rattle.qc_tiles.proofs.settle.join_upper.Goals as goal

pub overflow_add-block : goal.overflow_add-block
overflow_add-block c =
    let h = c.requires.2 in
    let at = hole_at c.requires.0 c.args.places.now c.args.free.now c.args.block c.requires.1 h in
    omega (arith, (place_bounds 0 c.requires.0 c.args.places.now c.requires.1 h.covers at.within).1, at.first, at.words, h.region)

pub returns-in_default : goal.returns-in_default
returns-in_default c = λ words k h. upper_alone words c.args.places.now c.args.free.now c.args.block k h (sym c.get.ensures ∙ c.in_default.is)

pub returns-then-not-upper : goal.returns-then-not-upper
returns-then-not-upper c = λ words k h. upper_used words c.args.places.now c.args.free.now c.args.block k c.in-Some.upper h (sym c.get.ensures ∙ c.in-Some.is) (grind (arith, c.if-not-upper.true))

pub remove-requires : goal.remove-requires
remove-requires c =
    let some : block_at (c.args.block.first + c.args.block.words) c.args.places.now ≡ Some c.in-Some.upper = sym c.get.ensures ∙ c.in-Some.is in
    let is_free : c.in-Some.upper.free ≡ true = grind (arith, c.if-not-upper.false) in
    rw c.block_of-upper.ensures (_, upper_indexed c.requires.0 c.args.places.now c.args.free.now c.args.block c.requires.1 c.in-Some.upper c.requires.2 some is_free, by_size-sorted (take c.requires.1 c.args.places.now ++ drop (c.requires.1 + 2) c.args.places.now))

pub join-requires : goal.join-requires
join-requires c =
    let some : block_at (c.args.block.first + c.args.block.words) c.args.places.now ≡ Some c.in-Some.upper = sym c.get.ensures ∙ c.in-Some.is in
    rw c.block_of-upper.ensures (c.requires.1, hole_at c.requires.0 c.args.places.now c.args.free.now c.args.block c.requires.1 c.requires.2, upper_at c.requires.0 c.args.places.now c.args.free.now c.args.block c.requires.1 c.in-Some.upper c.requires.2 some)

pub overflow_add-result : goal.overflow_add-result
overflow_add-result c =
    let h = c.requires.2 in
    let some : block_at (c.args.block.first + c.args.block.words) c.args.places.now ≡ Some c.in-Some.upper = sym c.get.ensures ∙ c.in-Some.is in
    let at = hole_at c.requires.0 c.args.places.now c.args.free.now c.args.block c.requires.1 h in
    let up = upper_at c.requires.0 c.args.places.now c.args.free.now c.args.block c.requires.1 c.in-Some.upper h some in
    omega (arith, ap (λ (b : Block). b.words) c.block_of-upper.ensures, (place_bounds 0 c.requires.0 c.args.places.now c.requires.1 h.covers at.within).1, at.words, (place_bounds 0 c.requires.0 c.args.places.now (c.requires.1 + 1) h.covers up.within).1, up.words, h.region)

pub returns : goal.returns
returns c = λ words k h.
    let some : block_at (c.args.block.first + c.args.block.words) c.args.places.now ≡ Some c.in-Some.upper = sym c.get.ensures ∙ c.in-Some.is in
    let is_free : c.in-Some.upper.free ≡ true = grind (arith, c.if-not-upper.false) in
    let at = hole_at words c.args.places.now c.args.free.now c.args.block k h in
    let up = upper_at words c.args.places.now c.args.free.now c.args.block k c.in-Some.upper h some in
    let made = (rw c.block_of-upper.ensures at c.join.ensures) k at up in
    let index = (rw c.block_of-upper.ensures at c.remove.ensures) _ (upper_indexed words c.args.places.now c.args.free.now c.args.block k c.in-Some.upper h some is_free) (by_size-sorted (take k c.args.places.now ++ drop (k + 2) c.args.places.now)) in
    rw c.block_of-upper.ensures (upper_joins words c.args.places.now c.join.new.self c.args.free.now c.remove.new.self c.args.block k c.in-Some.upper h some is_free made index)
