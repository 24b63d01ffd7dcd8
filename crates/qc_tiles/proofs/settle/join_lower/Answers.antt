use Rattle.std.proofs.Common.{◌≡◌, ◌+◌, Some, true, sym, ap, ◌∙◌, arith, ◌++◌, take, drop}
use Rattle.qc_tiles.specs.declared.blocks.Block.{Block}
use Rattle.qc_tiles.specs.Cells.{lower_of}
use Rattle.qc_tiles.proofs.Standing.{place_bounds}
use Rattle.qc_tiles.proofs.Sorting.{by_size-sorted}
use Rattle.qc_tiles.proofs.SettleSteps.{hole_at}
use Rattle.qc_tiles.proofs.SettleSides.{lower_none, lower_used, is_lower, lower_joins}
use Rattle.qc_tiles.proofs.settle.join_lower.Goals as goal

pub returns-in_default : goal.returns-in_default
returns-in_default c = λ words k h. lower_none words k c.args.places.now c.args.free.now c.args.block h (sym (c.before-2.ensures k (hole_at words c.args.places.now c.args.free.now c.args.block k h)) ∙ c.in_default.is)

pub returns-then-not-lower : goal.returns-then-not-lower
returns-then-not-lower c = λ words k h. lower_used words k c.args.places.now c.args.free.now c.args.block c.in-Some.lower h (sym (c.before-2.ensures k (hole_at words c.args.places.now c.args.free.now c.args.block k h)) ∙ c.in-Some.is) (grind (arith, c.if-not-lower.true))

pub remove-requires : goal.remove-requires
remove-requires c =
    let h = c.requires.2 in
    let some : lower_of c.requires.1 c.args.places.now ≡ Some c.in-Some.lower = sym (c.before-2.ensures c.requires.1 (hole_at c.requires.0 c.args.places.now c.args.free.now c.args.block c.requires.1 h)) ∙ c.in-Some.is in
    let is_free : c.in-Some.lower.free ≡ true = grind (arith, c.if-not-lower.false) in
    let p = is_lower c.requires.0 c.requires.1 c.args.places.now c.args.free.now c.args.block c.in-Some.lower h some in
    rw c.block_of-lower.ensures (_, p.indexed is_free, by_size-sorted (take p.at c.args.places.now ++ drop (p.at + 2) c.args.places.now))

pub join-requires : goal.join-requires
join-requires c =
    let h = c.requires.2 in
    let some : lower_of c.requires.1 c.args.places.now ≡ Some c.in-Some.lower = sym (c.before-2.ensures c.requires.1 (hole_at c.requires.0 c.args.places.now c.args.free.now c.args.block c.requires.1 h)) ∙ c.in-Some.is in
    let p = is_lower c.requires.0 c.requires.1 c.args.places.now c.args.free.now c.args.block c.in-Some.lower h some in
    rw c.block_of-lower.ensures (p.at, p.here, p.next)

pub overflow_add-result : goal.overflow_add-result
overflow_add-result c =
    let h = c.requires.2 in
    let some : lower_of c.requires.1 c.args.places.now ≡ Some c.in-Some.lower = sym (c.before-2.ensures c.requires.1 (hole_at c.requires.0 c.args.places.now c.args.free.now c.args.block c.requires.1 h)) ∙ c.in-Some.is in
    let p = is_lower c.requires.0 c.requires.1 c.args.places.now c.args.free.now c.args.block c.in-Some.lower h some in
    omega (arith, ap (λ (b : Block). b.words) c.block_of-lower.ensures, (place_bounds 0 c.requires.0 c.args.places.now p.at h.covers p.here.within).1, p.here.words, (place_bounds 0 c.requires.0 c.args.places.now (p.at + 1) h.covers p.next.within).1, p.next.words, h.region)

pub returns : goal.returns
returns c = λ words k h.
    let some : lower_of k c.args.places.now ≡ Some c.in-Some.lower = sym (c.before-2.ensures k (hole_at words c.args.places.now c.args.free.now c.args.block k h)) ∙ c.in-Some.is in
    let is_free : c.in-Some.lower.free ≡ true = grind (arith, c.if-not-lower.false) in
    rw c.block_of-lower.ensures (lower_joins words k c.args.places.now c.join.new.self c.args.free.now c.remove.new.self c.args.block c.in-Some.lower h some is_free (rw c.block_of-lower.ensures at c.join.ensures) (rw c.block_of-lower.ensures at c.remove.ensures))
