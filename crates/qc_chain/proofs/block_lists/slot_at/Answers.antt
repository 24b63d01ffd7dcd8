use Rattle.std.proofs.Common.{◌<◌, ◌∙◌, sym, subst, arith}
use Rattle.std.specs.List.{AllByRecursion}
use Rattle.qc_chain.proofs.FiledSteps.{bucket-low}
use Rattle.qc_chain.proofs.BlockSteps.{none-found}
use Rattle.qc_chain.proofs.block_lists.slot_at.Goals as goal

pub walk-list-requires : goal.walk-list-requires
walk-list-requires c = omega (arith, c.bucket.ensures, bucket-low c.args.mask c.from.result, c.requires.placed.lists)

pub loop-slot-init : goal.loop-slot-init
loop-slot-init c = record {
  below = subst (λ m. AllByRecursion (λ n. n < m) c.walk-list.result) c.requires.placed.nodes c.walk-list.ensures.below;
  sought = λ h. h;
}

pub stands_at-requires : goal.stands_at-requires
stands_at-requires c = (rw (c.in-Some.ensures {u = tt}) at c.loop-slot.invariant.below).0

pub loop-slot-preserved : goal.loop-slot-preserved
loop-slot-preserved c = record {
  below = (rw (c.in-Some.ensures {u = tt}) at c.loop-slot.invariant.below).1;
  sought = λ h. c.loop-slot.invariant.sought (rw (c.in-Some.ensures {u = tt}) (sym c.stands_at.ensures ∙ c.if-stands_at.false, h));
}

pub returns-then-stands_at : goal.returns-then-stands_at
returns-then-stands_at c = ((rw (c.in-Some.ensures {u = tt}) at c.loop-slot.invariant.below).0, sym c.stands_at.ensures ∙ c.if-stands_at.true)

pub returns : goal.returns
returns c =
    let all = c.loop-slot.invariant.sought (rw (c.in_default.ensures {u = tt}).0 tt) in
    none-found c.args.place c.args.slots.now c.args.by_place.now c.args.mask c.requires.placed (rw (c.walk-list.ensures.nodes, c.bucket.ensures, c.from.ensures) at all)
