use Rattle.std.proofs.Common.{◌<◌, ◌∙◌, sym, subst, arith}
use Rattle.std.specs.List.{AllByRecursion}
use Rattle.qc_chain.proofs.FiledSteps.{bucket-low}
use Rattle.qc_dir.proofs.KeyCounts.{none-found}
use Rattle.qc_dir.proofs.keys.slot_of.Goals as goal

pub walk-list-requires : goal.walk-list-requires
walk-list-requires c = omega (arith, c.bucket.ensures, bucket-low c.args.mask c.pair.result, c.requires.filed.lists)

pub loop-slot-init : goal.loop-slot-init
loop-slot-init c = record {
  below = subst (λ m. AllByRecursion (λ n. n < m) c.walk-list.result) c.requires.filed.nodes c.walk-list.ensures.below;
  sought = λ h. h;
}

pub has_key-requires : goal.has_key-requires
has_key-requires c = (rw (c.in-Some.ensures {u = tt}) at c.loop-slot.invariant.below).0

pub loop-slot-preserved : goal.loop-slot-preserved
loop-slot-preserved c = record {
  below = (rw (c.in-Some.ensures {u = tt}) at c.loop-slot.invariant.below).1;
  sought = λ h. c.loop-slot.invariant.sought (rw (c.in-Some.ensures {u = tt}) (sym c.has_key.ensures ∙ c.if-has_key.false, h));
}

pub returns-then-has_key : goal.returns-then-has_key
returns-then-has_key c = ((rw (c.in-Some.ensures {u = tt}) at c.loop-slot.invariant.below).0, sym c.has_key.ensures ∙ c.if-has_key.true)

pub returns : goal.returns
returns c =
    let all = c.loop-slot.invariant.sought (rw (c.in_default.ensures {u = tt}).0 tt) in
    none-found c.args.key c.args.slots.now c.args.by_key.now c.args.mask c.requires.filed (rw (c.walk-list.ensures.nodes, c.bucket.ensures, c.pair.ensures) at all)
