use Rattle.std.proofs.Common.{◌∙◌, refl, sym, ap}
use Rattle.qc_dir.specs.Keys.{minors_under}
use Rattle.qc_dir.proofs.KeyCounts.{next-minor, no-minor}
use Rattle.qc_dir.proofs.minors.Minors.next.Goals as goal

pub loop-slot-init : goal.loop-slot-init
loop-slot-init c = record { slots = refl; major = refl; below = c.self.invariant; left = refl }

pub minor_in-found-requires : goal.minor_in-found-requires
minor_in-found-requires c = (rw (c.in-Some.ensures {u = tt}) at c.loop-slot.invariant.below).0

pub loop-slot-preserved : goal.loop-slot-preserved
loop-slot-preserved c =
    let l = c.loop-slot in
    let e = c.in-Some.ensures {u = tt} in
    record {
      slots = l.invariant.slots;
      major = l.invariant.major;
      below = (rw e at l.invariant.below).1;
      left = sym (no-minor l.self-inside.major c.in-Some.slot l.self-inside.slots.now c.next.new.self c.minor_in-found.result c.minor_in-found.ensures (sym c.is_some.ensures ∙ c.if-is_some.false))
          ∙ (sym (ap (minors_under l.self-inside.major l.self-inside.slots.now) e) ∙ l.invariant.left);
    }

pub invariant_of-self : goal.invariant_of-self
invariant_of-self c = (rw (c.in-Some.ensures {u = tt}) at c.loop-slot.invariant.below).1

pub returns-then-is_some : goal.returns-then-is_some
returns-then-is_some c =
    let l = c.loop-slot in
    let old = sym c.self.view_is ∙ (sym l.invariant.left ∙ ap (minors_under l.self-inside.major l.self-inside.slots.now) (c.in-Some.ensures {u = tt})) in
    next-minor l.self-inside.major c.in-Some.slot l.self-inside.slots.now c.next.new.self c.args.self.now c.minor_in-found.result old c.minor_in-found.ensures (sym c.is_some.ensures ∙ c.if-is_some.true)

pub returns : goal.returns
returns c =
    let l = c.loop-slot in
    let none = c.in_default.ensures {u = tt} in
    (sym c.self.view_is ∙ (sym l.invariant.left ∙ ap (minors_under l.self-inside.major l.self-inside.slots.now) none.0), ap (minors_under l.self-inside.major l.self-inside.slots.now) none.1)
