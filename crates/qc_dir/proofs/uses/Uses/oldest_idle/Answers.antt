use Rattle.std.proofs.Common.{◌<◌, ◌∙◌, sym, ap, subst, refl, arith}
use Rattle.std.specs.List.{AllByRecursion}
use Rattle.std.specs.Option.{option_to_list}
use Rattle.qc_dir.specs.Directory.{oldest_idle}
use Rattle.qc_chain.specs.Filed.{in_slot, in_slots}
use Rattle.qc_dir.specs.Uses.{Used, entries_of}
use Rattle.qc_dir.proofs.UseSteps.{first-idle, not-idle}
use Rattle.qc_dir.proofs.uses.Uses.oldest_idle.Goals as goal

pub walk-order-requires : goal.walk-order-requires
walk-order-requires c = omega (arith, c.self.invariant.ordered.lists)

pub loop-slot-init : goal.loop-slot-init
loop-slot-init c = record {
  below = subst (λ m. AllByRecursion (λ n. n < m) c.walk-order.result) c.self.invariant.ordered.nodes c.walk-order.ensures.below;
  left = refl;
}

pub at-requires : goal.at-requires
at-requires c = (rw (c.in-Some.ensures {u = tt}) at c.loop-slot.invariant.below).0

pub loop-slot-preserved : goal.loop-slot-preserved
loop-slot-preserved c =
    let i = c.self.inside in
    let e = c.in-Some.ensures {u = tt} in
    let below = rw e at c.loop-slot.invariant.below in
    record {
      below = below.1;
      left = sym (not-idle (in_slot c.in-Some.slot i.slots) (in_slots i.slots c.next.new.self) c.idle_in-serial.result (c.idle_in-serial.ensures ∙ ap (λ s. oldest_idle (option_to_list s)) c.at.ensures) (sym c.is_some.ensures ∙ c.if-is_some.false))
          ∙ (sym (ap (λ ns. oldest_idle (in_slots i.slots ns)) e) ∙ c.loop-slot.invariant.left);
    }

pub returns-then-is_some : goal.returns-then-is_some
returns-then-is_some c =
    let i = c.self.inside in
    let e = c.in-Some.ensures {u = tt} in
    first-idle (in_slot c.in-Some.slot i.slots) (in_slots i.slots c.next.new.self) c.idle_in-serial.result (c.idle_in-serial.ensures ∙ ap (λ s. oldest_idle (option_to_list s)) c.at.ensures) (sym c.is_some.ensures ∙ c.if-is_some.true)
    ∙ (sym (ap (λ ns. oldest_idle (in_slots i.slots ns)) e) ∙ (c.loop-slot.invariant.left
    ∙ (ap (λ ns. oldest_idle (in_slots i.slots ns)) c.walk-order.ensures.nodes ∙ ap (λ (d : Used). oldest_idle (entries_of d)) c.self.view_is)))

pub returns : goal.returns
returns c =
    let i = c.self.inside in
    sym (ap (λ ns. oldest_idle (in_slots i.slots ns)) (c.in_default.ensures {u = tt}).0)
    ∙ (c.loop-slot.invariant.left ∙ (ap (λ ns. oldest_idle (in_slots i.slots ns)) c.walk-order.ensures.nodes ∙ ap (λ (d : Used). oldest_idle (entries_of d)) c.self.view_is))
