use Rattle.std.proofs.Common.{◌≡◌, ◌++◌, ◌∙◌, sym, ap, Some}
use Rattle.std.specs.Option.{option_to_list}
use Rattle.qc_chain.specs.Filed.{in_slot, in_slots}
use Rattle.qc_chain.proofs.BlockSteps.{some-in}
use Rattle.qc_chain.proofs.block_lists.BlockWalk.next.Goals as goal

pub invariant_of-self : goal.invariant_of-self
invariant_of-self c = rw (c.in_default.ensures {u = tt}).1 tt

pub returns-in_default : goal.returns-in_default
returns-in_default c =
    let slots = c.self.inside.slots.now in
    let none = c.in_default.ensures {u = tt} in
    (sym c.self.view_is ∙ ap (in_slots slots) none.0, ap (in_slots slots) none.1)

pub block_in-requires : goal.block_in-requires
block_in-requires c = (rw (c.in-Some.ensures {u = tt}) at c.self.invariant).0.0

pub invariant_of-self-2 : goal.invariant_of-self-2
invariant_of-self-2 c = (rw (c.in-Some.ensures {u = tt}) at c.self.invariant).1

pub returns : goal.returns
returns c =
    let slots = c.self.inside.slots.now in
    let e = c.in-Some.ensures {u = tt} in
    let here = (rw e at c.self.invariant).0 in
    let (b, is) = some-in (in_slot c.in-Some.slot slots) here.1 in
    let read : c.block_in.result ≡ Some b = c.block_in.ensures ∙ is in
    rw read (sym c.self.view_is ∙ (ap (in_slots slots) e ∙ ap (λ s. option_to_list s ++ in_slots slots c.next.new.self) is))
