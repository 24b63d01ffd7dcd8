use Rattle.std.proofs.Common.{◌+◌, sym, ap, length, arith}
use Rattle.qc_chain.specs.Listed.{Listed}
use Rattle.qc_chain.proofs.BlockSteps.{length-seen, seen, full-slots}
use Rattle.qc_chain.proofs.block_lists.BlockLists.walk.Goals as goal

pub overflow_add-chain : goal.overflow_add-chain
overflow_add-chain c = omega (arith, c.requires, ap (λ (l : Listed). length l.lists) c.self.view_is, length-seen c.self.inside.slots.items c.self.inside.by_chain.lists, c.self.invariant.0.many)

pub walk-list-requires : goal.walk-list-requires
walk-list-requires c = omega (arith, c.requires, ap (λ (l : Listed). length l.lists) c.self.view_is, length-seen c.self.inside.slots.items c.self.inside.by_chain.lists)

pub invariant_of-result : goal.invariant_of-result
invariant_of-result c =
    let i = c.self.inside in
    rw (c.deref.ensures.value, c.walk-list.ensures.nodes)
    (full-slots i.slots.items i.by_chain i.by_place i.mask i.room (c.args.chain + 1) c.self.invariant.0 (omega arith) (omega (arith, c.requires, ap (λ (l : Listed). length l.lists) c.self.view_is, length-seen i.slots.items i.by_chain.lists)))

pub returns : goal.returns
returns c =
    let i = c.self.inside in
    rw (c.deref.ensures.value, c.walk-list.ensures.nodes, ← c.self.view_is) (sym (seen c.args.chain i.slots.items i.by_chain.lists))
