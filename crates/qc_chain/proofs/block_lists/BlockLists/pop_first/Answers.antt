use Rattle.std.proofs.Common.{◌≡◌, ◌<◌, ◌+◌, ◌∙◌, sym, ap, set, length, refl, Some, None, arith}
use Rattle.std.proofs.lemmas.List.{get_or_read}
use Rattle.qc_chain.specs.Linked.{nodes_of}
use Rattle.qc_chain.specs.Filed.{in_slot, in_slots}
use Rattle.qc_tiles.specs.declared.blocks.Block.{Block}
use Rattle.qc_chain.specs.Listed.{Listed}
use Rattle.qc_chain.proofs.BlockSteps.{IsTaken, taken, taken-told, seen, length-seen, none-first, some-in, first-behind, counts-first, room-fits}
use Rattle.qc_chain.proofs.block_lists.BlockLists.pop_first.Goals.{In-Some, After-put_last-2}
use Rattle.qc_chain.proofs.block_lists.BlockLists.pop_first.Goals as goal

pub overflow_add-chain : goal.overflow_add-chain
overflow_add-chain c = omega (arith, c.requires, ap (λ (l : Listed). length l.lists) c.self.view_is, length-seen c.self.inside.slots.items c.self.inside.by_chain.lists, c.self.invariant.0.many)

pub first-requires : goal.first-requires
first-requires c = omega (arith, c.requires, ap (λ (l : Listed). length l.lists) c.self.view_is, length-seen c.self.inside.slots.items c.self.inside.by_chain.lists)

pub returns-in_default-clause-taken : goal.returns-in_default-clause-taken
returns-in_default-clause-taken c =
    let i = c.self.inside in
    (rw (← c.self.view_is) (seen c.args.chain i.slots.items i.by_chain.lists ∙ ap (in_slots i.slots.items) (none-first (nodes_of (c.args.chain + 1) i.by_chain.lists) (sym (c.in_default.ensures {u = tt}).first))), refl)

within : (c : In-Some) → c.in-Some.slot < length c.self.inside.slots.items
within c = omega (arith, (c.in-Some.ensures {u = tt}).below, c.self.invariant.0.nodes)

inside : (c : In-Some) → c.args.chain + 1 < length c.self.inside.by_chain.lists
inside c = omega (arith, c.requires, ap (λ (l : Listed). length l.lists) c.self.view_is, length-seen c.self.inside.slots.items c.self.inside.by_chain.lists)

block : (c : In-Some) → (b : Block) × (in_slot c.in-Some.slot c.self.inside.slots.items ≡ Some b)
block c =
    let i = c.self.inside in
    let ns = nodes_of (c.args.chain + 1) i.by_chain.lists in
    let (ms, is) = first-behind ns c.in-Some.slot (sym (c.in-Some.ensures {u = tt}).first) in
    some-in (in_slot c.in-Some.slot i.slots.items) (c.self.invariant.0.held (c.args.chain + 1) c.in-Some.slot (omega arith) (inside c) (counts-first c.in-Some.slot ns ms is))

done : (c : After-put_last-2) (b : Block) → in_slot c.in-Some.slot c.self.inside.slots.items ≡ Some b → c.in-Some.slot < length c.self.inside.slots.items → c.args.chain + 1 < length c.self.inside.by_chain.lists
    → IsTaken c.args.chain b c.self.inside.slots.items (set c.self.inside.slots.items c.in-Some.slot None) c.self.inside.by_chain c.put_last.new.self c.put_last-2.new.self c.self.inside.mask c.self.inside.room
done c b is low in_list =
    let i = c.self.inside in
    taken i.slots.items i.by_chain c.put_last.new.self i.by_place c.put_last-2.new.self i.mask i.room c.in-Some.slot c.args.chain b c.self.invariant.0 low in_list (sym (c.in-Some.ensures {u = tt}).first) is c.put_last.ensures.moved c.put_last-2.ensures.moved

pub put_last-requires-clause-list : goal.put_last-requires-clause-list
put_last-requires-clause-list c = c.self.invariant.0.some

pub put_last-requires-2-clause-node : goal.put_last-requires-2-clause-node
put_last-requires-2-clause-node c = omega (arith, within (goal.at.put_last-requires-2-clause-node c).In-Some, c.self.invariant.0.placed.nodes)

pub put_last-requires-2-clause-list : goal.put_last-requires-2-clause-list
put_last-requires-2-clause-list c = omega (arith, c.self.invariant.0.placed.lists)

pub overflow_add-self : goal.overflow_add-self
overflow_add-self c =
    let at = (goal.at.overflow_add-self c).In-Some in
    let (b, is) = block at in
    let i = c.self.inside in
    let t = done (goal.at.overflow_add-self c).After-put_last-2 b is (within at) (inside at) in
    omega (arith, room-fits (set i.slots.items c.in-Some.slot None) c.put_last.new.self c.put_last-2.new.self i.mask (i.room + 1) t.listed)

pub index_mut-requires : goal.index_mut-requires
index_mut-requires c = omega (arith, within (goal.at.index_mut-requires c).In-Some, c.self.inside.slots.ok.0)

pub invariant_of-self : goal.invariant_of-self
invariant_of-self c =
    let at = (goal.at.invariant_of-self c).In-Some in
    let (b, is) = block at in
    rw c.take.ensures.after ((done (goal.at.invariant_of-self c).After-put_last-2 b is (within at) (inside at)).listed, c.self.invariant.1)

pub returns-clause-taken : goal.returns-clause-taken
returns-clause-taken c =
    let at = (goal.at.returns-clause-taken c).In-Some in
    let (b, is) = block at in
    let read : c.take.result ≡ Some b = c.take.ensures.value ∙ (get_or_read c.self.inside.slots.items c.in-Some.slot c.index_mut.result.now (within at) c.index_mut.ensures.value None ∙ is) in
    let i = c.self.inside in
    rw c.take.ensures.after
    (taken-told c.args.chain b i.slots.items (set i.slots.items c.in-Some.slot None) i.by_chain c.put_last.new.self c.put_last-2.new.self i.mask i.room c.take.result c.args.self.now (done (goal.at.returns-clause-taken c).After-put_last-2 b is (within at) (inside at)) read c.self.view_is)

pub returns-clause-lists : goal.returns-clause-lists
returns-clause-lists c =
    let at = (goal.at.returns-clause-lists c).In-Some in
    let (b, is) = block at in
    rw c.take.ensures.after ((done (goal.at.returns-clause-lists c).After-put_last-2 b is (within at) (inside at)).long ∙ ap (λ (l : Listed). length l.lists) c.self.view_is)
