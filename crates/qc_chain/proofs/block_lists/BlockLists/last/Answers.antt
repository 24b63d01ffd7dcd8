use Rattle.std.proofs.Common.{◌≡◌, ◌<◌, ◌+◌, ◌∙◌, ap, length, Some, None, arith}
use Rattle.std.proofs.lemmas.List.{get_or_read}
use Rattle.qc_chain.specs.Linked.{nodes_of}
use Rattle.qc_chain.specs.Filed.{in_slot, in_slots}
use Rattle.qc_tiles.specs.declared.blocks.Block.{Block}
use Rattle.qc_chain.specs.Listed.{Listed}
use Rattle.qc_chain.proofs.BlockSteps.{seen, length-seen, last-told, some-in, counts-last}
use Rattle.qc_chain.proofs.block_lists.BlockLists.last.Goals.{In-Some}
use Rattle.qc_chain.proofs.block_lists.BlockLists.last.Goals as goal

pub overflow_add-chain : goal.overflow_add-chain
overflow_add-chain c = omega (arith, c.requires, ap (λ (l : Listed). length l.lists) c.self.view_is, length-seen c.self.inside.slots.items c.self.inside.by_chain.lists, c.self.invariant.0.many)

pub last-requires : goal.last-requires
last-requires c = omega (arith, c.requires, ap (λ (l : Listed). length l.lists) c.self.view_is, length-seen c.self.inside.slots.items c.self.inside.by_chain.lists)

pub returns-in_default : goal.returns-in_default
returns-in_default c =
    let i = c.self.inside in
    rw (← c.self.view_is) (seen c.args.chain i.slots.items i.by_chain.lists ∙ ap (in_slots i.slots.items) (c.in_default.ensures {u = tt}).last)

within : (c : In-Some) → c.in-Some.slot < length c.self.inside.slots.items
within c = omega (arith, (c.in-Some.ensures {u = tt}).below, c.self.invariant.0.nodes)

block : (c : In-Some) → (b : Block) × (in_slot c.in-Some.slot c.self.inside.slots.items ≡ Some b)
block c =
    let i = c.self.inside in
    let inside : c.args.chain + 1 < length i.by_chain.lists = omega (arith, c.requires, ap (λ (l : Listed). length l.lists) c.self.view_is, length-seen i.slots.items i.by_chain.lists) in
    some-in (in_slot c.in-Some.slot i.slots.items) (c.self.invariant.0.held (c.args.chain + 1) c.in-Some.slot (omega arith) inside (counts-last c.in-Some.slot (nodes_of (c.args.chain + 1) i.by_chain.lists) (c.in-Some.ensures {u = tt}).last))

pub index-requires : goal.index-requires
index-requires c = omega (arith, within (goal.at.index-requires c).In-Some, c.self.inside.slots.ok.0)

pub returns : goal.returns
returns c =
    let at = (goal.at.returns c).In-Some in
    let i = c.self.inside in
    let (b, is) = block at in
    let read : c.index.result.now ≡ Some b = get_or_read i.slots.items c.in-Some.slot c.index.result.now (within at) c.index.ensures None ∙ is in
    last-told c.args.chain c.in-Some.slot b i.slots.items i.by_chain.lists c.index.result.now c.args.self.now.lists (c.in-Some.ensures {u = tt}).last is read (ap (λ (l : Listed). l.lists) c.self.view_is)
