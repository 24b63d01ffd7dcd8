use Rattle.std.proofs.Common.{◌≡◌, ◌<◌, ◌+◌, ◌∙◌, ap, set, length, [], Some, None, arith}
use Rattle.std.proofs.lemmas.List.{get_or_read}
use Rattle.qc_chain.specs.Linked.{nodes_of}
use Rattle.qc_chain.specs.Filed.{in_slot, in_slots}
use Rattle.qc_tiles.specs.declared.blocks.Block.{Block}
use Rattle.qc_chain.specs.Views.{blocks_of}
use Rattle.qc_chain.specs.Listed.{Listed, lists_in}
use Rattle.qc_chain.proofs.BlockSteps.{IsCutLast, cut_last, cut-told, seen, length-seen, length-set_lists, some-in, counts-last}
use Rattle.qc_chain.proofs.block_lists.BlockLists.cut_last.Goals.{In-Some}
use Rattle.qc_chain.proofs.block_lists.BlockLists.cut_last.Goals as goal

pub overflow_add-chain : goal.overflow_add-chain
overflow_add-chain c = omega (arith, c.requires.chain, ap (λ (l : Listed). length l.lists) c.self.view_is, length-seen c.self.inside.slots.items c.self.inside.by_chain.lists, c.self.invariant.0.many)

pub last-requires : goal.last-requires
last-requires c = omega (arith, c.requires.chain, ap (λ (l : Listed). length l.lists) c.self.view_is, length-seen c.self.inside.slots.items c.self.inside.by_chain.lists)

pub unreachable-requires : goal.unreachable-requires
unreachable-requires c =
    let i = c.self.inside in
    let none : blocks_of c.args.chain (lists_in i.slots.items i.by_chain.lists) ≡ [] = seen c.args.chain i.slots.items i.by_chain.lists ∙ ap (in_slots i.slots.items) (c.in_default.ensures {u = tt}).last in
    omega (arith, c.requires.some, ap (λ (l : Listed). length (blocks_of c.args.chain l.lists)) c.self.view_is, ap length none)

within : (c : In-Some) → c.in-Some.slot < length c.self.inside.slots.items
within c = omega (arith, (c.in-Some.ensures {u = tt}).below, c.self.invariant.0.nodes)

inside : (c : In-Some) → c.args.chain + 1 < length c.self.inside.by_chain.lists
inside c = omega (arith, c.requires.chain, ap (λ (l : Listed). length l.lists) c.self.view_is, length-seen c.self.inside.slots.items c.self.inside.by_chain.lists)

block : (c : In-Some) → (b : Block) × (in_slot c.in-Some.slot c.self.inside.slots.items ≡ Some b)
block c =
    let i = c.self.inside in
    some-in (in_slot c.in-Some.slot i.slots.items) (c.self.invariant.0.held (c.args.chain + 1) c.in-Some.slot (omega arith) (inside c) (counts-last c.in-Some.slot (nodes_of (c.args.chain + 1) i.by_chain.lists) (c.in-Some.ensures {u = tt}).last))

pub index_mut-requires : goal.index_mut-requires
index_mut-requires c = omega (arith, within (goal.at.index_mut-requires c).In-Some, c.self.inside.slots.ok.0)

done : (c : In-Some) (b : Block) → in_slot c.in-Some.slot c.self.inside.slots.items ≡ Some b → IsCutLast c.args.chain c.args.words c.self.inside.slots.items (set c.self.inside.slots.items c.in-Some.slot (Some (record { first = b.first; words = c.args.words }))) c.self.inside.by_chain c.self.inside.by_place c.self.inside.mask c.self.inside.room
done c b is =
    let i = c.self.inside in
    cut_last i.slots.items i.by_chain i.by_place i.mask i.room c.in-Some.slot c.args.chain c.args.words b c.self.invariant.0 (within c) (inside c) (c.in-Some.ensures {u = tt}).last is

pub invariant_of-self : goal.invariant_of-self
invariant_of-self c =
    let at = (goal.at.invariant_of-self c).In-Some in
    let (b, is) = block at in
    let read : c.index_mut.result.now ≡ Some b = get_or_read c.self.inside.slots.items c.in-Some.slot c.index_mut.result.now (within at) c.index_mut.ensures.value None ∙ is in
    rw (c.cut_in.ensures, read) ((done at b is).listed, c.self.invariant.1)

pub returns-clause-cut : goal.returns-clause-cut
returns-clause-cut c =
    let at = (goal.at.returns-clause-cut c).In-Some in
    let (b, is) = block at in
    let read : c.index_mut.result.now ≡ Some b = get_or_read c.self.inside.slots.items c.in-Some.slot c.index_mut.result.now (within at) c.index_mut.ensures.value None ∙ is in
    let i = c.self.inside in
    rw (c.cut_in.ensures, read) (cut-told c.args.chain c.args.words i.slots.items (set i.slots.items c.in-Some.slot (Some (record { first = b.first; words = c.args.words }))) i.by_chain i.by_place i.mask i.room c.args.self.now.lists (done at b is) (ap (λ (l : Listed). l.lists) c.self.view_is))

pub returns-clause-lists : goal.returns-clause-lists
returns-clause-lists c = length-set_lists c.self.inside.slots.items _ c.self.inside.by_chain.lists ∙ ap (λ (l : Listed). length l.lists) c.self.view_is
