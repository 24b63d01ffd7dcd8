use Rattle.std.proofs.Common.{◌≡◌, ◌<◌, ◌-◌, ◌+◌, ◌∙◌, ap, set, length, Some, [], arith}
use Rattle.qc_chain.specs.Linked.{nodes_of}
use Rattle.qc_chain.proofs.FiledSteps.{bucket-low}
use Rattle.qc_chain.specs.Listed.{Listed}
use Rattle.qc_chain.proofs.BlockSteps.{IsAppended, appended, length-seen}
use Rattle.qc_chain.proofs.block_lists.BlockLists.append.Goals.{In-Some, After-put_last-2}
use Rattle.qc_chain.proofs.block_lists.BlockLists.append.Goals as goal

pub last-requires : goal.last-requires
last-requires c = c.self.invariant.0.some

pub unreachable-requires : goal.unreachable-requires
unreachable-requires c =
    let none : nodes_of 0 c.self.inside.by_chain.lists ≡ [] = (c.in_default.ensures {u = tt}).last in
    omega (arith, ap length none, c.self.invariant.0.free, c.requires.room, ap (λ (l : Listed). l.room) c.self.view_is)

within : (c : In-Some) → c.in-Some.slot < length c.self.inside.slots.items
within c = omega (arith, (c.in-Some.ensures {u = tt}).below, c.self.invariant.0.nodes)

inside : (c : In-Some) → c.args.chain + 1 < length c.self.inside.by_chain.lists
inside c = omega (arith, c.requires.chain, ap (λ (l : Listed). length l.lists) c.self.view_is, length-seen c.self.inside.slots.items c.self.inside.by_chain.lists)

pub overflow_add-chain : goal.overflow_add-chain
overflow_add-chain c = omega (arith, inside (goal.at.overflow_add-chain c).In-Some, c.self.invariant.0.many)

pub put_last-requires-clause-list : goal.put_last-requires-clause-list
put_last-requires-clause-list c = inside (goal.at.put_last-requires-clause-list c).In-Some

pub put_last-requires-2-clause-node : goal.put_last-requires-2-clause-node
put_last-requires-2-clause-node c = omega (arith, within (goal.at.put_last-requires-2-clause-node c).In-Some, c.self.invariant.0.placed.nodes)

pub put_last-requires-2-clause-list : goal.put_last-requires-2-clause-list
put_last-requires-2-clause-list c = omega (arith, c.bucket.ensures, bucket-low c.self.inside.mask c.from.result, c.self.invariant.0.placed.lists)

pub overflow_sub-self : goal.overflow_sub-self
overflow_sub-self c = omega (arith, c.requires.room, ap (λ (l : Listed). l.room) c.self.view_is)

pub index_mut-requires : goal.index_mut-requires
index_mut-requires c = omega (arith, within (goal.at.index_mut-requires c).In-Some, c.self.inside.slots.ok.0)

done : (c : After-put_last-2) → IsAppended c.args.chain c.args.block c.self.inside.slots.items (set c.self.inside.slots.items c.in-Some.slot (Some c.args.block)) c.self.inside.by_chain c.put_last.new.self c.put_last-2.new.self c.self.inside.mask c.self.inside.room
done c =
    let i = c.self.inside in
    appended i.slots.items i.by_chain c.put_last.new.self i.by_place c.put_last-2.new.self i.mask i.room c.in-Some.slot c.args.chain c.args.block c.self.invariant.0 (omega (arith, (c.in-Some.ensures {u = tt}).below, c.self.invariant.0.nodes))
    (omega (arith, c.requires.chain, ap (λ (l : Listed). length l.lists) c.self.view_is, length-seen i.slots.items i.by_chain.lists)) (c.in-Some.ensures {u = tt}).last c.put_last.ensures.moved (rw (c.bucket.ensures, c.from.ensures) at c.put_last-2.ensures.moved)

pub invariant_of-self : goal.invariant_of-self
invariant_of-self c = ((done (goal.at.invariant_of-self c).After-put_last-2).listed, c.self.invariant.1)

pub returns-clause-appended : goal.returns-clause-appended
returns-clause-appended c = rw (← c.self.view_is) (done (goal.at.returns-clause-appended c).After-put_last-2).appends

pub returns-clause-lists : goal.returns-clause-lists
returns-clause-lists c = (done (goal.at.returns-clause-lists c).After-put_last-2).long ∙ ap (λ (l : Listed). length l.lists) c.self.view_is

pub returns-clause-room : goal.returns-clause-room
returns-clause-room c = omega (arith, c.requires.room, ap (λ (l : Listed). l.room) c.self.view_is)

pub returns-clause-few : goal.returns-clause-few
returns-clause-few c = (done (goal.at.returns-clause-few c).After-put_last-2).few
