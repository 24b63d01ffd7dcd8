use Rattle.std.proofs.Common.{ap, set, None, arith}
use Rattle.qc_dir.specs.Keys.{Keys, times}
use Rattle.qc_dir.proofs.KeyCounts.{IsRemoved, removed}
use Rattle.qc_dir.proofs.keys.KeySet.remove.Goals.{After-put_last-2}
use Rattle.qc_dir.proofs.keys.KeySet.remove.Goals as goal

pub slot_of-requires-clause-filed : goal.slot_of-requires-clause-filed
slot_of-requires-clause-filed c = rw c.deref.ensures.value c.self.invariant.0.by_key

pub unreachable-requires : goal.unreachable-requires
unreachable-requires c = omega (arith, c.requires, rw c.deref.ensures.value at (c.in_default.ensures {u = tt}), ap (λ (s : Keys). times c.args.key s.keys) c.self.view_is)

pub put_last-requires-clause-node : goal.put_last-requires-clause-node
put_last-requires-clause-node c = omega (arith, rw c.deref.ensures.value at (c.in-Some.ensures {u = tt}).0, c.self.invariant.0.by_major.nodes)

pub put_last-requires-clause-list : goal.put_last-requires-clause-list
put_last-requires-clause-list c = omega (arith, c.self.invariant.0.by_major.lists)

pub put_last-requires-2-clause-node : goal.put_last-requires-2-clause-node
put_last-requires-2-clause-node c = omega (arith, rw c.deref.ensures.value at (c.in-Some.ensures {u = tt}).0, c.self.invariant.0.by_key.nodes)

pub put_last-requires-2-clause-list : goal.put_last-requires-2-clause-list
put_last-requires-2-clause-list c = omega (arith, c.self.invariant.0.by_key.lists)

pub index_mut-requires : goal.index_mut-requires
index_mut-requires c = omega (arith, rw c.deref.ensures.value at (c.in-Some.ensures {u = tt}).0, c.self.inside.slots.ok.0)

done : (c : After-put_last-2) → IsRemoved c.self.inside.slots.items (set c.self.inside.slots.items c.in-Some.slot None) c.self.inside.by_major c.put_last.new.self c.put_last-2.new.self c.self.inside.mask c.args.key
done c =
    let i = c.self.inside in
    let at = rw c.deref.ensures.value at (c.in-Some.ensures {u = tt}) in
    removed i.slots.items i.by_major i.by_key c.put_last.new.self c.put_last-2.new.self i.mask c.in-Some.slot c.args.key c.self.invariant.0 at.0 at.1 c.put_last.ensures.moved c.put_last-2.ensures.moved

pub invariant_of-self : goal.invariant_of-self
invariant_of-self c = ((done (goal.at.invariant_of-self c).After-put_last-2).kept, c.self.invariant.1)

pub returns-clause-keys : goal.returns-clause-keys
returns-clause-keys c = λ j. omega (arith, (done (goal.at.returns-clause-keys c).After-put_last-2).keys j, ap (λ (s : Keys). times j s.keys) c.self.view_is)

pub returns-clause-room : goal.returns-clause-room
returns-clause-room c = omega (arith, (done (goal.at.returns-clause-room c).After-put_last-2).room, ap (λ (s : Keys). s.room) c.self.view_is)
