use Rattle.std.proofs.Common.{◌<◌, ◌∙◌, sym, ap, subst, length, set, Some, arith}
use Rattle.std.specs.Option.{IfSome}
use Rattle.qc_chain.specs.declared.keys.Key.{Key}
use Rattle.qc_chain.specs.Linked.{nodes_of}
use Rattle.qc_dir.specs.Keys.{Keys, times}
use Rattle.qc_chain.proofs.FiledSteps.{first-there, bucket-low}
use Rattle.qc_dir.proofs.KeyCounts.{IsInserted, inserted}
use Rattle.qc_dir.proofs.keys.KeySet.insert.Goals.{In-Some, After-put_last-2}
use Rattle.qc_dir.proofs.keys.KeySet.insert.Goals as goal

pub first-requires : goal.first-requires
first-requires c = omega (arith, c.self.invariant.0.by_major.lists)

pub unreachable-requires : goal.unreachable-requires
unreachable-requires c =
    let some = first-there (nodes_of 0 c.self.inside.by_major.lists) (omega (arith, c.requires, ap (λ (s : Keys). s.room) c.self.view_is)) in
    c.in_default.not-Some some.0 (c.first.ensures.first ∙ some.1)

within : (c : In-Some) → c.in-Some.slot < length c.self.inside.slots.items
within c =
    let node : c.in-Some.slot < c.self.inside.by_major.nodes = subst (λ o. IfSome o (λ n. n < c.self.inside.by_major.nodes)) c.in-Some.is c.first.ensures.below in
    omega (arith, node, c.self.invariant.0.by_major.nodes)

pub put_last-requires-clause-node : goal.put_last-requires-clause-node
put_last-requires-clause-node c = omega (arith, within (goal.at.put_last-requires-clause-node c).In-Some, c.self.invariant.0.by_major.nodes)

pub put_last-requires-clause-list : goal.put_last-requires-clause-list
put_last-requires-clause-list c = omega (arith, c.bucket.ensures, bucket-low c.self.inside.mask c.args.major, c.self.invariant.0.by_major.lists)

pub put_last-requires-2-clause-node : goal.put_last-requires-2-clause-node
put_last-requires-2-clause-node c = omega (arith, within (goal.at.put_last-requires-2-clause-node c).In-Some, c.self.invariant.0.by_key.nodes)

pub put_last-requires-2-clause-list : goal.put_last-requires-2-clause-list
put_last-requires-2-clause-list c = omega (arith, c.bucket-2.ensures, bucket-low c.self.inside.mask c.pair.result, c.self.invariant.0.by_key.lists)

pub index_mut-requires : goal.index_mut-requires
index_mut-requires c = omega (arith, within (goal.at.index_mut-requires c).In-Some, c.self.inside.slots.ok.0)

abbrev key_of : (c : After-put_last-2) → Key
key_of c = record { major = c.args.major; minor = c.args.minor }

done : (c : After-put_last-2) → IsInserted c.self.inside.slots.items (set c.self.inside.slots.items c.in-Some.slot (Some (key_of c))) c.self.inside.by_major c.put_last.new.self c.put_last-2.new.self c.self.inside.mask (key_of c)
done c =
    let i = c.self.inside in
    let node : c.in-Some.slot < i.by_major.nodes = subst (λ o. IfSome o (λ n. n < i.by_major.nodes)) c.in-Some.is c.first.ensures.below in
    inserted i.slots.items i.by_major i.by_key c.put_last.new.self c.put_last-2.new.self i.mask c.in-Some.slot (key_of c) c.self.invariant.0 (omega (arith, node, c.self.invariant.0.by_major.nodes)) (sym c.first.ensures.first ∙ c.in-Some.is)
    (rw c.bucket.ensures at c.put_last.ensures.moved) (rw (c.bucket-2.ensures, c.pair.ensures) at c.put_last-2.ensures.moved)

pub invariant_of-self : goal.invariant_of-self
invariant_of-self c = ((done (goal.at.invariant_of-self c).After-put_last-2).kept, c.self.invariant.1)

pub returns-clause-keys : goal.returns-clause-keys
returns-clause-keys c = λ j. omega (arith, (done (goal.at.returns-clause-keys c).After-put_last-2).keys j, ap (λ (s : Keys). times j s.keys) c.self.view_is)

pub returns-clause-room : goal.returns-clause-room
returns-clause-room c = omega (arith, (done (goal.at.returns-clause-room c).After-put_last-2).room, ap (λ (s : Keys). s.room) c.self.view_is)
