use Rattle.std.proofs.Common.{◌<◌, ◌-◌, ◌+◌, ◌∷◌, [], ◌++◌, ◌∙◌, sym, ap, subst, not, length, arith}
use Rattle.std.specs.Option.{IfSome}
use Rattle.qc_chain.specs.Linked.{nodes_of}
use Rattle.qc_dir.specs.Keys.{bit}
use Rattle.qc_chain.proofs.FiledSteps.{first-there}
use Rattle.qc_dir.specs.Uses.{Used, entries_of}
use Rattle.qc_dir.proofs.UseSteps.{IsNow, put-in, counts-fit}
use Rattle.qc_dir.proofs.uses.Uses.insert.Goals.{In-Some, After-put}
use Rattle.qc_dir.proofs.uses.Uses.insert.Goals as goal

pub first-requires : goal.first-requires
first-requires c = omega (arith, c.self.invariant.ordered.lists)

pub unreachable-requires : goal.unreachable-requires
unreachable-requires c =
    let some = first-there (nodes_of 0 c.self.inside.order.lists) (omega (arith, c.requires.room, ap (λ (d : Used). d.room) c.self.view_is)) in
    c.in_default.not-Some some.0 (c.first.ensures.first ∙ some.1)

within : (c : In-Some) → c.in-Some.slot < length c.self.inside.slots
within c =
    let node : c.in-Some.slot < c.self.inside.order.nodes = subst (λ o. IfSome o (λ n. n < c.self.inside.order.nodes)) c.in-Some.is c.first.ensures.below in
    omega (arith, node, c.self.invariant.ordered.nodes)

pub put_last-requires-clause-node : goal.put_last-requires-clause-node
put_last-requires-clause-node c = omega (arith, within (goal.at.put_last-requires-clause-node c).In-Some, c.self.invariant.ordered.nodes)

pub put_last-requires-clause-list : goal.put_last-requires-clause-list
put_last-requires-clause-list c = omega (arith, c.self.invariant.ordered.lists)

pub put-requires : goal.put-requires
put-requires c = within (goal.at.put-requires c).In-Some

done : (c : After-put) → IsNow c.put.new.self c.put_last.new.self (c.self.inside.count + 1) (c.self.inside.incomplete + bit (not c.args.entry.complete)) (record { entries = entries_of c.args.self.now ++ c.args.entry ∷ []; room = c.args.self.now.room - 1 })
done c =
    let i = c.self.inside in
    let node : c.in-Some.slot < i.order.nodes = subst (λ o. IfSome o (λ n. n < i.order.nodes)) c.in-Some.is c.first.ensures.below in
    rw c.put.ensures (put-in c.in-Some.slot i.slots i.order c.put_last.new.self i.count i.incomplete c.args.self.now c.args.entry (record { kept = c.self.invariant; view = c.self.view_is }) (omega (arith, node, c.self.invariant.ordered.nodes)) (sym c.first.ensures.first ∙ c.in-Some.is) c.requires.serial c.put_last.ensures.moved)

pub overflow_add-self : goal.overflow_add-self
overflow_add-self c = omega (arith, counts-fit _ _ _ _ (done (goal.at.overflow_add-self c).After-put).kept)

pub overflow_add-self-2 : goal.overflow_add-self-2
overflow_add-self-2 c = omega (arith, counts-fit _ _ _ _ (done (goal.at.overflow_add-self-2 c).After-put).kept, c.missing-missing.ensures)

pub invariant_of-self : goal.invariant_of-self
invariant_of-self c = rw c.missing-missing.ensures (done (goal.at.invariant_of-self c).After-put).kept

pub returns-clause-entries : goal.returns-clause-entries
returns-clause-entries c = ap entries_of (done (goal.at.returns-clause-entries c).After-put).view

pub returns-clause-room : goal.returns-clause-room
returns-clause-room c = omega (arith, ap (λ (d : Used). d.room) (done (goal.at.returns-clause-room c).After-put).view, c.requires.room)
