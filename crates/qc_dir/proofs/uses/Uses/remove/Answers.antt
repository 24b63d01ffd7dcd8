use Rattle.std.proofs.Common.{◌≤◌, ◌-◌, ◌+◌, ◌∙◌, sym, ap, not, arith}
use Rattle.qc_dir.specs.Directory.{without}
use Rattle.qc_dir.specs.Keys.{bit}
use Rattle.qc_dir.specs.Uses.{Used, entries_of}
use Rattle.qc_dir.proofs.UseSteps.{IsNow, serial-there, is-some, has-entry, entry-is, taken-out}
use Rattle.qc_dir.proofs.uses.Uses.remove.Goals.{In-Some}
use Rattle.qc_dir.proofs.uses.Uses.remove.Goals as goal

pub slot_of-slot-requires : goal.slot_of-slot-requires
slot_of-slot-requires c = serial-there c.args.serial c.self.inside.slots c.self.inside.order (entries_of c.args.self.now) c.self.invariant.ordered (ap entries_of c.self.view_is) (is-some _ c.requires)

pub put_last-requires-clause-node : goal.put_last-requires-clause-node
put_last-requires-clause-node c = omega (arith, c.slot_of-slot.ensures.within, c.self.invariant.ordered.nodes)

pub put_last-requires-clause-list : goal.put_last-requires-clause-list
put_last-requires-clause-list c = omega (arith, c.self.invariant.ordered.lists)

pub take-requires : goal.take-requires
take-requires c = c.slot_of-slot.ensures.within

pub unreachable-requires : goal.unreachable-requires
unreachable-requires c =
    let e = has-entry c.args.serial _ c.slot_of-slot.ensures.entry in
    c.in_default.not-Some e.0 (c.take.ensures.entry ∙ e.1)

done : (c : In-Some) → (1 ≤ c.self.inside.count) × (bit (not c.in-Some.entry.complete) ≤ c.self.inside.incomplete) × IsNow c.take.new.self c.put_last.new.self (c.self.inside.count - 1) (c.self.inside.incomplete - bit (not c.in-Some.entry.complete)) (record { entries = without c.args.serial (entries_of c.args.self.now); room = c.args.self.now.room + 1 })
done c =
    let i = c.self.inside in
    rw c.take.ensures.slots (taken-out c.args.serial c.slot_of-slot.result i.slots i.order c.put_last.new.self i.count i.incomplete c.args.self.now c.in-Some.entry (record { kept = c.self.invariant; view = c.self.view_is }) c.slot_of-slot.ensures.within c.slot_of-slot.ensures.entry (sym c.take.ensures.entry ∙ c.in-Some.is) c.put_last.ensures.moved)

pub overflow_sub-self : goal.overflow_sub-self
overflow_sub-self c = omega (arith, (done (goal.at.overflow_sub-self c).In-Some).0)

pub overflow_sub-self-2 : goal.overflow_sub-self-2
overflow_sub-self-2 c = omega (arith, c.missing.ensures, (done (goal.at.overflow_sub-self-2 c).In-Some).1)

pub invariant_of-self : goal.invariant_of-self
invariant_of-self c = rw c.missing.ensures (done (goal.at.invariant_of-self c).In-Some).2.kept

pub returns-clause-entry : goal.returns-clause-entry
returns-clause-entry c =
    let i = c.self.inside in
    sym (entry-is c.args.serial c.slot_of-slot.result i.slots i.order i.count i.incomplete c.args.self.now (record { kept = c.self.invariant; view = c.self.view_is }) c.slot_of-slot.ensures.within c.slot_of-slot.ensures.entry) ∙ (sym c.take.ensures.entry ∙ c.in-Some.is)

pub returns-clause-entries : goal.returns-clause-entries
returns-clause-entries c = ap entries_of (done (goal.at.returns-clause-entries c).In-Some).2.view

pub returns-clause-room : goal.returns-clause-room
returns-clause-room c = ap (λ (d : Used). d.room) (done (goal.at.returns-clause-room c).In-Some).2.view
