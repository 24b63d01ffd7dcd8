use Rattle.std.proofs.Common.{◌-◌, ap, arith}
use Rattle.qc_dir.specs.Directory.{after_complete}
use Rattle.qc_dir.specs.Keys.{bit}
use Rattle.qc_dir.specs.Uses.{Used, entries_of, is_missing}
use Rattle.qc_dir.proofs.UseSteps.{IsNow, serial-there, is-some, missing-fits, completed}
use Rattle.qc_dir.proofs.uses.Uses.complete.Goals.{After-put_last}
use Rattle.qc_dir.proofs.uses.Uses.complete.Goals as goal

pub slot_of-slot-requires : goal.slot_of-slot-requires
slot_of-slot-requires c = serial-there c.args.serial c.self.inside.slots c.self.inside.order (entries_of c.args.self.now) c.self.invariant.ordered (ap entries_of c.self.view_is) (is-some _ c.requires)

pub at-requires : goal.at-requires
at-requires c = c.slot_of-slot.ensures.within

pub overflow_sub-self : goal.overflow_sub-self
overflow_sub-self c =
    let i = c.self.inside in
    omega (arith, c.missing_in.ensures, missing-fits c.slot_of-slot.result i.slots i.order i.count i.incomplete c.self.invariant c.slot_of-slot.ensures.within, ap (λ s. bit (is_missing s)) c.at.ensures)

pub complete-requires : goal.complete-requires
complete-requires c = c.slot_of-slot.ensures.within

pub put_last-requires-clause-node : goal.put_last-requires-clause-node
put_last-requires-clause-node c = omega (arith, c.slot_of-slot.ensures.within, c.self.invariant.ordered.nodes)

pub put_last-requires-clause-list : goal.put_last-requires-clause-list
put_last-requires-clause-list c = omega (arith, c.self.invariant.ordered.lists)

done : (c : After-put_last) → IsNow c.complete.new.self c.put_last.new.self c.self.inside.count (c.self.inside.incomplete - c.missing_in.result) (record { entries = after_complete c.args.serial (entries_of c.args.self.now); room = c.args.self.now.room })
done c =
    let i = c.self.inside in
    rw (c.complete.ensures, c.missing_in.ensures, c.at.ensures)
    (completed c.args.serial c.slot_of-slot.result i.slots i.order c.put_last.new.self i.count i.incomplete c.args.self.now (record { kept = c.self.invariant; view = c.self.view_is }) c.slot_of-slot.ensures.within c.slot_of-slot.ensures.entry c.put_last.ensures.moved)

pub invariant_of-self : goal.invariant_of-self
invariant_of-self c = (done (goal.at.invariant_of-self c).After-put_last).kept

pub returns-clause-entries : goal.returns-clause-entries
returns-clause-entries c = ap entries_of (done (goal.at.returns-clause-entries c).After-put_last).view

pub returns-clause-room : goal.returns-clause-room
returns-clause-room c = ap (λ (d : Used). d.room) (done (goal.at.returns-clause-room c).After-put_last).view
