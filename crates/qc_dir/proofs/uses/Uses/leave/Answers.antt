use Rattle.std.proofs.Common.{◌-◌, ◌<◌, sym, subst, Option, ap, refl}
use Rattle.std.specs.Option.{IsSomeAnd}
use Rattle.qc_dir.specs.declared.entries.Entry.{Entry}
use Rattle.qc_dir.specs.Directory.{after_leave}
use Rattle.qc_dir.specs.Uses.{entries_of}
use Rattle.qc_dir.proofs.UseSteps.{IsNow, serial-there, is-some_and, entry-is, altered}
use Rattle.qc_dir.proofs.uses.Uses.leave.Goals.{After-leave}
use Rattle.qc_dir.proofs.uses.Uses.leave.Goals as goal

pub slot_of-slot-requires : goal.slot_of-slot-requires
slot_of-slot-requires c = serial-there c.args.serial c.self.inside.slots c.self.inside.order (entries_of c.args.self.now) c.self.invariant.ordered (ap entries_of c.self.view_is) (is-some_and _ _ c.requires)

pub leave-requires-clause-some : goal.leave-requires-clause-some
leave-requires-clause-some c = subst (λ (o : Option Entry). IsSomeAnd o (λ (e : Entry). 0 < e.users)) (sym (entry-is c.args.serial c.slot_of-slot.result c.self.inside.slots c.self.inside.order c.self.inside.count c.self.inside.incomplete c.args.self.now (record { kept = c.self.invariant; view = c.self.view_is }) c.slot_of-slot.ensures.within c.slot_of-slot.ensures.entry)) c.requires

done : (c : After-leave) → IsNow c.leave.new.self c.self.inside.order c.self.inside.count c.self.inside.incomplete (record { entries = after_leave c.args.serial (entries_of c.args.self.now); room = c.args.self.now.room })
done c =
    let i = c.self.inside in
    rw c.leave.ensures (altered (λ (e : Entry). record e { users = e.users - 1 }) c.args.serial c.slot_of-slot.result i.slots i.order i.count i.incomplete c.args.self.now (record { kept = c.self.invariant; view = c.self.view_is }) c.slot_of-slot.ensures.within c.slot_of-slot.ensures.entry (λ e. refl) (λ e. refl))

pub invariant_of-self : goal.invariant_of-self
invariant_of-self c = (done (goal.at.invariant_of-self c).After-leave).kept

pub returns-clause-entries : goal.returns-clause-entries
returns-clause-entries c = ap entries_of (done (goal.at.returns-clause-entries c).After-leave).view
