use Rattle.std.proofs.Common.{sym, subst, Option, ap, refl}
use Rattle.std.specs.Option.{IsSome}
use Rattle.qc_dir.specs.declared.entries.Entry.{Entry}
use Rattle.qc_dir.specs.Directory.{changed}
use Rattle.qc_dir.specs.Uses.{entries_of, placed_text}
use Rattle.qc_dir.proofs.UseSteps.{IsNow, serial-there, is-some, entry-is, altered}
use Rattle.qc_dir.proofs.uses.Uses.place.Goals.{After-place}
use Rattle.qc_dir.proofs.uses.Uses.place.Goals as goal

pub slot_of-slot-requires : goal.slot_of-slot-requires
slot_of-slot-requires c = serial-there c.args.serial c.self.inside.slots c.self.inside.order (entries_of c.args.self.now) c.self.invariant.ordered (ap entries_of c.self.view_is) (is-some _ c.requires)

pub place-requires-clause-entry : goal.place-requires-clause-entry
place-requires-clause-entry c = subst (λ (o : Option Entry). IsSome o) (sym (entry-is c.args.serial c.slot_of-slot.result c.self.inside.slots c.self.inside.order c.self.inside.count c.self.inside.incomplete c.args.self.now (record { kept = c.self.invariant; view = c.self.view_is }) c.slot_of-slot.ensures.within c.slot_of-slot.ensures.entry)) c.requires

done : (c : After-place) → IsNow c.place.new.self c.self.inside.order c.self.inside.count c.self.inside.incomplete (record { entries = changed c.args.serial (placed_text c.args.first) (entries_of c.args.self.now); room = c.args.self.now.room })
done c =
    let i = c.self.inside in
    rw c.place.ensures (altered (placed_text c.args.first) c.args.serial c.slot_of-slot.result i.slots i.order i.count i.incomplete c.args.self.now (record { kept = c.self.invariant; view = c.self.view_is }) c.slot_of-slot.ensures.within c.slot_of-slot.ensures.entry (λ e. refl) (λ e. refl))

pub invariant_of-self : goal.invariant_of-self
invariant_of-self c = (done (goal.at.invariant_of-self c).After-place).kept

pub returns-clause-entries : goal.returns-clause-entries
returns-clause-entries c = ap entries_of (done (goal.at.returns-clause-entries c).After-place).view
