use Rattle.std.proofs.Common.{◌∙◌, sym, ap, Option, None}
use Rattle.std.specs.Option.{option_map}
use Rattle.std.proofs.lemmas.List.{get_or_read}
use Rattle.qc_dir.specs.declared.entries.Entry.{Entry}
use Rattle.qc_dir.specs.Directory.{serials_under}
use Rattle.qc_chain.specs.Filed.{in_slots}
use Rattle.qc_dir.proofs.EntrySteps.{next-serial, no-serial}
use Rattle.qc_dir.proofs.candidates.Candidates.next.Goals as goal

pub next_with-requires : goal.next_with-requires
next_with-requires c = c.self.invariant

pub invariant_of-self : goal.invariant_of-self
invariant_of-self c = c.next_with.ensures.below

pub returns-in_default : goal.returns-in_default
returns-in_default c =
    let i = c.self.inside in
    let none = rw c.in_default.is at c.next_with.ensures.next in
    (sym c.self.view_is ∙ no-serial i.hash i.slots.now i.list none.0, ap (λ ns. serials_under i.hash (in_slots i.slots.now ns)) none.1)

pub returns : goal.returns
returns c =
    let i = c.self.inside in
    let found = c.in-Some.ensures {u = tt} in
    next-serial i.hash c.in-Some.slot i.slots.now i.list c.next_with.new.list c.args.self.now c.index-self-slot.result c.serial_in.result (sym c.self.view_is) found.next (get_or_read i.slots.now c.in-Some.slot c.index-self-slot.result found.entry.0 c.index-self-slot.is None) found.entry.1 (c.serial_in.ensures ∙ ap (λ (o : Option Entry). option_map (λ (e : Entry). e.serial) o) (sym c.index-self-slot.is))
