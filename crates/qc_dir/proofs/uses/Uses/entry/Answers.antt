use Rattle.std.proofs.Common.{◌∙◌, sym, ap}
use Rattle.qc_dir.specs.Directory.{entry_at}
use Rattle.qc_dir.specs.Uses.{entries_of}
use Rattle.qc_dir.proofs.UseSteps.{entry-is, entry-none}
use Rattle.qc_dir.proofs.uses.Uses.entry.Goals as goal

pub returns-in_default : goal.returns-in_default
returns-in_default c = sym (entry-none c.args.serial c.self.inside.slots c.self.inside.order c.self.invariant.ordered (c.find.ensures.none c.in_default.is)) ∙ ap (entry_at c.args.serial) (ap entries_of c.self.view_is)

pub at-requires : goal.at-requires
at-requires c = (c.in-Some.ensures {u = tt}).some.0

pub returns : goal.returns
returns c =
    let i = c.self.inside in
    let is = (c.in-Some.ensures {u = tt}).some in
    c.as_ref.ensures.value ∙ (c.at.ensures ∙ entry-is c.args.serial c.in-Some.slot i.slots i.order i.count i.incomplete c.args.self.now (record { kept = c.self.invariant; view = c.self.view_is }) is.0 is.1)
