use Rattle.std.proofs.Common.{true, ap, ◌∙◌}
use Rattle.qc_dir.specs.Keys.{total}
use Rattle.qc_dir.specs.Uses.{entries_of}
use Rattle.qc_dir.proofs.EntryTotals.{total-moved}
use Rattle.qc_dir.proofs.DirSteps.{directory, still}
use Rattle.qc_dir.proofs.dir.Dir.complete.Goals as goal

pub invariant_of-self : goal.invariant_of-self
invariant_of-self c =
    still _ _ _ _ _ _ c.self.invariant (λ w ignores. ap (λ es. total w es) c.complete.ensures.entries ∙ total-moved w (λ e. record e { complete = true }) c.args.serial (entries_of c.self.inside.entries) c.self.invariant.serials (λ e. ignores e e.text true e.users)) c.complete.ensures.room

pub returns-clause-valid : goal.returns-clause-valid
returns-clause-valid c = directory _ _ _ _ _ (invariant_of-self c)
