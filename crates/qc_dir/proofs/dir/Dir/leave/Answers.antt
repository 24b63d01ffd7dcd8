use Rattle.std.proofs.Common.{◌-◌, ap, ◌∙◌}
use Rattle.qc_dir.specs.Keys.{total}
use Rattle.qc_dir.specs.Uses.{entries_of}
use Rattle.qc_dir.proofs.EntryTotals.{total-changed}
use Rattle.qc_dir.proofs.DirSteps.{directory, still}
use Rattle.qc_dir.proofs.dir.Dir.leave.Goals as goal

pub invariant_of-self : goal.invariant_of-self
invariant_of-self c =
    still _ _ _ _ _ _ c.self.invariant (λ w ignores. ap (λ es. total w es) c.leave.ensures.entries ∙ total-changed w (λ e. record e { users = e.users - 1 }) c.args.serial (entries_of c.self.inside.entries) (λ e. ignores e e.text e.complete (e.users - 1))) c.leave.ensures.room

pub returns-clause-valid : goal.returns-clause-valid
returns-clause-valid c = directory _ _ _ _ _ (invariant_of-self c)
