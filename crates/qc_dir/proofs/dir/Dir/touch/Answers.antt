use Rattle.std.proofs.Common.{refl, ap, ◌∙◌}
use Rattle.qc_dir.specs.Keys.{total}
use Rattle.qc_dir.specs.Uses.{entries_of}
use Rattle.qc_dir.proofs.EntryTotals.{total-moved}
use Rattle.qc_dir.proofs.DirSteps.{directory, still}
use Rattle.qc_dir.proofs.dir.Dir.touch.Goals as goal

pub invariant_of-self : goal.invariant_of-self
invariant_of-self c =
    still _ _ _ _ _ _ c.self.invariant (λ w ignores. ap (λ es. total w es) c.touch.ensures.entries ∙ total-moved w (λ e. e) c.args.serial (entries_of c.self.inside.entries) c.self.invariant.serials (λ e. refl)) c.touch.ensures.room

pub returns-clause-valid : goal.returns-clause-valid
returns-clause-valid c = directory _ _ _ _ _ (invariant_of-self c)
