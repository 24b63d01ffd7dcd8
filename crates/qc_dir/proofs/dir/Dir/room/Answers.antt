use Rattle.std.proofs.Common.{subst}
use Rattle.qc_dir.specs.Directory.{Directory, IsDirectory}
use Rattle.qc_dir.proofs.DirSteps.{directory}
use Rattle.qc_dir.proofs.dir.Dir.room.Goals as goal

pub returns-clause-valid : goal.returns-clause-valid
returns-clause-valid c = subst (λ (d : Directory). IsDirectory d) c.self.view_is (directory _ _ _ _ _ c.self.invariant)
