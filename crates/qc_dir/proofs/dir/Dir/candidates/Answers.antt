use Rattle.std.proofs.Common.{subst}
use Rattle.std.specs.List.Sorted.{IsPermutation}
use Rattle.qc_dir.specs.Directory.{Directory, IsDirectory, serials_under}
use Rattle.qc_dir.proofs.DirSteps.{directory}
use Rattle.qc_dir.proofs.dir.Dir.candidates.Goals as goal

pub returns-clause-serials : goal.returns-clause-serials
returns-clause-serials c = subst (λ (d : Directory). IsPermutation c.candidates.result (serials_under c.args.hash d.entries)) c.self.view_is c.candidates.ensures

pub returns-clause-valid : goal.returns-clause-valid
returns-clause-valid c = subst (λ (d : Directory). IsDirectory d) c.self.view_is (directory _ _ _ _ _ c.self.invariant)
