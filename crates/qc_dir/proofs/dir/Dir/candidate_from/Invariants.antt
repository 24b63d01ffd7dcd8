use Rattle.std.proofs.Common.{length}
use Rattle.qc_dir.proofs.Serials.{IsLeastSoFar}
use Rattle.qc_dir.proofs.dir.Dir.candidate_from.Given as goal

abbrev pub invariant-loop-serial : goal.invariant-loop-serial
invariant-loop-serial l = IsLeastSoFar l.from l.serials l.initial.serials l.least

abbrev pub decreases-loop-serial : goal.decreases-loop-serial
decreases-loop-serial l = length l.serials
