use Rattle.std.proofs.Common.{◌≡◌, true, take}
use Rattle.qc_eval.specs.Chosen.{combination_of}
use Rattle.qc_eval.specs.Walk.{passes_all}
use Rattle.qc_eval.proofs.matching.keeps.Given as goal

abbrev pub invariant-loop-tests : goal.invariant-loop-tests
invariant-loop-tests g l = passes_all (take l.tests-index l.filters) (combination_of l.scene) ≡ true
