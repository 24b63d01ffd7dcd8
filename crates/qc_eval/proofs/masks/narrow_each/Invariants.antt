use Rattle.std.proofs.Common.{take}
use Rattle.qc_eval.specs.Lanes.{Leaves, window_rows}
use Rattle.qc_eval.specs.Walk.{passes}
use Rattle.qc_eval.proofs.masks.narrow_each.Given as goal

-- of the tests so far
abbrev pub invariant-loop-test : goal.invariant-loop-test
invariant-loop-test g l = Leaves (window_rows l.table l.window) (λ c. passes c (take l.test-index l.tests)) l.fn.mask l.mask
