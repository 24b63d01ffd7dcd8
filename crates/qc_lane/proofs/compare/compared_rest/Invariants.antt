use Rattle.std.proofs.Common.{◌≡◌, drop, map}
use Rattle.std.specs.Simd.Lanes.{mask_l}
use Rattle.qc_lane.specs.Lanes.{stands}
use Rattle.qc_lane.proofs.compare.compared_rest.Given as goal

abbrev pub invariant-loop-i : goal.invariant-loop-i
invariant-loop-i l = l.word ≡ mask_l (map (λ x. stands l.op x l.bound) (drop l.i l.values))
