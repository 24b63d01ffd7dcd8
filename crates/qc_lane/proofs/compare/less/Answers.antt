-- Each lane is compared with the bound.
use Rattle.std.proofs.Common.{refl, of_z, to_z, w64, pos, get_or, FitsSigned}
use Rattle.std.specs.Prelude.{int_lt}
use Rattle.std.proofs.lemmas.Int.{to_z-of_z}
use Rattle.qc_lane.proofs.BitSteps.{lane_bits}
use Rattle.qc_lane.proofs.compare.less.Goals as goal

pub returns : goal.returns
returns c i low =
    let x = get_or c.args.values.now i (pos 0) in
    let fits : FitsSigned w64 x = c.read_lanes.ensures i low in
    lane_bits (λ a b. int_lt (to_z w64 a) (to_z w64 b)) (λ z. int_lt z c.args.bound) c.args.values.now (of_z w64 c.args.bound) c.requires i low (rw (to_z-of_z w64 x fits, to_z-of_z w64 c.args.bound c.ranges.bound) refl)
