-- Each lane is compared with the bound.
use Rattle.std.proofs.Common.{of_z, w64, pos, get_or, nat_eq, FitsSigned}
use Rattle.std.specs.Ordering.{int_eq}
use Rattle.qc_lane.proofs.BitSteps.{lane_bits, same_number}
use Rattle.qc_lane.proofs.compare.equal.Goals as goal

pub returns : goal.returns
returns c i low =
    let x = get_or c.args.values.now i (pos 0) in
    let fits : FitsSigned w64 x = c.read_lanes.ensures i low in
    lane_bits nat_eq (λ z. int_eq z c.args.bound) c.args.values.now (of_z w64 c.args.bound) c.requires i low (same_number x c.args.bound fits c.ranges.bound)
