-- A bit that is turned is that of the opposite relation.
use Rattle.std.proofs.Common.{get_or, pos, rules, w64, Fits}
use Rattle.std.specs.Ordering.{int_eq}
use Rattle.std.proofs.lemmas.Int.{to_z-of_z}
use Rattle.qc_lane.proofs.BitSteps.{turned}
use Rattle.qc_lane.proofs.compare.other.Goals as goal

pub returns : goal.returns
returns c i low =
    let x = get_or c.args.values.now i (pos 0) in
    let fits : Fits w64 c.equal.result = search rules in
    let given = rw (to_z-of_z w64 c.args.bound c.ranges.bound) at (c.equal.ensures i low) in
    turned c.equal.result (int_eq x c.args.bound) i fits low given
