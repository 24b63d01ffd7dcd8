-- A bit that is turned is that of the opposite relation.
use Rattle.std.proofs.Common.{◌∙◌, sym, get_or, pos, rules, w64, Fits}
use Rattle.std.specs.Prelude.{int_lt}
use Rattle.std.proofs.lemmas.Int.{to_z-of_z}
use Rattle.qc_lane.proofs.BitSteps.{not_greater, turned}
use Rattle.qc_lane.proofs.compare.at_least.Goals as goal

pub returns : goal.returns
returns c i low =
    let x = get_or c.args.values.now i (pos 0) in
    let fits : Fits w64 c.less.result = search rules in
    let given = rw (to_z-of_z w64 c.args.bound c.ranges.bound) at (c.less.ensures i low) in
    turned c.less.result (int_lt x c.args.bound) i fits low given ∙ sym (not_greater c.args.bound x)
