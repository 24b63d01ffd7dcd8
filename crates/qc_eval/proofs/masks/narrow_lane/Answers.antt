use Rattle.std.proofs.Common.{pos, nat_lt, not, length, get_or, ◌∙◌, w64}
use Rattle.std.specs.Prelude.{◌&&◌}
use Rattle.std.proofs.lemmas.Int.{to_z-of_z}
use Rattle.qc_lane.specs.Lanes.{is_set, stands}
use Rattle.qc_eval.proofs.LaneSteps.{narrowed}
use Rattle.qc_eval.proofs.masks.narrow_lane.Goals as goal

pub returns : goal.returns
returns c cells l =
    narrowed cells c.args.lane.now c.args.op c.args.number c.args.mask.now c.compare_mask.new.out c.mask_and.new.out l
    (λ k. c.compare_mask.ensures k
    ∙ (λ j. nat_lt k (length c.args.lane.now.values.now) && (not (is_set c.args.lane.now.nulls.now k) && stands (c.relation.ensures j) (get_or c.args.lane.now.values.now k (pos 0)) (to_z-of_z w64 c.args.number c.ranges.number j))))
    c.mask_and.ensures
