use Rattle.std.proofs.Common.{arith, pos, ap, ◌∙◌}
use Rattle.std.specs.Int.{w128}
use Rattle.std.proofs.lemmas.Int.{to_z_pos}
use Rattle.qc_types.specs.declared.names.Value.TheVariants as value
use Rattle.qc_eval.proofs.LaneFolds.{count_masked}
use Rattle.qc_eval.proofs.lane_totals.counted.Goals as goal

pub returns : goal.returns
returns c cells words ends =
    ap value.Int (to_z_pos w128 c.mask_count.result (let small = c.mask_count.type_inv in omega (arith, small)))
    ∙ ap (λ n. value.Int (pos n)) (count_masked c.args.mask.now cells c.mask_count.result c.mask_count.ensures.values words ends)
