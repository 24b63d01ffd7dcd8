use Rattle.std.proofs.Common.{pos, ap, ◌∙◌, length, arith}
use Rattle.std.specs.Int.{w128}
use Rattle.std.proofs.lemmas.Int.{to_z_pos}
use Rattle.qc_types.specs.declared.names.Value.TheVariants as value
use Rattle.qc_eval.proofs.LaneFolds.{numbers_many, still_ends}
use Rattle.qc_eval.proofs.lane_totals.count_lane.Goals as goal

pub without_nulls-requires-clause-nulls : goal.without_nulls-requires-clause-nulls
without_nulls-requires-clause-nulls c = let n = c.requires.nulls in let o = c.requires.masks.room in omega (arith, n, o)

pub without_nulls-requires-clause-mask : goal.without_nulls-requires-clause-mask
without_nulls-requires-clause-mask c = let w = c.requires.masks.words in let o = c.requires.masks.room in omega (arith, w, o)

pub mask_count-requires : goal.mask_count-requires
mask_count-requires c = let few = c.requires.masks.few in let o = c.requires.masks.room in omega (arith, few, o)

pub returns : goal.returns
returns c cells l =
    let lane = c.args.lane.now in
    let other = c.without_nulls.new.out in
    let h = c.without_nulls.ensures in
    ap value.Int (to_z_pos w128 c.mask_count.result (let small = c.mask_count.type_inv in omega (arith, small)))
    ∙ ap (λ n. value.Int (pos n))
    (c.mask_count.ensures.values lane.values.now (let o = c.requires.masks.room in omega (arith, o)) (still_ends c.args.mask.now other lane.nulls.now (length lane.values.now) h c.requires.masks.ends)
    ∙ numbers_many cells lane c.args.mask.now other l h)
