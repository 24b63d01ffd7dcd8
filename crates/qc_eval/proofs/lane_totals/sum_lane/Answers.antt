use Rattle.std.proofs.Common.{ap, sym, ◌∙◌, length, arith, rules, FitsSigned}
use Rattle.std.specs.Int.{w128}
use Rattle.std.proofs.lemmas.Int.{to_z-of_z}
use Rattle.qc_types.specs.declared.names.Value.TheVariants as value
use Rattle.qc_eval.proofs.LaneFolds.{still_ends, sum_nothing, sum_something}
use Rattle.qc_eval.proofs.lane_totals.sum_lane.Goals as goal

pub without_nulls-requires-clause-nulls : goal.without_nulls-requires-clause-nulls
without_nulls-requires-clause-nulls c = let n = c.requires.nulls in let o = c.requires.masks.room in omega (arith, n, o)

pub without_nulls-requires-clause-mask : goal.without_nulls-requires-clause-mask
without_nulls-requires-clause-mask c = let w = c.requires.masks.words in let o = c.requires.masks.room in omega (arith, w, o)

pub mask_count-count-requires : goal.mask_count-count-requires
mask_count-count-requires c = let few = c.requires.masks.few in let o = c.requires.masks.room in omega (arith, few, o)

pub sum_masked-requires-clause-few : goal.sum_masked-requires-clause-few
sum_masked-requires-clause-few c = c.requires.masks.few

pub sum_masked-requires-clause-words : goal.sum_masked-requires-clause-words
sum_masked-requires-clause-words c = let o = c.requires.masks.room in omega (arith, o)

pub sum_masked-requires-clause-ends : goal.sum_masked-requires-clause-ends
sum_masked-requires-clause-ends c = still_ends c.args.mask.now c.without_nulls.new.out c.args.lane.now.nulls.now (length c.args.lane.now.values.now) c.without_nulls.ensures c.requires.masks.ends

pub returns-then-count-eq0 : goal.returns-then-count-eq0
returns-then-count-eq0 c cells l =
    let lane = c.args.lane.now in
    let other = c.without_nulls.new.out in
    let h = c.without_nulls.ensures in
    sum_nothing cells lane c.args.mask.now other l h
    (sym (c.mask_count-count.ensures.values lane.values.now (let o = c.requires.masks.room in omega (arith, o)) (still_ends c.args.mask.now other lane.nulls.now (length lane.values.now) h c.requires.masks.ends)) ∙ c.if-count-eq0.true)

pub returns : goal.returns
returns c cells l =
    let lane = c.args.lane.now in
    let other = c.without_nulls.new.out in
    let h = c.without_nulls.ensures in
    let fits : FitsSigned w128 c.sum_masked.result.0 = search rules in
    ap value.Int (to_z-of_z w128 c.sum_masked.result.0 fits) ∙ ap value.Int c.sum_masked.ensures
    ∙ sum_something cells lane c.args.mask.now other l h
    (λ e. c.if-count-eq0.false (c.mask_count-count.ensures.values lane.values.now (let o = c.requires.masks.room in omega (arith, o)) (still_ends c.args.mask.now other lane.nulls.now (length lane.values.now) h c.requires.masks.ends) ∙ e))
