use Rattle.std.proofs.Common.{ap, ◌∙◌, length, arith}
use Rattle.qc_table.specs.Views.{int_value}
use Rattle.qc_eval.proofs.LaneFolds.{least_seen, still_ends}
use Rattle.qc_eval.proofs.lane_totals.least_in_lane.Goals as goal

pub without_nulls-requires-clause-nulls : goal.without_nulls-requires-clause-nulls
without_nulls-requires-clause-nulls c = let n = c.requires.nulls in let o = c.requires.masks.room in omega (arith, n, o)

pub without_nulls-requires-clause-mask : goal.without_nulls-requires-clause-mask
without_nulls-requires-clause-mask c = let w = c.requires.masks.words in let o = c.requires.masks.room in omega (arith, w, o)

pub min_masked-requires-clause-few : goal.min_masked-requires-clause-few
min_masked-requires-clause-few c = c.requires.masks.few

pub min_masked-requires-clause-words : goal.min_masked-requires-clause-words
min_masked-requires-clause-words c = let o = c.requires.masks.room in omega (arith, o)

pub min_masked-requires-clause-ends : goal.min_masked-requires-clause-ends
min_masked-requires-clause-ends c = still_ends c.args.mask.now c.without_nulls.new.out c.args.lane.now.nulls.now (length c.args.lane.now.values.now) c.without_nulls.ensures c.requires.masks.ends

pub returns : goal.returns
returns c cells l = c.stored.ensures ∙ ap int_value c.min_masked.ensures ∙ least_seen cells c.args.lane.now c.args.mask.now c.without_nulls.new.out l c.without_nulls.ensures
