use Rattle.std.proofs.Common.{pos, filter, length, sym, subst, ap, ◌∙◌}
use Rattle.qc_types.specs.declared.names.Value.TheVariants as value
use Rattle.qc_resolve.specs.declared.resolved.Fold.TheVariants as aggregate
use Rattle.qc_resolve.specs.Meaning.{fold_value, value_at}
use Rattle.qc_eval.specs.Lanes.{AreMasks, cells_of, singles, window_rows}
use Rattle.qc_eval.proofs.LaneFolds.{seen_by_mask}
use Rattle.qc_eval.proofs.LaneSteps.{lane_count, lane_words}
use Rattle.qc_eval.proofs.Ranges.{column_is}
use Rattle.qc_eval.proofs.lane_totals.count_at.Goals as goal

pub count_lane-requires-clause-nulls : goal.count_lane-requires-clause-nulls
count_lane-requires-clause-nulls g c = lane_words (cells_of (value_at c.in-Some.place) (window_rows c.args.table.now c.args.window)) c.in-Some-lane_of.lane c.in-Some-lane_of.ensures

pub count_lane-requires-clause-masks : goal.count_lane-requires-clause-masks
count_lane-requires-clause-masks g c = subst (λ n. AreMasks n c.args.mask.now c.args.other.now) (sym (lane_count c.args.table.now c.args.window (value_at c.in-Some.place) c.in-Some-lane_of.lane c.requires.window c.in-Some-lane_of.ensures)) c.requires.masks

pub returns : goal.returns
returns g c keep m =
    let rows = window_rows c.args.table.now c.args.window in
    let p = c.in-Some.place in
    c.count_lane.ensures (cells_of (value_at p) rows) c.in-Some-lane_of.ensures
    ∙ ap (λ vs. value.Int (pos (length vs))) (seen_by_mask keep (value_at p) c.args.mask.now rows m)
    ∙ ap (λ f. fold_value (filter keep (singles rows)) (aggregate.Count f)) (sym (column_is c.args.formula.now p (sym c.in-Some.ensures)))
