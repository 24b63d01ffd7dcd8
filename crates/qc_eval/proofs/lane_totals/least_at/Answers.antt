use Rattle.std.proofs.Common.{sym, subst, ap, ◌∙◌}
use Rattle.qc_sql.specs.Rows.{best}
use Rattle.qc_eval.specs.Folds.{lower}
use Rattle.qc_resolve.specs.Meaning.{value_at}
use Rattle.qc_eval.specs.Lanes.{AreMasks, cells_of, window_rows}
use Rattle.qc_eval.proofs.LaneFolds.{seen_by_mask}
use Rattle.qc_eval.proofs.LaneSteps.{lane_count, lane_words}
use Rattle.qc_eval.proofs.lane_totals.least_at.Goals as goal

pub least_in_lane-requires-clause-nulls : goal.least_in_lane-requires-clause-nulls
least_in_lane-requires-clause-nulls g c = lane_words (cells_of (value_at c.args.place) (window_rows c.args.table.now c.args.window)) c.in-Some.lane c.in-Some.ensures

pub least_in_lane-requires-clause-masks : goal.least_in_lane-requires-clause-masks
least_in_lane-requires-clause-masks g c = subst (λ n. AreMasks n c.args.mask.now c.args.other.now) (sym (lane_count c.args.table.now c.args.window (value_at c.args.place) c.in-Some.lane c.requires.window c.in-Some.ensures)) c.requires.masks

pub returns : goal.returns
returns g c keep m =
    let rows = window_rows c.args.table.now c.args.window in
    c.least_in_lane.ensures (cells_of (value_at c.args.place) rows) c.in-Some.ensures ∙ ap (best lower) (seen_by_mask keep (value_at c.args.place) c.args.mask.now rows m)
