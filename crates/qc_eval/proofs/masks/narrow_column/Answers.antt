use Rattle.std.proofs.Common.{sym, subst, ap, ◌∙◌, w64}
use Rattle.std.proofs.lemmas.Int.{to_z-of_z}
use Rattle.qc_types.specs.declared.names.Value.TheVariants as value
use Rattle.qc_sql.specs.Rows.{compared, is_true}
use Rattle.qc_lane.specs.Lanes.{words_for}
use Rattle.qc_resolve.specs.Meaning.{row_value, value_at}
use Rattle.qc_eval.specs.Lanes.{Leaves, cells_of, window_rows}
use Rattle.qc_eval.proofs.LaneSteps.{lane_count, lane_words, leaves_cells}
use Rattle.qc_eval.proofs.Ranges.{column_is}
use Rattle.qc_eval.proofs.masks.narrow_column.Goals as goal

pub narrow_lane-requires-clause-nulls : goal.narrow_lane-requires-clause-nulls
narrow_lane-requires-clause-nulls g c = lane_words (cells_of (value_at c.in-Some.place) (window_rows c.args.table.now c.args.window)) c.in-Some-lane_of.lane c.in-Some-lane_of.ensures

pub narrow_lane-requires-clause-other : goal.narrow_lane-requires-clause-other
narrow_lane-requires-clause-other g c = c.requires.other ∙ ap words_for (sym (lane_count c.args.table.now c.args.window (value_at c.in-Some.place) c.in-Some-lane_of.lane c.requires.window c.in-Some-lane_of.ensures))

pub narrow_lane-requires-clause-mask : goal.narrow_lane-requires-clause-mask
narrow_lane-requires-clause-mask g c = c.requires.mask ∙ ap words_for (sym (lane_count c.args.table.now c.args.window (value_at c.in-Some.place) c.in-Some-lane_of.lane c.requires.window c.in-Some-lane_of.ensures))

pub returns : goal.returns
returns g c holds =
    let rows = window_rows c.args.table.now c.args.window in
    let p = c.in-Some.place in
    subst (λ f. Leaves rows (λ x. is_true (compared c.args.op (row_value x f) (value.Int c.args.number))) c.args.mask.now c.narrow_lane.new.mask) (sym (column_is c.args.formula.now p (sym c.in-Some.ensures)))
    (leaves_cells (value_at p) (λ v. is_true (compared c.args.op v (value.Int c.args.number))) rows c.args.mask.now c.narrow_lane.new.mask (rw (to_z-of_z w64 c.args.number c.ranges.number) at (c.narrow_lane.ensures (cells_of (value_at p) rows) c.in-Some-lane_of.ensures)))
