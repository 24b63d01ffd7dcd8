use Rattle.qc_eval.proofs.LaneSteps.{lane_is}
use Rattle.qc_eval.proofs.window.number_lane.Goals as goal

pub returns : goal.returns
returns g c =
    lane_is c.args.table.now c.args.window c.args.column c.lane_in.result c.values.result.now c.nulls.result.now c.column-view.result c.columns-columns.ensures.sound c.requires.number c.requires.window c.column-view.ensures.view c.values.ensures c.nulls.ensures
    c.lane_in.ensures.values c.lane_in.ensures.nulls
