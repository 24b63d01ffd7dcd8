use Rattle.qc_eval.proofs.LaneSteps.{lane_at}
use Rattle.qc_eval.proofs.window.lane_of.Goals as goal

pub returns-in-Int : goal.returns-in-Int
returns-in-Int g c = lane_at c.args.table.now c.args.window c.args.place c.number_lane.result c.if-place-ne0.false c.number_lane.ensures
