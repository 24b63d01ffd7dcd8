-- So many, or as many as there are.
use Rattle.std.proofs.Common.{◌+◌, ◌-◌, ◌*◌, drop, length-drop, arith}
use Rattle.std.proofs.lemmas.List.{length-take}
use Rattle.qc_lane.proofs.Words.{take_some}
use Rattle.qc_lane.proofs.aggregates.values_of.Goals as goal

pub returns-clause-values : goal.returns-clause-values
returns-clause-values c =
    let long = length-drop (64 * c.args.word) c.args.values.now in
    let least = c.min-count.ensures in
    take_some 64 (drop (64 * c.args.word) c.args.values.now) (64 * c.args.word + c.min-count.result - 64 * c.args.word) (omega (arith, long, least))

pub returns-clause-few : goal.returns-clause-few
returns-clause-few c =
    let long = length-take (64 * c.args.word + c.min-count.result - 64 * c.args.word) (drop (64 * c.args.word) c.args.values.now) in
    let least = c.min-count.ensures in
    omega (arith, long, least)
