use Rattle.std.proofs.Common.{refl}
use Rattle.qc_turn.specs.Seats.{view}
use Rattle.qc_flow.proofs.Licences.{long_granted}
use Rattle.qc_flow.proofs.Told.{large_told, has_ended}
use Rattle.qc_flow.proofs.endings.end_large.Goals as goal

pub give_up-ended-requires-clause-granted : goal.give_up-ended-requires-clause-granted
give_up-ended-requires-clause-granted g c = long_granted c.args.serial c.args.length c.args.limit (view c.args.seat.now) c.requires.long

pub returns-clause-step : goal.returns-clause-step
returns-clause-step g c =
    let e = c.give_up-ended.ensures in
    let w = view c.give_up-ended.new.seat in
    let told = large_told w.seen c.args.serial c.args.length c.args.limit c.give_up-ended.result e.ok e.err in
    (refl, has_ended c.args.serial w e.rests told.0, told.1, e.alone)

pub give_up-ended-requires-clause-other : goal.give_up-ended-requires-clause-other
give_up-ended-requires-clause-other g c = λ seat s. tt
