use Rattle.qc_turn.specs.Seats.{view}
use Rattle.qc_flow.proofs.Told.{whole_told, has_ended}
use Rattle.qc_flow.proofs.endings.end_whole.Goals as goal

pub returns-in-Ok-clause-ended : goal.returns-in-Ok-clause-ended
returns-in-Ok-clause-ended g c =
    let e = c.complete.ensures in
    let w = view c.complete.new.seat in
    has_ended c.args.serial w e.rests (whole_told w.seen c.args.serial c.complete.result e.ok e.err)
