use Rattle.qc_turn.specs.Seats.{view}
use Rattle.qc_flow.proofs.Told.{abandon_told}
use Rattle.qc_flow.proofs.endings.abandon.Goals as goal

pub give_up-ended-requires-clause-granted : goal.give_up-ended-requires-clause-granted
give_up-ended-requires-clause-granted g c = λ s sound begins fixed there. tt

pub returns-clause-abandons : goal.returns-clause-abandons
returns-clause-abandons g c = let e = c.give_up-ended.ensures in abandon_told (view c.give_up-ended.new.seat) c.args.serial c.give_up-ended.result e.ok e.err

pub give_up-ended-requires-clause-other : goal.give_up-ended-requires-clause-other
give_up-ended-requires-clause-other g c = λ seat s. tt
