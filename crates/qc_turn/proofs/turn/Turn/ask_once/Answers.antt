use Rattle.std.proofs.Common.{rules}
use Rattle.qc_turn.proofs.RuleKept.{tries}
use Rattle.qc_turn.proofs.turn.Turn.ask_once.Goals as goal

pub compare_exchange-requires : goal.compare_exchange-requires
compare_exchange-requires g c = (search rules, search rules, tries g.V.Kept _ _ _ _ _ c.args.seat.now.numbered.0 c.args.seat.now.numbered.1 c.requires.free)

pub returns-clause-tells : goal.returns-clause-tells
returns-clause-tells g c = c.compare_exchange.ensures.2
