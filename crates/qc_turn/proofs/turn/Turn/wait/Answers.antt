use Rattle.std.proofs.Common.{◌∙◌}
use Rattle.qc_turn.proofs.RuleKept.{won_from}
use Rattle.qc_turn.proofs.turn.Turn.wait.Goals as goal

pub returns-in-Ok : goal.returns-in-Ok
returns-in-Ok g c = let t = c.in-Ok.ensures in let i = c.loop.invariant in (won_from g.V.Kept 0 _ _ _ _ i.1 i.2 t.0, t.1 ∙ i.3)
