use Rattle.std.proofs.Common.{ℕ, List, subst, sym}
use Rattle.std.specs.List.{AllByRecursion}
use Rattle.qc_serve.specs.Sent.{IsPacket}
use Rattle.qc_serve.proofs.Replying.{plan_sized}
use Rattle.qc_serve.proofs.session.Session.send_plan.Goals as goal

pub returns-clause-cut : goal.returns-clause-cut
returns-clause-cut g c = c.send_rows.ensures.cut (subst (λ (ps : List (List ℕ)). AllByRecursion IsPacket ps) (sym c.in_ok-packets.ensures) (plan_sized c.args.plan _ c.requires))

pub returns-clause-some : goal.returns-clause-some
returns-clause-some g c = c.send_rows.ensures.some (subst (λ (ps : List (List ℕ)). AllByRecursion IsPacket ps) (sym c.in_ok-packets.ensures) (plan_sized c.args.plan _ c.requires))
