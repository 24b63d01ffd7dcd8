use Rattle.std.proofs.Common.{ℕ, List, subst, sym}
use Rattle.std.specs.List.{AllByRecursion}
use Rattle.qc_serve.specs.Filling.{Fills}
use Rattle.qc_serve.specs.Sent.{IsPacket}
use Rattle.qc_turn.specs.Seats.{view}
use Rattle.qc_serve.proofs.Fillings.{stored_none, stored_so}
use Rattle.qc_serve.proofs.Replying.{plan_sized}
use Rattle.qc_serve.proofs.rows_sent.fill_plan.Goals as goal

pub returns-clause-fills : goal.returns-clause-fills
returns-clause-fills g c = λ serial start.
    let e = c.fill_rows.ensures in (
      c.fill_rows.new.packets,
      e.fills serial (subst (λ (ps : List (List ℕ)). Fills serial ps c.args.fill.now c.args.seat.now) (sym c.in_ok-packets.ensures) start),
      e.all,
    )

pub returns-clause-cut : goal.returns-clause-cut
returns-clause-cut g c = c.fill_rows.ensures.cut (subst (λ (ps : List (List ℕ)). AllByRecursion IsPacket ps) (sym c.in_ok-packets.ensures) (plan_sized c.args.plan c.args.status c.requires.plan))

pub returns-clause-some : goal.returns-clause-some
returns-clause-some g c = c.fill_rows.ensures.some (subst (λ (ps : List (List ℕ)). AllByRecursion IsPacket ps) (sym c.in_ok-packets.ensures) (plan_sized c.args.plan c.args.status c.requires.plan))

pub returns-in_err-packets-clause-stored : goal.returns-in_err-packets-clause-stored
returns-in_err-packets-clause-stored g c =
    let v = view c.args.seat.now in
    let held = g.K.ReplySink.held c.args.sink.now in
    stored_so c.args.fill.now v v held held (stored_none c.args.fill.now v held)
