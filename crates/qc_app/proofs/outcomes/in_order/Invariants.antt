use Rattle.std.proofs.Common.{length}
use Rattle.qc_app.specs.declared.outcomes.Outcome.{Outcome}
use Rattle.qc_app.proofs.Ordering.{InOrder}
use Rattle.qc_app.proofs.outcomes.in_order.Given as goal

abbrev pub invariant-loop-report : goal.invariant-loop-report
invariant-loop-report l = InOrder (λ (o : Outcome). o.report) l.fn.outcomes.items l.outcomes.items l.reports.items × InOrder (λ (o : Outcome). o.receipt) l.fn.outcomes.items l.outcomes.items l.receipts.items

abbrev pub decreases-loop-report : goal.decreases-loop-report
decreases-loop-report l = length l.outcomes.items
