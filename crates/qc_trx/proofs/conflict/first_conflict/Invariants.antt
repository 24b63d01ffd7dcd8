use Rattle.std.proofs.Common.{◌≡◌}
use Rattle.qc_trx.proofs.Aboves.{IsLeft}
use Rattle.qc_trx.proofs.conflict.first_conflict.Given as goal

-- the conflict is among the events that are left
abbrev pub invariant-loop-passed : goal.invariant-loop-passed
invariant-loop-passed l = IsLeft l.place l.origin l.writes l.passed l.journal.events
