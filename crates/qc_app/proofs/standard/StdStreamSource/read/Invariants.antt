use Rattle.std.proofs.Common.{◌≤◌}
use Rattle.qc_app.proofs.standard.StdStreamSource.read.Given as goal

-- the count of faults has not fallen
abbrev pub invariant-loop : goal.invariant-loop
invariant-loop g l = l.fn.self ≤ l.self-inside.faults
