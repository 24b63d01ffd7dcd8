use Rattle.std.proofs.Common.{◌≡◌, ◌++◌, drop, map}
use Rattle.qc_resolve.proofs.select.versions.Given as goal

abbrev pub invariant-loop-bound : goal.invariant-loop-bound
invariant-loop-bound l = l.versions ++ map (λ b. b.table) (drop l.bound-index l.bounds) ≡ map (λ b. b.table) l.bounds
