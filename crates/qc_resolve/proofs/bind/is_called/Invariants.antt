use Rattle.std.proofs.Common.{◌≡◌, drop, map}
use Rattle.std.specs.Prelude.{bytes_eq}
use Rattle.std.specs.List.{list_any}
use Rattle.qc_resolve.proofs.bind.is_called.Given as goal

abbrev pub invariant-loop-bound : goal.invariant-loop-bound
invariant-loop-bound l = list_any (bytes_eq l.name) (map (λ b. b.called) (drop l.bound-index l.bounds)) ≡ list_any (bytes_eq l.name) (map (λ b. b.called) l.bounds)
