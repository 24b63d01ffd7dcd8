use Rattle.std.proofs.Common.{◌≡◌, ◌+◌, ◌*◌, ◌^◌, ◌≤◌, drop}
use Rattle.std.specs.Prelude.{min}
use Rattle.qc_sql.specs.Rows.{combination_count}
use Rattle.qc_resolve.proofs.bind.combination_count.Given as goal

abbrev pub invariant-loop-bound : goal.invariant-loop-bound
invariant-loop-bound l =
    (l.count ≤ 2 ^ 40 + 1) × (min (l.count * combination_count (drop l.bound-index l.bounds)) (2 ^ 40 + 1) ≡ min (combination_count l.bounds) (2 ^ 40 + 1))
