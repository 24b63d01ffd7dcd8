use Rattle.std.proofs.Common.{◌≡◌, List, [], drop, take, map}
use Rattle.qc_sql.specs.Database.{Name}
use Rattle.qc_sql.specs.Rows.{first_repeated}
use Rattle.qc_resolve.proofs.Lists.{SameSeen}
use Rattle.qc_resolve.proofs.bind.first_repeated.Given as goal

abbrev pub invariant-loop-i : goal.invariant-loop-i
invariant-loop-i l =
    (seen : List Name) × (first_repeated [] (map (λ b. b.called) l.bounds) ≡ first_repeated seen (map (λ b. b.called) (drop l.i l.bounds))) × SameSeen seen (map (λ b. b.called) (take l.i l.bounds))
