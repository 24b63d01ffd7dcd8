use Rattle.std.proofs.Common.{◌≡◌, ◌+◌, ◌≤◌, drop}
use Rattle.std.specs.Prelude.{count_by}
use Rattle.qc_write.specs.Parts.{columns_of}
use Rattle.qc_write.proofs.create.primary_count.Given as goal

abbrev pub invariant-loop-column : goal.invariant-loop-column
invariant-loop-column l = (l.count ≤ l.column-index) × (l.count + count_by (λ c. c.primary) (columns_of (drop l.column-index l.written)) ≡ count_by (λ c. c.primary) (columns_of l.written))
