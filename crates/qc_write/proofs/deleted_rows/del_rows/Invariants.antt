use Rattle.std.proofs.Common.{◌≡◌, map, take}
use Rattle.qc_eval.specs.Entries.{entry_at}
use Rattle.qc_write.specs.Removing.{del_of}
use Rattle.qc_write.proofs.deleted_rows.del_rows.Given as goal

abbrev pub invariant-loop-row : goal.invariant-loop-row
invariant-loop-row g l = l.ops ≡ map (λ i. del_of l.target.name (entry_at l.target.version.now.rows i)) (take l.row-index l.rows)
