use Rattle.std.proofs.Common.{◌≡◌}
use Rattle.qc_eval.specs.Entries.{kept_indexes}
use Rattle.qc_eval.specs.Walk.{passes_all}
use Rattle.qc_eval.proofs.matching.walked_rows.Given as goal

abbrev pub invariant-loop-row : goal.invariant-loop-row
invariant-loop-row g l = l.kept ≡ kept_indexes (passes_all l.filters) l.version.rows l.row
