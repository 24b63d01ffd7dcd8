use Rattle.std.proofs.Common.{length}
use Rattle.qc_dir.proofs.Insertions.{IsPutting}
use Rattle.qc_dir.proofs.dir.put_tables.Given as goal

abbrev pub invariant-loop-item : goal.invariant-loop-item
invariant-loop-item l = IsPutting l.fn.fresh l.fresh l.fn.tables l.tables

abbrev pub decreases-loop-item : goal.decreases-loop-item
decreases-loop-item l = length l.fresh
