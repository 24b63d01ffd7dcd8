use Rattle.qc_table.specs.Changes.{merged}
use Rattle.qc_table.specs.Stored.{AreFilled}
use Rattle.qc_table.proofs.merge.merge.Given as goal

abbrev pub invariant-loop-i : goal.invariant-loop-i
invariant-loop-i l = AreFilled l.base.columns (merged l.base.rows l.changes.entries) l.i l.cells.items
