use Rattle.std.proofs.Common.{[]}
use Rattle.qc_table.specs.Stored.{AreFilled}
use Rattle.qc_table.proofs.merge.empty.Given as goal

abbrev pub invariant-loop-column : goal.invariant-loop-column
invariant-loop-column l = AreFilled l.fn.columns [] l.column-index l.cells.items
