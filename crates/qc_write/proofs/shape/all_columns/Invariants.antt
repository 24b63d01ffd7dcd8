use Rattle.std.proofs.Common.{◌≡◌, take}
use Rattle.qc_write.specs.Lists.{borrowed}
use Rattle.qc_write.proofs.shape.all_columns.Given as goal

abbrev pub invariant-loop-column : goal.invariant-loop-column
invariant-loop-column l = borrowed l.all.items ≡ take l.column-index l.columns
