use Rattle.std.proofs.Common.{◌≡◌, drop}
use Rattle.qc_write.specs.Placing.{place_called}
use Rattle.qc_write.proofs.columns.find_column.Given as goal

abbrev pub invariant-loop-index : goal.invariant-loop-index
invariant-loop-index l = place_called l.name 0 l.columns ≡ place_called l.name l.index (drop l.index l.columns)
