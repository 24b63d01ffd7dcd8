use Rattle.std.proofs.Common.{◌≡◌, take}
use Rattle.qc_write.proofs.stored_rows.values_of.Given as goal

abbrev pub invariant-loop-index : goal.invariant-loop-index
invariant-loop-index l = l.values ≡ take l.index l.view.values
