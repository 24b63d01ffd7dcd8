use Rattle.std.proofs.Common.{◌≡◌, drop}
use Rattle.qc_write.specs.Lists.{borrowed}
use Rattle.qc_write.specs.Inserts.{values_checked}
use Rattle.qc_write.proofs.insert.check_values.Given as goal

abbrev pub invariant-loop-i : goal.invariant-loop-i
invariant-loop-i l = values_checked (borrowed l.named) l.tuple ≡ values_checked (borrowed (drop l.i l.named)) (drop l.i l.tuple)
