use Rattle.std.proofs.Common.{◌≡◌, drop}
use Rattle.qc_write.specs.Lists.{borrowed}
use Rattle.qc_write.specs.Parts.{columns_of, missing}
use Rattle.qc_write.proofs.create.missing.Given as goal

abbrev pub invariant-loop-key : goal.invariant-loop-key
invariant-loop-key l = missing (columns_of l.written) (borrowed (drop l.key-index l.keys)) ≡ missing (columns_of l.written) (borrowed l.keys)
