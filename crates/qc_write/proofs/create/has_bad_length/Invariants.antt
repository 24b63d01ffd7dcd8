use Rattle.std.proofs.Common.{◌≡◌, drop}
use Rattle.std.specs.List.{list_any}
use Rattle.qc_write.specs.Parts.{is_bad_column}
use Rattle.qc_write.proofs.create.has_bad_length.Given as goal

abbrev pub invariant-loop-column : goal.invariant-loop-column
invariant-loop-column l = list_any is_bad_column (drop l.column-index l.written) ≡ list_any is_bad_column l.written
