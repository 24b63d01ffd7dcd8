use Rattle.qc_write.proofs.KeyColumns.{IsAhead}
use Rattle.qc_write.proofs.deleted_rows.key_column.Given as goal

abbrev pub invariant-loop-index : goal.invariant-loop-index
invariant-loop-index l = IsAhead l.columns l.index
