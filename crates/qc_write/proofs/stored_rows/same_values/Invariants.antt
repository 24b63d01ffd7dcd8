use Rattle.std.proofs.Common.{◌≡◌, drop}
use Rattle.qc_sql.specs.Effects.{same_values}
use Rattle.qc_write.proofs.stored_rows.same_values.Given as goal

abbrev pub invariant-loop-index : goal.invariant-loop-index
invariant-loop-index l = same_values l.old l.new ≡ same_values (drop l.index l.old) (drop l.index l.new)
