use Rattle.std.proofs.Common.{◌≡◌, drop}
use Rattle.qc_sql.specs.Database.{key_of}
use Rattle.qc_table.proofs.keys.key_of_row.Given as goal

abbrev pub invariant-loop-i : goal.invariant-loop-i
invariant-loop-i l = key_of l.fn.columns l.fn.row ≡ key_of (drop l.i l.fn.columns) (drop l.i l.fn.row)
