use Rattle.std.proofs.Common.{◌≡◌, ◌++◌, take, drop}
use Rattle.qc_table.specs.Changes.{above, below}
use Rattle.qc_table.proofs.table_rows.TableRows.cut.Given as goal

abbrev pub invariant-loop-i : goal.invariant-loop-i
invariant-loop-i l = let rest = drop l.from l.fn.self.rows in record {
  below : below l.fn.key rest ≡ take l.i rest ++ below l.fn.key (drop l.i rest);
  above : above l.fn.key rest ≡ above l.fn.key (drop l.i rest);
}
