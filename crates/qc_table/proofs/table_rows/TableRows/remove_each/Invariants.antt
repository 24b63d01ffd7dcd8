use Rattle.std.proofs.Common.{◌≡◌, ◌≤◌, drop, length}
use Rattle.qc_sql.specs.Database.{most_rows}
use Rattle.qc_table.specs.Dels.{without_rows}
use Rattle.qc_table.proofs.table_rows.TableRows.remove_each.Given as goal

abbrev pub invariant-loop-index : goal.invariant-loop-index
invariant-loop-index l = record {
  within : length l.self.rows ≤ most_rows;
  left : without_rows (drop l.index l.dels.keys) l.self ≡ without_rows l.dels.keys l.fn.self;
}
