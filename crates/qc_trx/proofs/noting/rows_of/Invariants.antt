use Rattle.std.proofs.Common.{◌≡◌, ◌≤◌, ◌++◌, List, [], take, drop}
use Rattle.std.specs.Prelude.{Option}
use Rattle.qc_types.specs.declared.names.TableName.{TableName}
use Rattle.qc_sql.specs.declared.tables.Column.{Column}
use Rattle.qc_trx.specs.Writes.{columns_left, rows_left}
use Rattle.qc_trx.proofs.noting.rows_of.Given as goal

-- the rows so far, and behind the last operation that makes a table the columns stay
abbrev pub invariant-loop-i : goal.invariant-loop-i
invariant-loop-i l = record {
  rows : l.rows.items ++ rows_left (take l.i l.ops) (drop l.i l.ops) l.seen ≡ rows_left [] l.ops l.seen;
  within : l.making ≤ l.i;
  columns : (t : TableName) (before : Option (List Column)) → columns_left t (take l.making l.ops) before ≡ columns_left t (take l.i l.ops) before;
}
