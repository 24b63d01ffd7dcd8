use Rattle.std.proofs.Common.{◌≡◌, ◌≤◌, ◌++◌, length, drop}
use Rattle.std.specs.List.{AllByRecursion}
use Rattle.qc_table.specs.Changes.{merged}
use Rattle.qc_table.specs.Stored.{column_of, is_ints, values_of, IsCells}
use Rattle.qc_sql.specs.Database.{is_int}
use Rattle.qc_table.specs.Tables.{IsChange}
use Rattle.qc_table.proofs.merge.merge_column.Given as goal

abbrev pub invariant-loop-key : goal.invariant-loop-key
invariant-loop-key l = record {
  made : values_of l.cells ++ column_of l.column (merged (drop l.next l.base.rows) l.key-iterator) ≡ column_of l.column (merged l.base.rows l.changes.entries);
  ready : IsCells l.cells;
  kind : is_ints l.cells ≡ is_int l.fn.kind;
  within : l.next ≤ length l.base.rows;
  fit : AllByRecursion (IsChange l.base.columns) l.key-iterator;
}
