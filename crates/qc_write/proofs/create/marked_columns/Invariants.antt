use Rattle.std.proofs.Common.{◌≡◌, ◌++◌, drop, map, false}
use Rattle.std.specs.List.{list_any}
use Rattle.qc_sql.specs.Effects.{marked}
use Rattle.qc_write.specs.Lists.{borrowed}
use Rattle.qc_write.specs.Parts.{columns_of, is_bad_column}
use Rattle.qc_write.proofs.create.marked_columns.Given as goal

abbrev pub invariant-loop-column : goal.invariant-loop-column
invariant-loop-column l = record {
  columns : l.columns ++ map (marked (borrowed l.keys)) (columns_of (drop l.column-index l.written)) ≡ map (marked (borrowed l.keys)) (columns_of l.written);
  lengths : list_any is_bad_column (drop l.column-index l.written) ≡ false;
}
