use Rattle.std.proofs.Common.{◌≡◌, ◌++◌, drop}
use Rattle.std.specs.Prelude.{◌||◌}
use Rattle.std.specs.List.{list_any, filter_map}
use Rattle.qc_sql.specs.Effects.{new_column, bad_length}
use Rattle.qc_write.specs.Parts.{columns_of, is_bad_column}
use Rattle.qc_write.proofs.create.written_columns.Given as goal

abbrev pub invariant-loop-part : goal.invariant-loop-part
invariant-loop-part l = record {
  columns : columns_of l.written.items ++ filter_map new_column (drop l.part-index l.parts) ≡ filter_map new_column l.parts;
  lengths : (list_any is_bad_column l.written.items || list_any bad_length (drop l.part-index l.parts)) ≡ list_any bad_length l.parts;
}
