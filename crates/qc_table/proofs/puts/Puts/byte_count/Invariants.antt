use Rattle.std.proofs.Common.{◌≡◌, take}
use Rattle.std.specs.Prelude.{sum_by}
use Rattle.qc_table.specs.Columns.{text_length}
use Rattle.qc_table.specs.Puts.{values_at}
use Rattle.qc_table.proofs.puts.Puts.byte_count.Given as goal

abbrev pub invariant-loop-index : goal.invariant-loop-index
invariant-loop-index l = l.count ≡ sum_by text_length (take l.index (values_at l.column l.self.rows))
