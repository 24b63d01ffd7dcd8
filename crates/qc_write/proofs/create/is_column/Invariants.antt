use Rattle.std.proofs.Common.{◌≡◌, drop}
use Rattle.std.specs.Prelude.{bytes_eq}
use Rattle.std.specs.List.{list_any}
use Rattle.qc_write.specs.Parts.{columns_of}
use Rattle.qc_write.proofs.create.is_column.Given as goal

abbrev pub invariant-loop-column : goal.invariant-loop-column
invariant-loop-column l = list_any (λ c. bytes_eq c.name l.name) (columns_of (drop l.column-index l.written)) ≡ list_any (λ c. bytes_eq c.name l.name) (columns_of l.written)
