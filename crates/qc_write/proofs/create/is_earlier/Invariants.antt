use Rattle.std.proofs.Common.{◌≡◌, drop}
use Rattle.std.specs.Prelude.{bytes_eq}
use Rattle.std.specs.List.{list_any}
use Rattle.qc_write.specs.Parts.{columns_of, names_of}
use Rattle.qc_write.proofs.create.is_earlier.Given as goal

abbrev pub invariant-loop-column : goal.invariant-loop-column
invariant-loop-column l = list_any (bytes_eq l.name) (names_of (columns_of (drop l.column-index l.written))) ≡ list_any (bytes_eq l.name) (names_of (columns_of l.written))
