use Rattle.std.proofs.Common.{◌≡◌, drop}
use Rattle.std.specs.Prelude.{bytes_eq}
use Rattle.std.specs.List.{list_any}
use Rattle.qc_write.specs.Lists.{borrowed}
use Rattle.qc_write.proofs.create.is_named.Given as goal

abbrev pub invariant-loop-key : goal.invariant-loop-key
invariant-loop-key l = list_any (bytes_eq l.name) (borrowed (drop l.key-index l.keys)) ≡ list_any (bytes_eq l.name) (borrowed l.keys)
