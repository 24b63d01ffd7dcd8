use Rattle.std.proofs.Common.{◌≡◌, ◌++◌, drop}
use Rattle.std.specs.List.{filter_map}
use Rattle.qc_sql.specs.Effects.{new_key}
use Rattle.qc_write.specs.Lists.{borrowed}
use Rattle.qc_write.proofs.create.key_names.Given as goal

abbrev pub invariant-loop-part : goal.invariant-loop-part
invariant-loop-part l = borrowed l.keys.items ++ filter_map new_key (drop l.part-index l.parts) ≡ filter_map new_key l.parts
