use Rattle.std.proofs.Common.{take}
use Rattle.qc_eval.specs.SortKeys.{AreKeysOf}
use Rattle.qc_eval.proofs.sorting.keys.sort_keys.Given as goal

abbrev pub invariant-loop-key : goal.invariant-loop-key
invariant-loop-key g l = AreKeysOf l.tables (take l.key-index l.order) l.keys.items
