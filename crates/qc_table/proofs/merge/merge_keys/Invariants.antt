use Rattle.std.proofs.Common.{◌≡◌, ◌≤◌, ◌++◌, length, drop}
use Rattle.std.specs.Map.{keys_of}
use Rattle.qc_table.specs.Changes.{merged}
use Rattle.qc_table.proofs.merge.merge_keys.Given as goal

abbrev pub invariant-loop-key : goal.invariant-loop-key
invariant-loop-key l = record {
  made : l.keys.items ++ keys_of (merged (drop l.next l.base.rows) l.key-iterator) ≡ keys_of (merged l.base.rows l.changes.entries);
  within : l.next ≤ length l.base.rows;
}
