use Rattle.std.proofs.Common.{◌≡◌, drop}
use Rattle.qc_eval.specs.SortKeys.{AreShown, positions_cmp}
use Rattle.qc_eval.proofs.sorting.keys.compare.Given as goal

-- the keys so far are equal
abbrev pub invariant-loop-key : goal.invariant-loop-key
invariant-loop-key l = record {
  shown : AreShown (drop l.key-index l.keys);
  left : positions_cmp l.keys l.a l.b ≡ positions_cmp (drop l.key-index l.keys) l.a l.b;
}
