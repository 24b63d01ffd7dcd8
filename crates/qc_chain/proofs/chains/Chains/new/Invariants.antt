use Rattle.std.proofs.Common.{◌≡◌, ◌≤◌, None, length, replicate, vec_capacity}
use Rattle.qc_chain.proofs.FreeNames.{AreNames}
use Rattle.qc_chain.proofs.chains.Chains.new.Given as goal

abbrev pub invariant-loop-number : goal.invariant-loop-number
invariant-loop-number l = record {
  items : l.extents.items ≡ replicate l.number None;
  room : l.blocks ≤ vec_capacity l.extents;
  names : AreNames l.extents.items l.free.items;
  made : length l.free.items ≡ l.number;
  free_room : l.blocks ≤ vec_capacity l.free;
}
