use Rattle.std.proofs.Common.{◌≡◌, ℕ, ◌≤◌, ◌<◌, slice_index, bit_and}
use Rattle.qc_lane.proofs.masks.mask_and.Given as goal

abbrev pub invariant-loop-k : goal.invariant-loop-k
invariant-loop-k l = record {
  done : (j : ℕ) → j < l.k → slice_index l.out j ≡ bit_and (slice_index l.fn.out j) (slice_index l.other j);
  left : (j : ℕ) → l.k ≤ j → slice_index l.out j ≡ slice_index l.fn.out j;
}
