use Rattle.std.proofs.Common.{◌≡◌, ◌*◌, ◌≤ℤ◌, ◌+ℤ◌, drop, pos}
use Rattle.std.specs.Prelude.{neg_ℤ}
use Rattle.qc_lane.specs.Lanes.{total, masked, masked_from}
use Rattle.qc_lane.proofs.aggregates.sum_masked.Given as goal

abbrev pub invariant-loop-k : goal.invariant-loop-k
invariant-loop-k l = record {
  sum : l.sum +ℤ total (masked_from (64 * l.k) l.mask (drop (64 * l.k) l.values)) ≡ total (masked l.mask l.values);
  low : neg_ℤ (pos (590295810358705651712 * l.k)) ≤ℤ l.sum;
  high : l.sum ≤ℤ pos (590295810358705651712 * l.k);
}
