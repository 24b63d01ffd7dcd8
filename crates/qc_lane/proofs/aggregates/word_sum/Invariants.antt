use Rattle.std.proofs.Common.{◌≡◌, ◌*◌, ◌/◌, ◌^◌, ◌≤ℤ◌, ◌+ℤ◌, ◌∷◌, [], drop, pos}
use Rattle.qc_lane.specs.Lanes.{masked, masked_from, total}
use Rattle.qc_lane.proofs.aggregates.word_sum.Given as goal

abbrev pub invariant-loop-value : goal.invariant-loop-value
invariant-loop-value l = record {
  bits : l.bits ≡ l.word / 2 ^ l.value-index;
  sum : l.sum +ℤ total (masked_from l.value-index (l.word ∷ []) (drop l.value-index l.values)) ≡ l.start +ℤ total (masked (l.word ∷ []) l.values);
  low : l.start ≤ℤ (l.sum +ℤ pos (9223372036854775808 * l.value-index));
  high : l.sum ≤ℤ (l.start +ℤ pos (9223372036854775808 * l.value-index));
}
