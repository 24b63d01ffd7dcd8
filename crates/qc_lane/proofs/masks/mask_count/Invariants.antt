use Rattle.std.proofs.Common.{◌≡◌, ℕ, ◌*◌, ◌^◌, ◌<◌, ◌≤◌, count_ones, get_or, take}
use Rattle.std.specs.List.{sum_by}
use Rattle.qc_lane.proofs.masks.mask_count.Given as goal

abbrev pub invariant-loop-word : goal.invariant-loop-word
invariant-loop-word l = record {
  count : l.count ≡ sum_by count_ones (take l.word-index l.mask);
  small : l.count ≤ 64 * l.word-index;
  words : (k : ℕ) → k < l.word-index → get_or l.mask k 0 < 2 ^ 64;
}
