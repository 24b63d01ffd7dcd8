use Rattle.std.proofs.Common.{◌≡◌, ℕ, ◌*◌, ◌<◌, ◌&&◌, not, nat_lt, length, slice_index_or, pos}
use Rattle.qc_lane.specs.Lanes.{is_set, stands}
use Rattle.qc_lane.proofs.compare.compare_mask.Given as goal

abbrev pub invariant-loop-k : goal.invariant-loop-k
invariant-loop-k l = (i : ℕ) → i < 64 * l.k → is_set l.out i ≡ (nat_lt i (length l.values) && (not (is_set l.nulls i) && stands l.op (slice_index_or l.values i (pos 0)) l.bound))
