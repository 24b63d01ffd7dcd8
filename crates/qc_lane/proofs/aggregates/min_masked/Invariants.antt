use Rattle.std.proofs.Common.{◌≡◌, ◌*◌, drop, pos, slice_index_or}
use Rattle.qc_lane.specs.Lanes.{least, masked, masked_from, or_smaller}
use Rattle.qc_lane.proofs.aggregates.min_masked.Given as goal

abbrev pub invariant-loop-k : goal.invariant-loop-k
invariant-loop-k l = or_smaller l.least (least (masked_from (64 * l.k) l.mask (drop (64 * l.k) l.values))) ≡ or_smaller (slice_index_or l.values l.first (pos 0)) (least (masked l.mask l.values))
