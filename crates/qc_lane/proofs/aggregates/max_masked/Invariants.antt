use Rattle.std.proofs.Common.{◌≡◌, ◌*◌, drop, pos, slice_index_or}
use Rattle.qc_lane.specs.Lanes.{greatest, masked, masked_from, or_greater}
use Rattle.qc_lane.proofs.aggregates.max_masked.Given as goal

abbrev pub invariant-loop-k : goal.invariant-loop-k
invariant-loop-k l = or_greater l.greatest (greatest (masked_from (64 * l.k) l.mask (drop (64 * l.k) l.values))) ≡ or_greater (slice_index_or l.values l.first (pos 0)) (greatest (masked l.mask l.values))
