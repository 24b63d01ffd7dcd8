use Rattle.std.proofs.Common.{ℕ, ◌<◌, slice_index_or, pos, FitsSigned, w64}
use Rattle.qc_lane.proofs.compare.read_lanes.Given as goal

abbrev pub invariant-loop-i : goal.invariant-loop-i
invariant-loop-i l = (n : ℕ) → n < l.i → FitsSigned w64 (slice_index_or l.values n (pos 0))
