use Rattle.std.proofs.Common.{◌≡◌, ℕ, ◌*◌, ◌<◌, not}
use Rattle.std.specs.Prelude.{◌&&◌}
use Rattle.qc_lane.specs.Lanes.{is_set}
use Rattle.qc_eval.proofs.masks.without_nulls.Given as goal

abbrev pub invariant-loop-k : goal.invariant-loop-k
invariant-loop-k l = (i : ℕ) → i < 64 * l.k → is_set l.out i ≡ (is_set l.mask i && not (is_set l.nulls i))
