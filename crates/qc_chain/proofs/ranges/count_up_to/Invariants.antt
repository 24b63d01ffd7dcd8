use Rattle.std.proofs.Common.{ℕ, ◌<◌, ◌≤◌, ◌-◌, length, get_or}
use Rattle.qc_chain.proofs.ranges.count_up_to.Given as goal

abbrev pub invariant-loop-low : goal.invariant-loop-low
invariant-loop-low l = record {
  order : l.low ≤ l.high;
  within : l.high ≤ length l.ends;
  before : (k : ℕ) → k < l.low → get_or l.ends k 0 ≤ l.index;
  after : (k : ℕ) → l.high ≤ k → k < length l.ends → l.index < get_or l.ends k 0;
}

abbrev pub decreases-loop-low : goal.decreases-loop-low
decreases-loop-low l = l.high - l.low
