use Rattle.std.proofs.Common.{◌≡◌, ◌-◌, length}
use Rattle.qc_lane.specs.SetBits.{IsAhead}
use Rattle.qc_lane.proofs.bits.SetBits.next.Given as goal

abbrev pub invariant-loop-self : goal.invariant-loop-self
invariant-loop-self l = IsAhead l.mask l.self × (l.self.from ≡ l.initial.self.from)

abbrev pub decreases-loop-self : goal.decreases-loop-self
decreases-loop-self l = length l.mask - l.self.index
