use Rattle.std.proofs.Common.{◌≤◌, ◌-◌, length}
use Rattle.qc_wire.proofs.Streams.{FilledSoFar}
use Rattle.qc_wire.proofs.stream.fill.Given as goal

abbrev pub invariant-loop-place : goal.invariant-loop-place
invariant-loop-place g l =
    (g.S.Source.faults l.fn.source ≤ g.S.Source.faults l.source) × (l.place ≤ length l.out)
    × FilledSoFar l.place (g.S.Source.left l.fn.source) (g.S.Source.left l.source) l.out

abbrev pub decreases-loop-place : goal.decreases-loop-place
decreases-loop-place g l = length l.out - l.place
