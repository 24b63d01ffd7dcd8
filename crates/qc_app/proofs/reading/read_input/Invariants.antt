use Rattle.std.proofs.Common.{◌≤◌, ◌-◌, vec_len}
use Rattle.qc_app.specs.Reading.{ReadSoFar}
use Rattle.qc_app.proofs.reading.read_input.Given as goal

abbrev pub invariant-loop-piece : goal.invariant-loop-piece
invariant-loop-piece g l = (g.S.Source.faults l.fn.input ≤ g.S.Source.faults l.input) × ReadSoFar (g.S.Source.left l.fn.input) (g.S.Source.left l.input) l.bytes.items

abbrev pub decreases-loop-piece : goal.decreases-loop-piece
decreases-loop-piece g l = 67108865 - vec_len l.bytes
