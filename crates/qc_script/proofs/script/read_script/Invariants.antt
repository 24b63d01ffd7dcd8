use Rattle.std.proofs.Common.{◌≡◌, ◌+◌, ◌≤◌, length}
use Rattle.qc_model.specs.ScriptLines.{after_lines, lines_of, no_sessions}
use Rattle.qc_script.specs.Drafts.{so_far}
use Rattle.qc_script.proofs.script.read_script.Given as goal

abbrev pub invariant-loop-line : goal.invariant-loop-line
invariant-loop-line l = (after_lines l.number (so_far l.draft) (lines_of l.rest) ≡ after_lines 1 no_sessions (lines_of l.bytes)) × (l.number + length l.rest ≤ 67108865)

abbrev pub decreases-loop-line : goal.decreases-loop-line
decreases-loop-line l = length l.rest
