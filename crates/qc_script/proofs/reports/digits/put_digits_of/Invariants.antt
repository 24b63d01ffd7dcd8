use Rattle.std.proofs.Common.{◌≡◌, ◌++◌, length}
use Rattle.qc_model.specs.ReportText.{hex_digits}
use Rattle.qc_script.proofs.reports.digits.put_digits_of.Given as goal

abbrev pub invariant-loop-rest : goal.invariant-loop-rest
invariant-loop-rest l = l.out ++ hex_digits l.rest ≡ l.fn.out ++ hex_digits l.bytes

abbrev pub decreases-loop-rest : goal.decreases-loop-rest
decreases-loop-rest l = length l.rest
