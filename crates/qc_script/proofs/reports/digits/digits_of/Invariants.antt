use Rattle.std.proofs.Common.{◌≡◌, ◌*◌, ◌++◌, length, take, drop}
use Rattle.qc_model.specs.ReportText.{hex_digits}
use Rattle.qc_script.proofs.reports.digits.digits_of.Given as goal

abbrev pub invariant-bytes : goal.invariant-bytes
invariant-bytes l = (take (2 * l.i) l.digits ++ hex_digits (drop l.i l.block) ≡ hex_digits l.block) × (length l.digits ≡ 128)
