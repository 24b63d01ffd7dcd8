use Rattle.std.proofs.Common.{◌≡◌, ◌++◌, take, map}
use Rattle.qc_model.specs.ReportText.{lines, line_text}
use Rattle.qc_script.proofs.reports.sessions.put_session.Given as goal

abbrev pub invariant-loop-line : goal.invariant-loop-line
invariant-loop-line l = l.out ≡ l.initial.out ++ lines (map line_text (take l.line-index l.line-items))
