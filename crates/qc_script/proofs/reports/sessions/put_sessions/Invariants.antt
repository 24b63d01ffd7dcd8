use Rattle.std.proofs.Common.{◌≡◌, ◌++◌, take}
use Rattle.std.specs.List.{flat_map}
use Rattle.qc_model.specs.ReportText.{lines, session_lines}
use Rattle.qc_script.proofs.reports.sessions.put_sessions.Given as goal

abbrev pub invariant-loop-session : goal.invariant-loop-session
invariant-loop-session l = l.out ≡ l.initial.out ++ lines (flat_map session_lines (take l.session-index l.sessions))
