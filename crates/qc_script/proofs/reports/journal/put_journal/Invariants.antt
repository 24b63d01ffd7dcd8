use Rattle.std.proofs.Common.{◌≡◌, ◌++◌, take}
use Rattle.qc_model.specs.ReportText.{lines, event_lines}
use Rattle.qc_script.proofs.reports.journal.put_journal.Given as goal

abbrev pub invariant-loop-index : goal.invariant-loop-index
invariant-loop-index l = l.out ≡ l.initial.out ++ lines (event_lines 1 (take l.index l.events))
