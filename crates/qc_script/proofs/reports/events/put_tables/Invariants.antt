use Rattle.std.proofs.Common.{◌≡◌, ◌++◌, take, map}
use Rattle.qc_model.specs.ReportText.{table_text}
use Rattle.qc_script.specs.ReportParts.{each_after}
use Rattle.qc_script.proofs.reports.events.put_tables.Given as goal

abbrev pub invariant-loop-table : goal.invariant-loop-table
invariant-loop-table l = l.out ≡ l.initial.out ++ each_after 44 (map table_text (take l.table-index l.others))
