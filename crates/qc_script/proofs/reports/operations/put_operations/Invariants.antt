use Rattle.std.proofs.Common.{◌≡◌, ◌++◌, take, map}
use Rattle.qc_model.specs.ReportText.{op_text}
use Rattle.qc_script.specs.ReportParts.{each_after}
use Rattle.qc_script.proofs.reports.operations.put_operations.Given as goal

abbrev pub invariant-loop-op : goal.invariant-loop-op
invariant-loop-op l = l.out ≡ l.initial.out ++ each_after 44 (map op_text (take l.op-index l.others))
