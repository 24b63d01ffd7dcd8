use Rattle.std.proofs.Common.{◌≡◌, take}
use Rattle.std.specs.List.{flat_map}
use Rattle.qc_model.specs.ReportText.{column_bytes}
use Rattle.qc_script.proofs.reports.payloads.columns_bytes.Given as goal

abbrev pub invariant-loop-column : goal.invariant-loop-column
invariant-loop-column l = l.bytes ≡ flat_map column_bytes (take l.column-index l.columns)
