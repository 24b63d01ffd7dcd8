use Rattle.std.proofs.Common.{◌≡◌, take, map}
use Rattle.qc_sql.specs.Packets.{row_payload}
use Rattle.qc_sql.specs.Rows.{text_of}
use Rattle.qc_script.proofs.reports.payloads.row_bytes.Given as goal

abbrev pub invariant-loop-value : goal.invariant-loop-value
invariant-loop-value l = l.payload ≡ row_payload (map text_of (take l.value-index l.row))
