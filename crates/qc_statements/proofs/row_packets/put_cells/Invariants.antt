use Rattle.std.proofs.Common.{◌≡◌, ◌++◌, map, drop}
use Rattle.qc_sql.specs.Packets.{row_payload}
use Rattle.qc_sql.specs.Rows.{text_of}
use Rattle.qc_statements.specs.Answers.{row_of, value_payload}
use Rattle.qc_statements.proofs.row_packets.put_cells.Given as goal

-- the values so far, and those that are left
abbrev pub invariant-loop-column : goal.invariant-loop-column
invariant-loop-column l = (l.packet.front ≡ l.fn.packet.front)
    × (l.packet.payload ++ row_payload (map text_of (drop l.column (row_of l.plan))) ≡ l.fn.packet.payload ++ value_payload (row_of l.plan))
