use Rattle.std.proofs.Common.{◌≡◌, ◌++◌, take}
use Rattle.qc_sql.specs.Packets.{row_payload}
use Rattle.qc_wire.specs.Cells.{cell_texts}
use Rattle.qc_wire.proofs.put.push_row.Given as goal

abbrev pub invariant-loop-cell : goal.invariant-loop-cell
invariant-loop-cell l = (l.packet.front ≡ l.fn.packet.front) × (l.packet.payload ≡ l.fn.packet.payload ++ row_payload (cell_texts (take l.cell-index l.cells)))
