use Rattle.std.proofs.Common.{◌≡◌, ◌≤◌, ℕ, length}
use Rattle.qc_script.specs.Told.{cells_told, row_told}
use Rattle.qc_script.proofs.PayloadLoops.{with_list}
use Rattle.qc_script.proofs.reading.payloads.row.Given as goal

abbrev pub invariant-loop-kinds : goal.invariant-loop-kinds
invariant-loop-kinds l = (n : ℕ) × (length l.rest ≤ n) × (with_list l.row (cells_told n l.kinds l.rest) ≡ row_told l.fn.kinds l.fn.payload)

abbrev pub decreases-loop-kinds : goal.decreases-loop-kinds
decreases-loop-kinds l = length l.rest
