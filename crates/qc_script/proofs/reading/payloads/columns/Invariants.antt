use Rattle.std.proofs.Common.{◌≡◌, ◌≤◌, ℕ, length}
use Rattle.std.specs.List.{All}
use Rattle.qc_script.specs.ShortNames.{HasShortName}
use Rattle.qc_script.specs.Told.{columns_within, columns_told}
use Rattle.qc_script.proofs.PayloadLoops.{with_list}
use Rattle.qc_script.proofs.reading.payloads.columns.Given as goal

abbrev pub invariant-loop-rest : goal.invariant-loop-rest
invariant-loop-rest l = record {
  short : All HasShortName l.columns;
  told : (n : ℕ) × (length l.rest ≤ n) × (with_list l.columns (columns_within n l.rest) ≡ columns_told l.fn.payload);
}

abbrev pub decreases-loop-rest : goal.decreases-loop-rest
decreases-loop-rest l = length l.rest
