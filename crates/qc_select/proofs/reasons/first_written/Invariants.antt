use Rattle.std.proofs.Common.{◌≡◌, drop}
use Rattle.std.specs.Prelude.{find}
use Rattle.qc_model.specs.Choice.{wrote}
use Rattle.qc_select.proofs.reasons.first_written.Given as goal

abbrev pub invariant-loop-table : goal.invariant-loop-table
invariant-loop-table l = find (wrote l.state.state) (drop l.table-index l.tables) ≡ find (wrote l.state.state) l.tables
