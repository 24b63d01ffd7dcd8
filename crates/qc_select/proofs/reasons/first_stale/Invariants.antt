use Rattle.std.proofs.Common.{◌≡◌, drop}
use Rattle.std.specs.Prelude.{find}
use Rattle.qc_model.specs.Choice.{is_stale}
use Rattle.qc_select.proofs.reasons.first_stale.Given as goal

abbrev pub invariant-loop-table : goal.invariant-loop-table
invariant-loop-table l = find (is_stale l.state.state l.journal.events) (drop l.table-index l.tables) ≡ find (is_stale l.state.state l.journal.events) l.tables
