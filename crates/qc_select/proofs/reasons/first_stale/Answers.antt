use Rattle.std.proofs.Common.{◌∙◌, sym}
use Rattle.qc_model.specs.Choice.{is_stale}
use Rattle.qc_select.proofs.First.{passes_on, is_first}
use Rattle.qc_select.proofs.reasons.first_stale.Goals as goal

pub returns-then-is_stale : goal.returns-then-is_stale
returns-then-is_stale c = sym (is_first (is_stale c.args.state.now.state c.args.journal.now.events) c.args.tables.now c.loop-table.table-index c.table-item.result c.loop-table-test.true c.table-item.is (sym c.is_stale.ensures ∙ c.if-is_stale.true) c.loop-table.invariant)

pub loop-table-preserved : goal.loop-table-preserved
loop-table-preserved c = passes_on (is_stale c.args.state.now.state c.args.journal.now.events) c.args.tables.now c.loop-table.table-index c.table-item.result c.loop-table-test.true c.table-item.is (sym c.is_stale.ensures ∙ c.if-is_stale.false) c.loop-table.invariant
