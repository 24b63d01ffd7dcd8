use Rattle.std.proofs.Common.{◌∙◌, sym}
use Rattle.qc_model.specs.Choice.{wrote}
use Rattle.qc_select.proofs.First.{passes_on, is_first}
use Rattle.qc_select.proofs.reasons.first_written.Goals as goal

pub returns-then-wrote : goal.returns-then-wrote
returns-then-wrote c = sym (is_first (wrote c.args.state.now.state) c.args.tables.now c.loop-table.table-index c.table-item.result c.loop-table-test.true c.table-item.is (sym c.wrote.ensures ∙ c.if-wrote.true) c.loop-table.invariant)

pub loop-table-preserved : goal.loop-table-preserved
loop-table-preserved c = passes_on (wrote c.args.state.now.state) c.args.tables.now c.loop-table.table-index c.table-item.result c.loop-table-test.true c.table-item.is (sym c.wrote.ensures ∙ c.if-wrote.false) c.loop-table.invariant
