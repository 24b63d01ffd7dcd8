use Rattle.std.proofs.Common.{sym}
use Rattle.qc_write.proofs.KeyColumns.{ahead_first, ahead_next, key_here}
use Rattle.qc_write.proofs.deleted_rows.key_column.Goals as goal

pub loop-index-init : goal.loop-index-init
loop-index-init c = ahead_first c.args.columns.now c.requires

pub returns-then-column : goal.returns-then-column
returns-then-column c = key_here c.args.columns.now c.loop-index.index c.index-columns-index.result c.loop-index-test.true c.index-columns-index.is c.if-column.true c.loop-index.invariant

pub loop-index-preserved : goal.loop-index-preserved
loop-index-preserved c = ahead_next c.args.columns.now c.loop-index.index c.index-columns-index.result c.loop-index-test.true c.index-columns-index.is c.if-column.false c.loop-index.invariant
