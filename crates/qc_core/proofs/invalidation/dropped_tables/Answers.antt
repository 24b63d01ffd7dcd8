use Rattle.qc_core.proofs.Dropping.{item_got}
use Rattle.qc_core.proofs.Committing.{dropped_on, dropped_all}
use Rattle.qc_core.proofs.invalidation.dropped_tables.Goals as goal

pub loop-op-preserved : goal.loop-op-preserved
loop-op-preserved c =
    let got = item_got c.args.ops.now c.loop-op.op-index c.op-item.result c.loop-op-test.true c.op-item.is in
    dropped_on c.args.database.now c.args.ops.now c.loop-op.op-index c.op-item.result c.loop-op.dropped c.in_ok-tables_dropped_by.field-0 c.append.new.self got c.in_ok-tables_dropped_by.ensures c.in_ok-append.ensures.ok c.loop-op.invariant

pub returns : goal.returns
returns c = dropped_all c.args.database.now c.args.ops.now c.loop-op.op-index c.loop-op.dropped c.loop-op-test.false c.loop-op.invariant
