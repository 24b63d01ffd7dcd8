use Rattle.qc_core.specs.Invalidation.{is_named_by}
use Rattle.qc_core.proofs.Dropping.{any_of, item_got, leaving_start, leaving_item, leaving_items}
use Rattle.qc_core.proofs.server_state.ServerState.drop_named.Goals as goal

pub loop-op-init : goal.loop-op-init
loop-op-init c = leaving_start (any_of is_named_by c.args.ops.now) c.args.self.now c.requires

pub drop_named_by-requires : goal.drop_named_by-requires
drop_named_by-requires c = c.loop-op.invariant.blocks

pub loop-op-preserved : goal.loop-op-preserved
loop-op-preserved c =
    let got = item_got c.args.ops.now c.loop-op.op-index c.op-item.result c.loop-op-test.true c.op-item.is in
    leaving_item is_named_by c.args.ops.now c.loop-op.op-index c.op-item.result c.args.self.now c.loop-op.self c.drop_named_by.new.self got c.loop-op.invariant c.drop_named_by.ensures.out c.drop_named_by.ensures.blocks

pub returns-clause-out : goal.returns-clause-out
returns-clause-out c = leaving_items is_named_by c.args.ops.now c.loop-op.op-index c.args.self.now c.loop-op.self c.loop-op-test.false c.loop-op.invariant

pub returns-clause-blocks : goal.returns-clause-blocks
returns-clause-blocks c = c.loop-op.invariant.blocks
