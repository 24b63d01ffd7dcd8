use Rattle.qc_dir.specs.Directory.{names_table}
use Rattle.qc_core.proofs.Dropping.{any_of, item_got, leaving_start, leaving_item, leaving_items}
use Rattle.qc_core.proofs.server_state.ServerState.drop_on_tables.Goals as goal

pub loop-table-init : goal.loop-table-init
loop-table-init c = leaving_start (any_of names_table c.args.tables.now) c.args.self.now c.requires

pub drop_on_table-requires : goal.drop_on_table-requires
drop_on_table-requires c = c.loop-table.invariant.blocks

pub loop-table-preserved : goal.loop-table-preserved
loop-table-preserved c =
    let got = item_got c.args.tables.now c.loop-table.table-index c.table-item.result c.loop-table-test.true c.table-item.is in
    leaving_item names_table c.args.tables.now c.loop-table.table-index c.table-item.result c.args.self.now c.loop-table.self c.drop_on_table.new.self got c.loop-table.invariant c.drop_on_table.ensures.out c.drop_on_table.ensures.blocks

pub returns-clause-out : goal.returns-clause-out
returns-clause-out c = leaving_items names_table c.args.tables.now c.loop-table.table-index c.args.self.now c.loop-table.self c.loop-table-test.false c.loop-table.invariant

pub returns-clause-blocks : goal.returns-clause-blocks
returns-clause-blocks c = c.loop-table.invariant.blocks
