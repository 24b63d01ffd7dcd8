use Rattle.std.proofs.Common.{sym, ◌∙◌}
use Rattle.qc_resolve.proofs.Shows.{table_on}
use Rattle.qc_resolve.proofs.items.shown_tables.Goals as goal

pub loop-slot-preserved : goal.loop-slot-preserved
loop-slot-preserved c =
    sym (table_on c.args.flags.now c.args.aggregated c.loop-slot.shown c.add_table.new.self c.args.bounds.now c.loop-slot.slot c.index-bounds-slot.result c.loop-slot-test.true c.index-bounds-slot.is c.in_ok-add_table.ensures)
    ∙ c.loop-slot.invariant
