-- A column for each kind.
use Rattle.std.proofs.Common.{[]}
use Rattle.qc_table.proofs.Stores.{all_filled, store_filled}
use Rattle.qc_table.proofs.Drafts.{none_stored}
use Rattle.qc_table.proofs.merge.empty.Goals as goal

pub new-requires-3-clause-store : goal.new-requires-3-clause-store
new-requires-3-clause-store c =
    let cs = c.args.columns.now in
    let low = rw c.items-column-items.ensures at c.loop-column-test.false in
    let high = rw c.items-column-items.ensures at c.loop-column.auto.column-index-end in
    rw (c.in_ok-columns.ensures, c.new-2.ensures.items) (store_filled cs [] c.loop-column.cells.items (all_filled cs [] c.loop-column.column-index c.loop-column.cells.items c.loop-column.invariant low high))

pub new-requires-3-clause-sound : goal.new-requires-3-clause-sound
new-requires-3-clause-sound c = rw (c.in_ok-columns.ensures, c.new-2.ensures.items) (none_stored c.args.columns.now c.requires).sound
