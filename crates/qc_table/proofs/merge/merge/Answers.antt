-- The rows of their keys and columns.
use Rattle.std.proofs.Common.{◌∙◌, refl}
use Rattle.qc_table.specs.Changes.{merged}
use Rattle.qc_table.proofs.Stores.{all_filled, store_filled, rows_filled}
use Rattle.qc_table.proofs.Merges.{merged_sound, rows_wide}
use Rattle.qc_table.proofs.merge.merge.Goals as goal

pub new-requires-clause-store : goal.new-requires-clause-store
new-requires-clause-store c =
    let cs = c.args.base.now.columns in
    let rows = merged c.args.base.now.rows c.args.changes.now.entries in
    let low = rw (c.items-column-items.ensures, c.columns-columns.ensures.value) at c.loop-i-test.false in
    let high = rw (c.items-column-items.ensures, c.columns-columns.ensures.value) at c.loop-i.auto.i-end in
    let filled = all_filled cs rows c.loop-i.i c.loop-i.cells.items c.loop-i.invariant low high in
    rw (c.in_ok-copy_of_columns.ensures, c.columns-columns.ensures.value, c.in_ok-keys.ensures) (store_filled cs rows c.loop-i.cells.items filled)

pub new-requires-clause-sound : goal.new-requires-clause-sound
new-requires-clause-sound c =
    let cs = c.args.base.now.columns in
    let rows = merged c.args.base.now.rows c.args.changes.now.entries in
    let low = rw (c.items-column-items.ensures, c.columns-columns.ensures.value) at c.loop-i-test.false in
    let high = rw (c.items-column-items.ensures, c.columns-columns.ensures.value) at c.loop-i.auto.i-end in
    let filled = all_filled cs rows c.loop-i.i c.loop-i.cells.items c.loop-i.invariant low high in
    let sound = merged_sound c.args.base.now c.args.changes.now.entries c.columns-columns.ensures.sound c.requires.fit c.requires.ordered in
    let back = rows_filled cs rows c.loop-i.cells.items filled (rows_wide cs rows sound.rows) in
    rw (c.in_ok-copy_of_columns.ensures, c.columns-columns.ensures.value, c.in_ok-keys.ensures, back) sound

pub returns : goal.returns
returns c =
    let cs = c.args.base.now.columns in
    let rows = merged c.args.base.now.rows c.args.changes.now.entries in
    let low = rw (c.items-column-items.ensures, c.columns-columns.ensures.value) at c.loop-i-test.false in
    let high = rw (c.items-column-items.ensures, c.columns-columns.ensures.value) at c.loop-i.auto.i-end in
    let filled = all_filled cs rows c.loop-i.i c.loop-i.cells.items c.loop-i.invariant low high in
    let sound = merged_sound c.args.base.now c.args.changes.now.entries c.columns-columns.ensures.sound c.requires.fit c.requires.ordered in
    let back = rows_filled cs rows c.loop-i.cells.items filled (rows_wide cs rows sound.rows) in
    c.new.ensures ∙ rw (c.in_ok-copy_of_columns.ensures, c.columns-columns.ensures.value, c.in_ok-keys.ensures, back) refl
