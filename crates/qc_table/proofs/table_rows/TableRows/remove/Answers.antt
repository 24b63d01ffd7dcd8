-- The row is taken out where the search for its key ends, and there is none where it isn't found.
use Rattle.std.proofs.Common.{◌≡◌, ◌∙◌, ap, length, subst, w64}
use Rattle.std.proofs.lemmas.Int.{to_z-of_z}
use Rattle.qc_sql.specs.Database.{Table, without_row}
use Rattle.qc_table.specs.Views.{kind_at}
use Rattle.qc_table.proofs.Placing.{none_taken, taken_out, taken_within}
use Rattle.qc_table.proofs.Replacing.{have_at, still_within}
use Rattle.qc_table.proofs.Stores.{column_ready}
use Rattle.qc_table.proofs.table_rows.TableRows.remove.Goals as goal

pub remove_row-requires-clause-ready : goal.remove_row-requires-clause-ready
remove_row-requires-clause-ready c = λ j cell is.
    let inside = c.self.inside in
    column_ready (kind_at inside.columns j) (length inside.keys.items) cell (c.self.invariant.0.1 j cell is)

pub remove_row-requires-clause-there : goal.remove_row-requires-clause-there
remove_row-requires-clause-there c =
    let inside = c.self.inside in
    let low = rw c.deref.ensures.value at c.in-Ok.ensures.bound in
    have_at inside.columns (length inside.keys.items) c.in-Ok.at inside.cells.items c.self.invariant.0 low

pub invariant_of-self : goal.invariant_of-self
invariant_of-self c =
    let inside = c.self.inside in
    let low = rw c.deref.ensures.value at c.in-Ok.ensures.bound in
    let there = rw (c.deref.ensures.value, to_z-of_z w64 c.args.key c.ranges.key) at c.in-Ok.ensures.position in
    (taken_out inside.columns inside.keys.items c.remove.new.self.items inside.cells.items c.remove_row.new.cells.items c.in-Ok.at c.args.key c.self.invariant.0 c.self.invariant.1 low (there c.args.key) c.remove_row.ensures c.remove.ensures.items).0

pub returns : goal.returns
returns c =
    let inside = c.self.inside in
    let few = rw (← c.self.view_is) at c.requires in
    let low = rw c.deref.ensures.value at c.in-Ok.ensures.bound in
    let there = rw (c.deref.ensures.value, to_z-of_z w64 c.args.key c.ranges.key) at c.in-Ok.ensures.position in
    let all = taken_out inside.columns inside.keys.items c.remove.new.self.items inside.cells.items c.remove_row.new.cells.items c.in-Ok.at c.args.key c.self.invariant.0 c.self.invariant.1 low (there c.args.key) c.remove_row.ensures c.remove.ensures.items in
    (all.1 ∙ ap (without_row c.args.key) c.self.view_is, taken_within inside.columns inside.keys.items c.remove.new.self.items inside.cells.items c.remove_row.new.cells.items c.in-Ok.at few low c.remove.ensures.items)

pub returns-in-Err : goal.returns-in-Err
returns-in-Err c =
    let inside = c.self.inside in
    let gap = rw (c.deref.ensures.value, to_z-of_z w64 c.args.key c.ranges.key) at c.in-Err.ensures.position in
    let none = none_taken inside.columns inside.keys.items inside.cells.items c.in-Err.field-0 c.args.key c.self.invariant.1 gap in
    (subst (λ (t : Table). t ≡ without_row c.args.key t) c.self.view_is none, still_within (length c.args.self.now.rows) c.requires)
