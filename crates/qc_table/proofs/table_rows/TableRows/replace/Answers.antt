-- The rows come in the places of those with their keys.
use Rattle.std.proofs.Common.{◌∙◌, ap}
use Rattle.qc_table.specs.Puts.{with_rows}
use Rattle.qc_table.proofs.Replacing.{replaced}
use Rattle.qc_table.proofs.table_rows.TableRows.replace.Goals as goal

pub invariant_of-self : goal.invariant_of-self
invariant_of-self c =
    let inside = c.self.inside in
    let fits = rw (← c.self.view_is) at c.requires.fits in
    let few = rw (← c.self.view_is) at c.requires.within in
    let found = rw (c.in-Some.is, c.deref.ensures.value, c.deref-2.ensures.value) at c.in_ok-places.ensures in
    let made = rw c.deref-3.ensures.value at c.put_rows.ensures in
    (replaced inside.columns inside.keys.items inside.cells.items c.put_rows.new.cells.items c.in-Some.places.items c.args.puts.now.rows c.self.invariant.0 c.self.invariant.1 fits few found.1.count found.0 made).0

pub returns : goal.returns
returns c =
    let inside = c.self.inside in
    let rows = c.args.puts.now.rows in
    let fits = rw (← c.self.view_is) at c.requires.fits in
    let few = rw (← c.self.view_is) at c.requires.within in
    let found = rw (c.in-Some.is, c.deref.ensures.value, c.deref-2.ensures.value) at c.in_ok-places.ensures in
    let made = rw c.deref-3.ensures.value at c.put_rows.ensures in
    let all = replaced inside.columns inside.keys.items inside.cells.items c.put_rows.new.cells.items c.in-Some.places.items rows c.self.invariant.0 c.self.invariant.1 fits few found.1.count found.0 made in
    (all.1.0 ∙ ap (with_rows rows) c.self.view_is, all.1.1)
