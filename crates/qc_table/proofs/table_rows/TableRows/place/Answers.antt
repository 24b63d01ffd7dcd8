-- The columns get room first, and then each row its place.
use Rattle.std.proofs.Common.{◌≡◌, ◌≤◌, ◌∙◌, ap, arith, length, rules}
use Rattle.qc_sql.specs.Database.{most_rows}
use Rattle.qc_table.specs.Puts.{with_rows}
use Rattle.qc_table.proofs.Appending.{rows_taken, same_stored, unchanged}
use Rattle.qc_table.proofs.Replacing.{still_within}
use Rattle.qc_table.proofs.Stores.{rows_length}
use Rattle.qc_table.proofs.table_rows.TableRows.place.Goals as goal

pub overflow_sub-len : goal.overflow_sub-len
overflow_sub-len c =
    let inside = c.self.inside in
    let within = rw (← c.self.view_is) at c.requires.within in
    let count : c.len-2.result ≡ length inside.keys.items = search rules in
    omega (arith, within, count, rows_length (length inside.columns) inside.keys.items inside.cells.items)

pub reserve_rows-requires : goal.reserve_rows-requires
reserve_rows-requires c =
    let inside = c.self.inside in
    let fits = rw (← c.self.view_is) at c.requires.fits in
    rows_taken inside.columns (length inside.keys.items) inside.cells.items c.args.puts.now.rows c.self.invariant.0 fits

pub invariant_of-self-in_err-reserve_rows : goal.invariant_of-self-in_err-reserve_rows
invariant_of-self-in_err-reserve_rows c =
    let inside = c.self.inside in
    (same_stored inside.columns inside.keys.items c.reserve.new.self.items inside.cells.items c.reserve_rows.new.cells.items c.self.invariant.0 c.self.invariant.1 c.reserve_rows.ensures.same c.reserve.ensures.items).0

pub returns-in_err-reserve_rows : goal.returns-in_err-reserve_rows
returns-in_err-reserve_rows c =
    let inside = c.self.inside in
    let same = same_stored inside.columns inside.keys.items c.reserve.new.self.items inside.cells.items c.reserve_rows.new.cells.items c.self.invariant.0 c.self.invariant.1 c.reserve_rows.ensures.same c.reserve.ensures.items in
    unchanged (with_rows c.args.puts.now.rows c.args.self.now) c.args.self.now _ c.from_residual-in_err-reserve_rows.result _ c.from_residual-in_err-reserve_rows.ensures.1 (same.1 ∙ c.self.view_is)

pub put_each-requires-clause-fits : goal.put_each-requires-clause-fits
put_each-requires-clause-fits c = rw (← c.self.view_is) at c.requires.fits

pub put_each-requires-clause-store : goal.put_each-requires-clause-store
put_each-requires-clause-store c =
    let inside = c.self.inside in
    (same_stored inside.columns inside.keys.items c.reserve.new.self.items inside.cells.items c.reserve_rows.new.cells.items c.self.invariant.0 c.self.invariant.1 c.reserve_rows.ensures.same c.reserve.ensures.items).0.0

pub put_each-requires-clause-sound : goal.put_each-requires-clause-sound
put_each-requires-clause-sound c =
    let inside = c.self.inside in
    (same_stored inside.columns inside.keys.items c.reserve.new.self.items inside.cells.items c.reserve_rows.new.cells.items c.self.invariant.0 c.self.invariant.1 c.reserve_rows.ensures.same c.reserve.ensures.items).0.1

pub invariant_of-self-2 : goal.invariant_of-self-2
invariant_of-self-2 c = (c.put_each.ensures.store, c.put_each.ensures.sound)

pub returns : goal.returns
returns c =
    let inside = c.self.inside in
    let rows = c.args.puts.now.rows in
    let within = rw (← c.self.view_is) at c.requires.within in
    let count : c.len-2.result ≡ length inside.keys.items = search rules in
    let keys : length c.reserve.new.self.items ≡ length inside.keys.items = ap length c.reserve.ensures.items in
    let many = rows_length (length inside.columns) c.put_each.new.keys.items c.put_each.new.cells.items in
    let few : length c.put_each.new.keys.items ≤ most_rows = omega (arith, within, count, keys, c.put_each.ensures.few, rows_length (length inside.columns) inside.keys.items inside.cells.items) in
    let same = same_stored inside.columns inside.keys.items c.reserve.new.self.items inside.cells.items c.reserve_rows.new.cells.items c.self.invariant.0 c.self.invariant.1 c.reserve_rows.ensures.same c.reserve.ensures.items in
    (c.put_each.ensures.rows ∙ ap (with_rows rows) (same.1 ∙ c.self.view_is), rw many (still_within (length c.put_each.new.keys.items) few))
