-- The columns get room first, and then the rows.
use Rattle.std.proofs.Common.{◌≡◌, ◌+◌, ◌≤◌, ◌∙◌, ap, arith, length, rules, sym}
use Rattle.qc_sql.specs.Database.{most_rows}
use Rattle.qc_table.specs.Puts.{with_rows}
use Rattle.qc_table.proofs.Appending.{appended, rows_taken, same_stored, same_taken, unchanged}
use Rattle.qc_table.proofs.Stores.{rows_length}
use Rattle.qc_table.proofs.table_rows.TableRows.append.Goals as goal

pub overflow_sub-len : goal.overflow_sub-len
overflow_sub-len c =
    let inside = c.self.inside in
    let within = rw (← c.self.view_is) at c.requires.within in
    let count : c.len-2.result ≡ length inside.keys.items = search rules in
    omega (arith, within, count, rows_length (length inside.columns) inside.keys.items inside.cells.items)

pub reserve_rows-requires : goal.reserve_rows-requires
reserve_rows-requires c =
    let inside = c.self.inside in
    let fits = rw (← c.self.view_is) at c.requires.fits in
    rows_taken inside.columns (length inside.keys.items) inside.cells.items c.args.puts.now.rows c.self.invariant.0 fits

pub invariant_of-self-in_err-reserve_rows : goal.invariant_of-self-in_err-reserve_rows
invariant_of-self-in_err-reserve_rows c =
    let inside = c.self.inside in
    (same_stored inside.columns inside.keys.items c.reserve.new.self.items inside.cells.items c.reserve_rows.new.cells.items c.self.invariant.0 c.self.invariant.1 c.reserve_rows.ensures.same c.reserve.ensures.items).0

pub returns-in_err-reserve_rows : goal.returns-in_err-reserve_rows
returns-in_err-reserve_rows c =
    let inside = c.self.inside in
    let same = same_stored inside.columns inside.keys.items c.reserve.new.self.items inside.cells.items c.reserve_rows.new.cells.items c.self.invariant.0 c.self.invariant.1 c.reserve_rows.ensures.same c.reserve.ensures.items in
    unchanged (with_rows c.args.puts.now.rows c.args.self.now) c.args.self.now _ c.from_residual-in_err-reserve_rows.result _ c.from_residual-in_err-reserve_rows.ensures.1 (same.1 ∙ c.self.view_is)

pub push_rows-requires-clause-takes : goal.push_rows-requires-clause-takes
push_rows-requires-clause-takes c =
    let inside = c.self.inside in
    let fits = rw (← c.self.view_is) at c.requires.fits in
    let take = rows_taken inside.columns (length inside.keys.items) inside.cells.items c.args.puts.now.rows c.self.invariant.0 fits in
    same_taken c.args.puts.now.rows inside.cells.items c.reserve_rows.new.cells.items take c.reserve_rows.ensures.same

pub invariant_of-self-2 : goal.invariant_of-self-2
invariant_of-self-2 c =
    let inside = c.self.inside in
    let rows = c.args.puts.now.rows in
    let fits = rw (← c.self.view_is) at c.requires.fits in
    let within = rw (← c.self.view_is) at c.requires.within in
    let count : c.len-2.result ≡ length inside.keys.items = search rules in
    let few : length inside.keys.items + length rows ≤ most_rows = omega (arith, within, count, rows_length (length inside.columns) inside.keys.items inside.cells.items) in
    let rise = rw (c.last_key.ensures, c.deref.ensures.value) at c.rise_behind.ensures in
    let keys = rw c.reserve.ensures.items at c.push_keys.ensures in
    (appended inside.columns inside.keys.items c.push_keys.new.keys.items inside.cells.items c.reserve_rows.new.cells.items c.push_rows.new.cells.items rows c.self.invariant.0 c.self.invariant.1 fits few (sym rise ∙ c.if-not-rise_behind.false) c.reserve_rows.ensures.same c.push_rows.ensures keys).0

pub returns : goal.returns
returns c =
    let inside = c.self.inside in
    let rows = c.args.puts.now.rows in
    let fits = rw (← c.self.view_is) at c.requires.fits in
    let within = rw (← c.self.view_is) at c.requires.within in
    let count : c.len-2.result ≡ length inside.keys.items = search rules in
    let few : length inside.keys.items + length rows ≤ most_rows = omega (arith, within, count, rows_length (length inside.columns) inside.keys.items inside.cells.items) in
    let rise = rw (c.last_key.ensures, c.deref.ensures.value) at c.rise_behind.ensures in
    let keys = rw c.reserve.ensures.items at c.push_keys.ensures in
    let all = appended inside.columns inside.keys.items c.push_keys.new.keys.items inside.cells.items c.reserve_rows.new.cells.items c.push_rows.new.cells.items rows c.self.invariant.0 c.self.invariant.1 fits few (sym rise ∙ c.if-not-rise_behind.false) c.reserve_rows.ensures.same c.push_rows.ensures keys in
    (all.1.0 ∙ ap (with_rows rows) c.self.view_is, all.1.1)
