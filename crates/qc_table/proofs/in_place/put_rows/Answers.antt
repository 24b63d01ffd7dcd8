-- The table is there, and what changes it changes the tables of its database, and these the whole.
use Rattle.std.proofs.Common.{◌≡◌, ap, ◌∙◌, sym, subst, true}
use Rattle.std.specs.Prelude.{option_and_then}
use Rattle.std.specs.List.{list_all}
use Rattle.qc_sql.specs.Database.{apply, at_name, change_table}
use Rattle.qc_model.specs.Licence.{row_fits, takes_row}
use Rattle.qc_table.specs.Puts.{with_rows}
use Rattle.qc_table.proofs.InPlace.{table_carried}
use Rattle.qc_table.proofs.Putting.{first_taken, puts_fit, puts_make}
use Rattle.qc_table.proofs.in_place.put_rows.Goals as goal

pub unreachable-requires : goal.unreachable-requires
unreachable-requires c =
    let t = c.in-Some.puts.table in
    let put = c.in-Some.ensures in
    let none = rw (c.bytes.ensures, c.table-table.ensures) at c.in_default-get_mut.ensures.value in
    let first = first_taken t c.args.ops.now c.args.databases.now put.0 put.2 c.requires.fits in
    absurd (cc (ap (λ v. takes_row v first.0) (ap (option_and_then (at_name t.name)) none), first.1))

pub unreachable-requires-in_default-get_mut-2 : goal.unreachable-requires-in_default-get_mut-2
unreachable-requires-in_default-get_mut-2 c =
    let t = c.in-Some.puts.table in
    let put = c.in-Some.ensures in
    let tables = rw (c.bytes.ensures, c.table-table.ensures) at c.in-Some-get_mut.ensures.value in
    let none = rw (c.bytes-2.ensures, c.table-table.ensures) at c.in_default-get_mut-2.ensures.value in
    let first = first_taken t c.args.ops.now c.args.databases.now put.0 put.2 c.requires.fits in
    absurd (cc (ap (λ v. takes_row v first.0) (none ∙ ap (option_and_then (at_name t.name)) tables), first.1))

pub put_rows-requires : goal.put_rows-requires
put_rows-requires c =
    let t = c.in-Some.puts.table in
    let put = c.in-Some.ensures in
    let tables = rw (c.bytes.ensures, c.table-table.ensures) at c.in-Some-get_mut.ensures.value in
    let version = rw (c.bytes-2.ensures, c.table-table.ensures) at c.in-Some-get_mut-2.ensures.value in
    let fits = puts_fit t c.args.ops.now c.args.databases.now c.in-Some-get_mut.tables.now c.in-Some-get_mut-2.version.now put.0 (sym tables) (sym version) c.requires.fits in
    subst (λ rows. list_all (row_fits c.in-Some-get_mut-2.version.now.columns) rows ≡ true) (sym put.1) fits

pub returns : goal.returns
returns c =
    let t = c.in-Some.puts.table in
    let put = c.in-Some.ensures in
    let ops = c.args.ops.now in
    let d = c.args.databases.now in
    let tables = rw (c.bytes.ensures, c.table-table.ensures) at c.in-Some-get_mut.ensures.value in
    let version = rw (c.bytes-2.ensures, c.table-table.ensures) at c.in-Some-get_mut-2.ensures.value in
    let outer = rw (c.bytes.ensures, c.table-table.ensures) at (c.get_mut.follows.holds (c.get_mut-2.follows.lender c.put_rows.new.self)) in
    let inner = rw (c.bytes-2.ensures, c.table-table.ensures) at (c.get_mut-2.follows.holds c.put_rows.new.self) in
    let make = with_rows c.in-Some.puts.rows in
    let is : apply ops d ≡ change_table t make d = subst (λ rows. apply ops d ≡ change_table t (with_rows rows) d) (sym put.1) (puts_make t ops d put.0) in
    table_carried ops _ _ t make is _ _ outer tables _ _ inner version c.requires.within c.put_rows.result c.put_rows.ensures
