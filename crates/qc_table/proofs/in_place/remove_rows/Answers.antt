-- The table is there, and what changes it changes the tables of its database, and these the whole.
use Rattle.std.proofs.Common.{◌≡◌, ap, ◌∙◌, sym, subst}
use Rattle.std.specs.Prelude.{option_and_then, Ok}
use Rattle.qc_sql.specs.Database.{apply, at_name, change_table}
use Rattle.qc_model.specs.Licence.{has_row}
use Rattle.qc_table.specs.Dels.{without_rows}
use Rattle.qc_table.proofs.InPlace.{table_carried}
use Rattle.qc_table.proofs.Deleting.{dels_make, first_there}
use Rattle.qc_table.proofs.in_place.remove_rows.Goals as goal

pub unreachable-requires : goal.unreachable-requires
unreachable-requires c =
    let t = c.in-Some.dels.table in
    let put = c.in-Some.ensures in
    let none = rw (c.bytes.ensures, c.table-table.ensures) at c.in_default-get_mut.ensures.value in
    let first = first_there t c.args.ops.now c.args.databases.now put.0 put.2 c.requires.fits in
    absurd (cc (ap (λ v. has_row v first.0) (ap (option_and_then (at_name t.name)) none), first.1))

pub unreachable-requires-in_default-get_mut-2 : goal.unreachable-requires-in_default-get_mut-2
unreachable-requires-in_default-get_mut-2 c =
    let t = c.in-Some.dels.table in
    let put = c.in-Some.ensures in
    let tables = rw (c.bytes.ensures, c.table-table.ensures) at c.in-Some-get_mut.ensures.value in
    let none = rw (c.bytes-2.ensures, c.table-table.ensures) at c.in_default-get_mut-2.ensures.value in
    let first = first_there t c.args.ops.now c.args.databases.now put.0 put.2 c.requires.fits in
    absurd (cc (ap (λ v. has_row v first.0) (none ∙ ap (option_and_then (at_name t.name)) tables), first.1))

pub returns : goal.returns
returns c =
    let t = c.in-Some.dels.table in
    let put = c.in-Some.ensures in
    let ops = c.args.ops.now in
    let d = c.args.databases.now in
    let tables = rw (c.bytes.ensures, c.table-table.ensures) at c.in-Some-get_mut.ensures.value in
    let version = rw (c.bytes-2.ensures, c.table-table.ensures) at c.in-Some-get_mut-2.ensures.value in
    let outer = rw (c.bytes.ensures, c.table-table.ensures) at (c.get_mut.follows.holds (c.get_mut-2.follows.lender c.remove_rows.new.self)) in
    let inner = rw (c.bytes-2.ensures, c.table-table.ensures) at (c.get_mut-2.follows.holds c.remove_rows.new.self) in
    let make = without_rows c.in-Some.dels.keys in
    let is : apply ops d ≡ change_table t make d = subst (λ keys. apply ops d ≡ change_table t (without_rows keys) d) (sym put.1) (dels_make t ops d put.0) in
    table_carried ops _ _ t make is _ _ outer tables _ _ inner version c.requires.within (Ok c.remove_rows.result) c.remove_rows.ensures
