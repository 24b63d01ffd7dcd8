-- The database is there, and what is removed from its tables changes it there alone.
use Rattle.std.proofs.Common.{ap}
use Rattle.std.specs.Prelude.{is_some, option_and_then}
use Rattle.std.specs.BTreeMap.{is_at}
use Rattle.std.specs.Map.{remove_entry}
use Rattle.qc_sql.specs.Database.{at_name, name_cmp}
use Rattle.qc_table.specs.Fitting.{is_within}
use Rattle.qc_table.proofs.Maps.{changed}
use Rattle.qc_table.proofs.InPlace.{each_removed, tables_within, within_changed}
use Rattle.qc_table.proofs.in_place.drop_table.Goals as goal

pub unreachable-requires : goal.unreachable-requires
unreachable-requires c =
    let none = rw c.bytes.ensures at c.in_default.ensures.value in
    absurd (cc (ap is_some (ap (option_and_then (at_name c.args.table.now.name)) none), c.requires.fits))

pub returns : goal.returns
returns c =
    let found = rw c.bytes.ensures at c.in-Some.ensures.value in
    let ends = rw c.bytes.ensures at (c.get_mut.follows.holds c.remove.new.self) in
    let left = rw c.bytes-2.ensures at c.remove.ensures in
    let d = c.args.databases.now in
    let db = c.args.table.now.db in
    let tables = c.in-Some.tables.now in
    let within = tables_within d db tables found c.requires.within in (
      changed db d tables c.remove.new.self (c.get_mut.follows.lender c.remove.new.self) (remove_entry (is_at (name_cmp c.args.table.now.name))) ends found left,
      within_changed d (c.get_mut.follows.lender c.remove.new.self) db tables c.remove.new.self ends found c.requires.within (rw left (each_removed is_within (is_at (name_cmp c.args.table.now.name)) tables within)),
    )
