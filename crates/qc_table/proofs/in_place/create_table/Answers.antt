-- The database is there, and what is inserted into its tables changes it there alone.
use Rattle.std.proofs.Common.{◌≡◌, [], ◌∷◌, refl, ap, true}
use Rattle.std.specs.Prelude.{is_some}
use Rattle.std.specs.BTreeMap.{insert_entry}
use Rattle.qc_sql.specs.Database.{Table, name_cmp, tables_of}
use Rattle.qc_sql.specs.declared.tables.RowOp.TheVariants as op
use Rattle.qc_table.specs.Fitting.{is_within}
use Rattle.qc_table.proofs.Rows.{both}
use Rattle.qc_table.proofs.Maps.{changed}
use Rattle.qc_table.proofs.InPlace.{each_inserted, refused, stays, tables_within, within_changed}
use Rattle.qc_table.proofs.in_place.create_table.Goals as goal

pub empty-requires : goal.empty-requires
empty-requires c = (both _ _ c.requires.fits).1

pub unreachable-requires : goal.unreachable-requires
unreachable-requires c =
    let none = rw c.bytes.ensures at c.in_default.ensures.value in
    let there : is_some (tables_of c.args.table.now.db c.args.databases.now) ≡ true = (both _ _ (both _ _ c.requires.fits).0).0 in
    absurd (cc (ap is_some none, there))

pub returns : goal.returns
returns c =
    let found = rw c.bytes.ensures at c.in-Some.ensures.value in
    let ends = rw c.bytes.ensures at (c.get_mut.follows.holds c.insert.new.self) in
    let d = c.args.databases.now in
    let name = c.args.table.now in
    let tables = c.in-Some.tables.now in
    let after = c.get_mut.follows.lender c.insert.new.self in
    let empty : Table = record { columns = c.args.columns.now; rows = [] } in
    let more : c.insert.new.self ≡ insert_entry name_cmp tables name.name empty = rw (c.bytes-2.ensures, c.in_ok-version.ensures) at c.in_ok-insert.ensures.ok in
    let within = tables_within d name.db tables found c.requires.within in (
      changed name.db d tables c.insert.new.self after (λ ts. insert_entry name_cmp ts name.name empty) ends found more,
      within_changed d after name.db tables c.insert.new.self ends found c.requires.within (rw more (each_inserted is_within name.name empty tables within refl)),
    )

pub returns-in_err-insert : goal.returns-in_err-insert
returns-in_err-insert c =
    let found = rw c.bytes.ensures at c.in-Some.ensures.value in
    let ends = rw c.bytes.ensures at (c.get_mut.follows.holds c.insert.new.self) in
    let same = stays c.args.databases.now (c.get_mut.follows.lender c.insert.new.self) c.args.table.now.db c.in-Some.tables.now c.insert.new.self ends found c.in_err-insert.ensures.err in
    refused (op.CreateTable c.args.table.now c.args.columns.now ∷ []) c.args.databases.now _ c.from_residual-in_err-insert.result _ c.from_residual-in_err-insert.ensures.1 same
