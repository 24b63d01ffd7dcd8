-- The name is new, and gets no tables.
use Rattle.std.proofs.Common.{refl}
use Rattle.std.specs.Prelude.{is_some}
use Rattle.qc_sql.specs.Database.{tables_of, no_tables}
use Rattle.qc_table.specs.Fitting.{is_within}
use Rattle.qc_table.proofs.InPlace.{each, each_inserted, is_new}
use Rattle.qc_table.proofs.in_place.create_db.Goals as goal

pub returns : goal.returns
returns c =
    let made = rw (c.bytes.ensures, c.new-tables.ensures) at c.in_ok-insert.ensures.ok in
    let new = is_new (is_some (tables_of c.args.name.now c.args.databases.now)) c.requires.fits in
    (rw new made, rw made (each_inserted (each is_within) c.args.name.now no_tables c.args.databases.now c.requires.within refl))
