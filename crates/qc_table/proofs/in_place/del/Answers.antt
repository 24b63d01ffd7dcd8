-- The table is there, and what changes it changes the tables of its database, and these the whole.
use Rattle.std.proofs.Common.{[], ◌∷◌, ap, ◌∙◌, refl, w64}
use Rattle.std.specs.Prelude.{option_and_then}
use Rattle.std.proofs.lemmas.Int.{to_z-of_z}
use Rattle.qc_sql.specs.declared.tables.RowOp.TheVariants as op
use Rattle.qc_sql.specs.Database.{at_name, without_row}
use Rattle.qc_model.specs.Licence.{has_row}
use Rattle.qc_table.proofs.InPlace.{table_carried}
use Rattle.qc_table.proofs.in_place.del.Goals as goal

pub unreachable-requires : goal.unreachable-requires
unreachable-requires c =
    let none = rw c.bytes.ensures at c.in_default.ensures.value in
    absurd (cc (ap (λ t. has_row t c.args.key) (ap (option_and_then (at_name c.args.table.now.name)) none), c.requires.fits))

pub unreachable-requires-in_default-get_mut : goal.unreachable-requires-in_default-get_mut
unreachable-requires-in_default-get_mut c =
    let tables = rw c.bytes.ensures at c.in-Some.ensures.value in
    let none = rw (c.bytes-2.ensures) at c.in_default-get_mut.ensures.value in
    absurd (cc (ap (λ t. has_row t c.args.key) (none ∙ ap (option_and_then (at_name c.args.table.now.name)) tables), c.requires.fits))

pub returns : goal.returns
returns c =
    let tables = rw c.bytes.ensures at c.in-Some.ensures.value in
    let version = rw (c.bytes-2.ensures) at c.in-Some-get_mut.ensures.value in
    let outer = rw c.bytes.ensures at (c.get_mut.follows.holds (c.get_mut-2.follows.lender c.del.new.self)) in
    let inner = rw (c.bytes-2.ensures) at (c.get_mut-2.follows.holds c.del.new.self) in
    table_carried (op.Del c.args.table.now c.args.key ∷ []) _ _ c.args.table.now (without_row c.args.key) refl _ _ outer tables _ _ inner version c.requires.within c.del.result (rw (to_z-of_z w64 c.args.key c.ranges.key) at c.del.ensures)
