-- What fits is within rows, and operations leave a database in order; none leave it as it is.
use Rattle.std.proofs.Common.{◌∙◌, List, ap, length, subst, sym}
use Rattle.std.specs.Prelude.{◌==◌}
use Rattle.qc_sql.specs.declared.tables.RowOp.{RowOp}
use Rattle.qc_sql.specs.Database.{Database, apply}
use Rattle.qc_sql.proofs.Order.{stays_ordered}
use Rattle.qc_table.specs.Tables.{IsHeld}
use Rattle.qc_table.proofs.Fits.{fitted, none_made, within_rows}
use Rattle.qc_table.proofs.database.Database.apply.Goals as goal

pub invariant_of-result : goal.invariant_of-result
invariant_of-result c =
    let made = apply c.args.ops.now c.args.self.now in
    let fits = fitted made c.in_ok-databases.databases c.in_ok-databases.ensures.made in
    subst (λ (d : Database). IsHeld d) (sym (c.in_ok-new.ensures.ok ∙ fits.1))
    (record { ordered = stays_ordered c.args.ops.now c.args.self.now c.tables_after.ensures.ordered; within = within_rows made fits.0 })

pub returns-then-is_empty : goal.returns-then-is_empty
returns-then-is_empty c =
    let none = ap (λ (os : List RowOp). length os == 0) (sym c.items.ensures) ∙ sym c.is_empty.ensures ∙ c.if-is_empty.true in
    none_made c.args.ops.now c.args.self.now c.in_ok-share.field-0 none c.in_ok-share.ensures.same c.share.ensures.within
