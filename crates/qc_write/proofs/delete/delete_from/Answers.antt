use Rattle.std.proofs.Common.{◌∙◌, sym, ap, Ok, List, ℕ, length, map, subst}
use Rattle.std.proofs.lemmas.Result.{err_from_is_err_and}
use Rattle.qc_sql.specs.declared.tables.RowOp.{RowOp}
use Rattle.qc_sql.specs.Effects.{Effect, effect_of}
use Rattle.qc_resolve.specs.Kept.{kept_rows}
use Rattle.qc_eval.specs.Entries.{entry_at}
use Rattle.qc_write.specs.Removing.{del_of, delete_validated}
use Rattle.qc_write.specs.Targets.{bound_of}
use Rattle.qc_resolve.proofs.Exits.{refused_too}
use Rattle.qc_write.proofs.KeptEntries.{rows_gone}
use Rattle.qc_write.proofs.delete.delete_from.Goals as goal

pub returns : goal.returns
returns g c =
    let b = bound_of c.args.target.now in
    let ops = c.in_ok-ops.ops in
    rows_gone b c.args.db.now c.args.session c.args.cond.now c.in_ok-rows.rows ops c.in_ok-rows.ensures.gives
    (c.in_ok-ops.ensures ∙ ap (map (λ i. del_of b.name (entry_at b.table.rows i))) c.items.ensures)
    ∙ ap (λ (e : Effect). Ok e) (sym c.of_rows.ensures)
