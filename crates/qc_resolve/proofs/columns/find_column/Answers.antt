use Rattle.std.proofs.Common.{sym, ◌∙◌, ap}
use Rattle.std.specs.Prelude.{option_map, None}
use Rattle.std.proofs.lemmas.Result.{err_from_is_err_and}
use Rattle.qc_sql.specs.Rows.{◌>>=◌}
use Rattle.qc_resolve.specs.Columns.{scanned, spots_from, find_spot, known}
use Rattle.qc_resolve.specs.Views.{spot_of}
use Rattle.qc_resolve.proofs.Scans.{table_on, table_refused}
use Rattle.qc_resolve.proofs.Exits.{refused_too}
use Rattle.qc_resolve.proofs.columns.find_column.Goals as goal

pub returns-in_err-found : goal.returns-in_err-found
returns-in_err-found c =
    let p = err_from_is_err_and c.from_residual.result c.from_residual.ensures.1 in
    let b = c.bound-item.result in
    let name = c.args.name.now in
    rw (p.1, p.2)
    (refused_too (option_map spot_of) spot_of c.in_err-found.field-0.0 (scanned name (option_map spot_of c.loop-slot.found) (spots_from b c.loop-slot.slot 0 b.table.columns)) (find_spot c.args.scope.now.bounds name)
    (λ e h. ap (λ r. r >>= known name.name)
    (sym c.loop-slot.invariant ∙ table_refused name (option_map spot_of c.loop-slot.found) e c.items-bound-items.result.now c.loop-slot.slot b c.loop-slot-test.true c.bound-item.is h))
    c.in_err-found.ensures)

pub loop-slot-preserved : goal.loop-slot-preserved
loop-slot-preserved c =
    sym (table_on c.args.name.now (option_map spot_of c.loop-slot.found) (option_map spot_of c.in_ok-found.found) c.items-bound-items.result.now c.loop-slot.slot c.bound-item.result c.loop-slot-test.true c.bound-item.is c.in_ok-found.ensures)
    ∙ c.loop-slot.invariant
