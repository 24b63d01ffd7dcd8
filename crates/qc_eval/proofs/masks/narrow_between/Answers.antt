use Rattle.std.proofs.Common.{refl}
use Rattle.std.specs.Prelude.{◌&&◌}
use Rattle.qc_sql.specs.declared.statements.Op.TheVariants as op
use Rattle.qc_sql.specs.Rows.{both, compared, is_true}
use Rattle.qc_resolve.specs.Meaning.{row_value}
use Rattle.qc_eval.specs.Lanes.{window_rows}
use Rattle.qc_eval.proofs.LaneSteps.{leaves_alike, leaves_both, true_both}
use Rattle.qc_eval.proofs.masks.narrow_between.Goals as goal

pub returns : goal.returns
returns g c holds =
    let rows = window_rows c.args.table.now c.args.window in
    let a = c.args.a.now in
    let low = c.args.low.now in
    let high = c.args.high.now in
    leaves_alike rows (λ x. is_true (compared op.Ge (row_value x a) (row_value x low)) && is_true (compared op.Le (row_value x a) (row_value x high)))
    (λ x. is_true (both (compared op.Ge (row_value x a) (row_value x low)) (compared op.Le (row_value x a) (row_value x high)))) c.args.mask.now c.narrow_by_comparison-2.new.mask
    (λ x. true_both (compared op.Ge (row_value x a) (row_value x low)) (compared op.Le (row_value x a) (row_value x high)))
    (leaves_both rows (λ x. is_true (compared op.Ge (row_value x a) (row_value x low))) (λ x. is_true (compared op.Le (row_value x a) (row_value x high))) c.args.mask.now c.narrow_by_comparison.new.mask c.narrow_by_comparison-2.new.mask
    (c.if-not-narrow_by_comparison.ensures refl) (c.narrow_by_comparison-2.ensures holds))
