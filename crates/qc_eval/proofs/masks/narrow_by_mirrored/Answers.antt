use Rattle.std.proofs.Common.{◌≡◌, true, sym, subst, ap, ◌∙◌, rules, w64, FitsSigned}
use Rattle.std.proofs.lemmas.Int.{to_z-of_z}
use Rattle.qc_types.specs.declared.names.Value.TheVariants as value
use Rattle.qc_sql.specs.Rows.{compared, is_true}
use Rattle.qc_resolve.specs.Meaning.{row_value}
use Rattle.qc_eval.specs.Lanes.{Leaves, window_rows}
use Rattle.qc_eval.proofs.LaneSteps.{leaves_alike, number_is}
use Rattle.qc_eval.proofs.Ranges.{compared_turned}
use Rattle.qc_eval.proofs.masks.narrow_by_mirrored.Goals as goal

pub returns-in-Some : goal.returns-in-Some
returns-in-Some g c =
    let rows = window_rows c.args.table.now c.args.window in
    let n = c.in-Some.number in
    let fits : FitsSigned w64 c.in-Some.number = search rules in
    subst (λ f. c.narrow_column.result ≡ true → Leaves (window_rows c.args.table.now c.args.window) (λ x. is_true (compared c.args.op (row_value x f) (row_value x c.args.b.now))) c.args.mask.now c.narrow_column.new.mask)
    (sym (number_is c.args.a.now c.in-Some.number (sym c.in-Some.ensures)))
    (λ holds. leaves_alike rows (λ x. is_true (compared c.mirrored.result (row_value x c.args.b.now) (value.Int n))) (λ x. is_true (compared c.args.op (value.Int n) (row_value x c.args.b.now))) c.args.mask.now c.narrow_column.new.mask
    (λ x. ap (λ o. is_true (compared o (row_value x c.args.b.now) (value.Int n))) c.mirrored.ensures ∙ ap is_true (compared_turned c.args.op (value.Int n) (row_value x c.args.b.now)))
    (rw (to_z-of_z w64 c.in-Some.number fits) at (c.narrow_column.ensures holds)))
