use Rattle.std.proofs.Common.{◌≡◌, true, sym, subst, rules, w64, FitsSigned}
use Rattle.std.proofs.lemmas.Int.{to_z-of_z}
use Rattle.qc_sql.specs.Rows.{compared, is_true}
use Rattle.qc_resolve.specs.Meaning.{row_value}
use Rattle.qc_eval.specs.Lanes.{Leaves, window_rows}
use Rattle.qc_eval.proofs.LaneSteps.{number_is}
use Rattle.qc_eval.proofs.masks.narrow_by_comparison.Goals as goal

pub returns-in-Some : goal.returns-in-Some
returns-in-Some g c =
    let fits : FitsSigned w64 c.in-Some.number = search rules in
    subst (λ f. c.narrow_column.result ≡ true → Leaves (window_rows c.args.table.now c.args.window) (λ x. is_true (compared c.args.op (row_value x c.args.a.now) (row_value x f))) c.args.mask.now c.narrow_column.new.mask)
    (sym (number_is c.args.b.now c.in-Some.number (sym c.in-Some.ensures))) (rw (to_z-of_z w64 c.in-Some.number fits) at c.narrow_column.ensures)
