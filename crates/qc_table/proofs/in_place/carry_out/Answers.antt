-- One operation alone is carried out on the database that is as it was.
use Rattle.std.proofs.Common.{◌≡◌, ◌∙◌, [], ◌∷◌, ap, sym, subst, true}
use Rattle.std.specs.Prelude.{Ok}
use Rattle.qc_sql.specs.Database.{Database, apply_one}
use Rattle.qc_model.specs.Licence.{is_within_rows, op_fits, ops_fit}
use Rattle.qc_table.specs.Fitting.{AreCarriedOut}
use Rattle.qc_table.proofs.InPlace.{alone, left}
use Rattle.qc_table.proofs.Rows.{both}
use Rattle.qc_table.proofs.in_place.carry_out.Goals as goal

pub remove_rows-requires-clause-fits : goal.remove_rows-requires-clause-fits
remove_rows-requires-clause-fits c =
    let d = c.args.databases.now in
    let same = left c.args.ops.now d c.put_rows.new.databases c.put_rows.result (c.in_ok-put_rows.was ∙ ap Ok c.if-branch.false) c.put_rows.ensures in
    subst (λ (e : Database). ops_fit c.args.ops.now e ≡ true) (sym same) c.requires.fits

pub remove_rows-requires-clause-within : goal.remove_rows-requires-clause-within
remove_rows-requires-clause-within c =
    let d = c.args.databases.now in
    let same = left c.args.ops.now d c.put_rows.new.databases c.put_rows.result (c.in_ok-put_rows.was ∙ ap Ok c.if-branch.false) c.put_rows.ensures in
    subst (λ (e : Database). is_within_rows e ≡ true) (sym same) c.requires.within

pub returns-then-remove_rows : goal.returns-then-remove_rows
returns-then-remove_rows c =
    let d = c.args.databases.now in
    let same = left c.args.ops.now d c.put_rows.new.databases c.put_rows.result (c.in_ok-put_rows.was ∙ ap Ok c.if-branch.false) c.put_rows.ensures in
    subst (λ (e : Database). AreCarriedOut c.args.ops.now e (Ok true) c.remove_rows.new.databases) same (rw c.if-remove_rows.true at c.remove_rows.ensures)

pub carry_out_one-requires-clause-fits : goal.carry_out_one-requires-clause-fits
carry_out_one-requires-clause-fits c =
    let d = c.args.databases.now in
    let op = c.op-item.result in
    let one = alone op c.args.ops.now c.in-len1.len_below c.in-len1.len_at_least c.op-item.is in
    let fits = both (op_fits op d) (ops_fit [] (apply_one op d)) (subst (λ os. ops_fit os d ≡ true) one c.requires.fits) in
    let same = left c.args.ops.now d c.put_rows.new.databases c.put_rows.result (c.in_ok-put_rows.was ∙ ap Ok c.if-branch.false) c.put_rows.ensures in
    let still = left c.args.ops.now c.put_rows.new.databases c.remove_rows.new.databases (Ok c.remove_rows.result) (ap Ok c.if-remove_rows.false) c.remove_rows.ensures in
    subst (λ e. op_fits op e ≡ true) (sym (still ∙ same)) fits.0

pub carry_out_one-requires-clause-within : goal.carry_out_one-requires-clause-within
carry_out_one-requires-clause-within c =
    let d = c.args.databases.now in
    let same = left c.args.ops.now d c.put_rows.new.databases c.put_rows.result (c.in_ok-put_rows.was ∙ ap Ok c.if-branch.false) c.put_rows.ensures in
    let still = left c.args.ops.now c.put_rows.new.databases c.remove_rows.new.databases (Ok c.remove_rows.result) (ap Ok c.if-remove_rows.false) c.remove_rows.ensures in
    subst (λ (e : Database). is_within_rows e ≡ true) (sym (still ∙ same)) c.requires.within

pub returns-in-len1 : goal.returns-in-len1
returns-in-len1 c =
    let d = c.args.databases.now in
    let op = c.op-item.result in
    let one = alone op c.args.ops.now c.in-len1.len_below c.in-len1.len_at_least c.op-item.is in
    let same = left c.args.ops.now d c.put_rows.new.databases c.put_rows.result (c.in_ok-put_rows.was ∙ ap Ok c.if-branch.false) c.put_rows.ensures in
    let still = left c.args.ops.now c.put_rows.new.databases c.remove_rows.new.databases (Ok c.remove_rows.result) (ap Ok c.if-remove_rows.false) c.remove_rows.ensures in
    let carried = subst (λ e. AreCarriedOut (op ∷ []) e c.carry_out_one.result c.carry_out_one.new.databases) (still ∙ same) c.carry_out_one.ensures in
    subst (λ os. AreCarriedOut os d c.carry_out_one.result c.carry_out_one.new.databases) (sym one) carried

pub returns-in_default : goal.returns-in_default
returns-in_default c =
    let d = c.args.databases.now in
    let same = left c.args.ops.now d c.put_rows.new.databases c.put_rows.result (c.in_ok-put_rows.was ∙ ap Ok c.if-branch.false) c.put_rows.ensures in
    let still = left c.args.ops.now c.put_rows.new.databases c.remove_rows.new.databases (Ok c.remove_rows.result) (ap Ok c.if-remove_rows.false) c.remove_rows.ensures in
    still ∙ same
