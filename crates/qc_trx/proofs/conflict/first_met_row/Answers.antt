-- The row of the first number.
use Rattle.std.proofs.Common.{◌≡◌, ◌∙◌, sym, ap, Some, None}
use Rattle.qc_trx.specs.Writes.{is_met, first_own, written_on}
use Rattle.qc_trx.proofs.Meets.{at_number, row_found}
use Rattle.qc_trx.proofs.conflict.first_met_row.Goals as goal

pub returns-in-None : goal.returns-in-None
returns-in-None c =
    let test = is_met (written_on c.args.ops.now c.args.origin.now) in
    let first : first_own test c.args.writes.now ≡ None = sym c.in_ok-first_met.ensures ∙ c.in-None.is in
    sym (ap (at_number c.args.writes.now) first) ∙ row_found test c.args.writes.now

pub returns-in-Some : goal.returns-in-Some
returns-in-Some c =
    let test = is_met (written_on c.args.ops.now c.args.origin.now) in
    let first : first_own test c.args.writes.now ≡ Some c.in-Some.number = sym c.in_ok-first_met.ensures ∙ c.in-Some.is in
    c.row.ensures ∙ (sym (ap (at_number c.args.writes.now) first) ∙ row_found test c.args.writes.now)
