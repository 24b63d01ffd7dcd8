use Rattle.std.proofs.Common.{rules, ap, sym, ◌∙◌, w64}
use Rattle.std.specs.Prelude.{Ok}
use Rattle.std.proofs.lemmas.Int.{to_z-of_z}
use Rattle.qc_script.specs.Told.{signed_told}
use Rattle.qc_script.proofs.Numbers.{signed_is, signed_not_utf8, signed_not_parsed, signed_spelt_apart, parsed_fits, fits_below}
use Rattle.qc_script.proofs.reading.fields.signed.Goals as goal

pub returns-in_default : goal.returns-in_default
returns-in_default c = signed_not_utf8 c.args.field.now c.in_default.ensures.cases.0

pub returns-in_default-parse : goal.returns-in_default-parse
returns-in_default-parse c = ap signed_told (sym c.in-Ok.ensures.cases.0) ∙ signed_not_parsed c.in-Ok.digits.now c.in_default-parse.ensures.value.0

pub returns-then-ne : goal.returns-then-ne
returns-then-ne c =
    ap signed_told (sym c.in-Ok.ensures.cases.0) ∙ signed_spelt_apart c.in-Ok.digits.now c.in-Ok-parse.number c.in-Ok-parse.ensures.value.0 (λ e. search rules)

pub returns : goal.returns
returns c =
    let fits = parsed_fits c.in-Ok.digits.now c.in-Ok-parse.number c.in-Ok-parse.ensures.value.0 in
    signed_is c.args.field.now c.in-Ok-parse.number (fits_below c.in-Ok-parse.number fits) (search rules) ∙ ap Ok (sym (to_z-of_z w64 c.in-Ok-parse.number fits))
