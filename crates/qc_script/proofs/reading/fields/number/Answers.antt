use Rattle.std.proofs.Common.{rules, ap, sym, ◌∙◌}
use Rattle.qc_script.specs.Told.{number_told}
use Rattle.qc_script.proofs.Numbers.{number_is, number_not_utf8, number_not_parsed, number_spelt_apart, parsed_below}
use Rattle.qc_script.proofs.reading.fields.number.Goals as goal

pub returns-in_default : goal.returns-in_default
returns-in_default c = number_not_utf8 c.args.field.now c.in_default.ensures.cases.0

pub returns-in_default-parse : goal.returns-in_default-parse
returns-in_default-parse c = ap number_told (sym c.in-Ok.ensures.cases.0) ∙ number_not_parsed c.in-Ok.digits.now c.in_default-parse.ensures.value.0

pub returns-then-ne : goal.returns-then-ne
returns-then-ne c =
    ap number_told (sym c.in-Ok.ensures.cases.0) ∙ number_spelt_apart c.in-Ok.digits.now c.in-Ok-parse.number c.in-Ok-parse.ensures.value.0 (λ e. search rules)

pub returns : goal.returns
returns c = number_is c.args.field.now c.in-Ok-parse.number (parsed_below c.in-Ok.digits.now c.in-Ok-parse.number c.in-Ok-parse.ensures.value.0) (search rules)
