use Rattle.std.proofs.Common.{◌∙◌, sym}
use Rattle.qc_lex.proofs.Numbers.{too_large}
use Rattle.qc_lex.proofs.number.number_value.Goals as goal

pub returns-in_err-value : goal.returns-in_err-value
returns-in_err-value c =
    c.from_residual.ensures
    ∙ sym (too_large c.loop-digit.value c.loop-digit.digit-index c.args.digits.now c.loop-digit-test.true c.in_err-value.ensures c.loop-digit.invariant.so_far)
