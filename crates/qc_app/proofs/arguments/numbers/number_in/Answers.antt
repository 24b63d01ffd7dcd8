use Rattle.std.proofs.Common.{rules}
use Rattle.qc_app.proofs.Digits.{unread_digits}
use Rattle.qc_app.proofs.arguments.numbers.number_in.Goals as goal

pub returns-in-Err : goal.returns-in-Err
returns-in-Err c =
    unread_digits c.args.low c.args.high c.args.text.now c.parse.result c.in-Err.field-0 c.if-text-gt-MOST_DIGITS.false (search rules) c.ranges.high.fits
    c.parse.ensures.value.0 c.in-Err.is
