-- Errors that fit a packet.
use Rattle.std.proofs.Common.{ℕ, codes, refl, arith, length-append}
use Rattle.std.specs.Prelude.{decimal}
use Rattle.qc_sql.specs.Errors.{syntax_error}
use Rattle.qc_laws.specs.sizes.Replies.{FitsError}
use Rattle.qc_laws.proofs.sizes.Decimals.{decimal_few}

pub syntax_fits : (n : ℕ) → FitsError (syntax_error n)
syntax_fits n = record { code = omega arith; state = refl; message = omega (arith, length-append (codes "Syntax error at byte ") (decimal n), decimal_few n) }
