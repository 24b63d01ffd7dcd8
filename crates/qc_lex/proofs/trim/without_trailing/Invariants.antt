use Rattle.std.proofs.Common.{◌≡◌, length, reverse}
use Rattle.qc_sql.specs.Tokens.{is_trailing, without_front}
use Rattle.qc_lex.proofs.trim.without_trailing.Given as goal

abbrev pub invariant-loop-rest : goal.invariant-loop-rest
invariant-loop-rest l = reverse (without_front is_trailing (reverse l.rest)) ≡ reverse (without_front is_trailing (reverse l.fn.text))

abbrev pub decreases-loop-rest : goal.decreases-loop-rest
decreases-loop-rest l = length l.rest
