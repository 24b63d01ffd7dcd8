use Rattle.std.proofs.Common.{◌≡◌, length}
use Rattle.qc_sql.specs.Tokens.{is_space, without_front}
use Rattle.qc_lex.proofs.trim.without_spaces.Given as goal

abbrev pub invariant-loop-rest : goal.invariant-loop-rest
invariant-loop-rest l = without_front is_space l.rest ≡ without_front is_space l.fn.text

abbrev pub decreases-loop-rest : goal.decreases-loop-rest
decreases-loop-rest l = length l.rest
