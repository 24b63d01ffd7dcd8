use Rattle.std.proofs.Common.{◌≡◌, length}
use Rattle.qc_lex.specs.Heads.{lexemes_in}
use Rattle.qc_lex.proofs.heads.first_word.Given as goal

abbrev pub invariant-loop-bytes : goal.invariant-loop-bytes
invariant-loop-bytes l = lexemes_in l.rest ≡ lexemes_in l.fn.text

abbrev pub decreases-loop-bytes : goal.decreases-loop-bytes
decreases-loop-bytes l = length l.rest
