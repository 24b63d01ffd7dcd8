use Rattle.std.proofs.Common.{◌≡◌, ◌+◌, length}
use Rattle.qc_lex.proofs.LexLoop.{with_tokens, seen_at}
use Rattle.qc_lex.proofs.lexer.tokens.Given as goal

abbrev pub invariant-loop-tokens : goal.invariant-loop-tokens
invariant-loop-tokens l = record {
  so_far : with_tokens l.tokens (seen_at l.ansi l.at l.rest) ≡ seen_at l.ansi 0 l.fn.text;
  bytes : l.at + length l.rest ≡ length l.fn.text;
}

abbrev pub decreases-loop-tokens : goal.decreases-loop-tokens
decreases-loop-tokens l = length l.rest
