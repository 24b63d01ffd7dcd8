use Rattle.std.proofs.Common.{◌≡◌, ◌+◌, length}
use Rattle.std.specs.Prelude.{option_map}
use Rattle.qc_sql.specs.Tokens.{comment_bytes}
use Rattle.qc_lex.proofs.front.comment_bytes.Given as goal

abbrev pub invariant-loop-rest : goal.invariant-loop-rest
invariant-loop-rest l = record {
  so_far : option_map (λ n. l.bytes + n) (comment_bytes l.rest) ≡ comment_bytes l.fn.text;
  bytes : l.bytes + length l.rest ≡ length l.fn.text;
}

abbrev pub decreases-loop-rest : goal.decreases-loop-rest
decreases-loop-rest l = length l.rest
