use Rattle.std.proofs.Common.{◌≡◌, ◌+◌, ◌≤◌, length}
use Rattle.qc_lex.specs.Pieces.{content, measured}
use Rattle.qc_lex.proofs.Contents.{added}
use Rattle.qc_lex.proofs.quoted.measure.Given as goal

abbrev pub invariant-loop-taken : goal.invariant-loop-taken
invariant-loop-taken l = record {
  so_far : added l.bytes l.meant (measured (content l.quotes.escapes l.quotes.quote l.rest)) ≡ measured (content l.quotes.escapes l.quotes.quote l.fn.text);
  bytes : l.bytes + length l.rest ≡ length l.fn.text;
  meant : l.meant ≤ l.bytes;
}

abbrev pub decreases-loop-taken : goal.decreases-loop-taken
decreases-loop-taken l = length l.rest
