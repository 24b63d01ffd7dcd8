use Rattle.std.proofs.Common.{◌≡◌, length}
use Rattle.qc_lex.specs.Pieces.{content}
use Rattle.qc_lex.proofs.Contents.{meant_behind, meant_of}
use Rattle.qc_lex.proofs.quoted.unquoted.Given as goal

abbrev pub invariant-loop-bytes : goal.invariant-loop-bytes
invariant-loop-bytes l = meant_behind l.bytes.items (content l.quotes.escapes l.quotes.quote l.rest) ≡ meant_of (content l.quotes.escapes l.quotes.quote l.fn.text)

abbrev pub decreases-loop-bytes : goal.decreases-loop-bytes
decreases-loop-bytes l = length l.rest
