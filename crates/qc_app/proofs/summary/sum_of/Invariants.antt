use Rattle.std.proofs.Common.{◌≡◌, ◌*◌, ◌≤ℤ◌, ◌+ℤ◌, drop, pos}
use Rattle.std.specs.Prelude.{neg_ℤ}
use Rattle.qc_app.specs.Summary.{total_of}
use Rattle.qc_app.proofs.summary.sum_of.Given as goal

abbrev pub invariant-loop-number : goal.invariant-loop-number
invariant-loop-number l = record {
  sum : l.sum +ℤ total_of (drop l.number-index l.numbers) ≡ total_of l.numbers;
  low : neg_ℤ (pos (9223372036854775808 * l.number-index)) ≤ℤ l.sum;
  high : l.sum ≤ℤ pos (9223372036854775808 * l.number-index);
}
