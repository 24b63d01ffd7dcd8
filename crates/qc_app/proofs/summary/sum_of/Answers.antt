-- The next number is added.
use Rattle.std.proofs.Common.{◌≡◌, ◌+ℤ◌, ◌∙◌, ◌+◌, ℤ, ap, arith, drop, sym, rules, w64, to_z, of_z, FitsSigned, get_or, pos}
use Rattle.std.specs.Int.{w128}
use Rattle.std.proofs.lemmas.Int.{ints, to_z-of_z}
use Rattle.qc_app.specs.Summary.{total_of}
use Rattle.qc_app.proofs.Counts.{moved_on, next_total}
use Rattle.qc_app.proofs.summary.sum_of.Goals as goal

pub loop-number-preserved : goal.loop-number-preserved
loop-number-preserved c =
    let numbers = c.args.numbers.now in
    let i = c.loop-number.number-index in
    let x = get_or numbers i (pos 0) in
    let rest = total_of (drop (i + 1) numbers) in
    let fits : FitsSigned w64 x = search rules in
    let added : c.added-sum.result ≡ x +ℤ c.loop-number.sum = first_of (grind (arith, ints, to_z-of_z), search rules) in
    let whole : to_z w128 (of_z w128 c.added-sum.result) ≡ c.added-sum.result = to_z-of_z w128 c.added-sum.result (search rules) in
    let so_far : c.loop-number.sum ≡ to_z w128 c.loop-number.sum-bits = sym c.loop-number.sum-is in
    let before : c.loop-number.sum +ℤ (x +ℤ rest) ≡ total_of numbers = ap (λ z. c.loop-number.sum +ℤ z) (sym (next_total numbers i c.loop-number-test.true)) ∙ (ap (λ s. s +ℤ total_of (drop i numbers)) so_far ∙ c.loop-number.invariant.sum) in
    let kept = moved_on x c.loop-number.sum rest (total_of numbers) before in
    record {
      sum = ap (λ s. s +ℤ rest) whole ∙ (ap (λ s. s +ℤ rest) added ∙ kept);
      low = omega (arith, ints, added, fits, whole);
      high = omega (arith, ints, added, fits, whole);
    }
