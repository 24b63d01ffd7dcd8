-- One more value.
use Rattle.std.proofs.Common.{◌≡◌, ◌+ℤ◌, ◌∙◌, ◌+◌, ◌/◌, ◌%◌, ◌∷◌, [], ap, arith, drop, sym, rules, w64, to_z, of_z, FitsSigned, get_or, pos}
use Rattle.std.specs.Prelude.{◌==◌, if◌then◌else◌}
use Rattle.std.specs.Int.{bit_at, w128}
use Rattle.std.proofs.Math.IntN.{+ℤ_comm}
use Rattle.std.proofs.lemmas.Int.{ints, to_z-of_z}
use Rattle.qc_lane.specs.Lanes.{masked_from, total}
use Rattle.qc_lane.proofs.Words.{added_bit, halved, no_bits, no_more, nothing}
use Rattle.qc_lane.proofs.aggregates.word_sum.Goals as goal

pub returns-then-word-eq0-clause-sum : goal.returns-then-word-eq0-clause-sum
returns-then-word-eq0-clause-sum c =
    let none : c.args.word ≡ 0 = omega (arith, c.if-word-eq0.true) in
    let no = no_bits c.args.values.now in
    to_z-of_z w128 c.args.start c.ranges.start ∙ sym (nothing c.args.start) ∙ ap (λ l. c.args.start +ℤ total l) (sym no ∙ ap (λ w. masked_from 0 (w ∷ []) c.args.values.now) (sym none))

pub loop-value-preserved : goal.loop-value-preserved
loop-value-preserved c =
    let values = c.args.values.now in
    let w = c.args.word in
    let j = c.loop-value.value-index in
    let x = get_or values j (pos 0) in
    let i = c.loop-value.invariant in
    let rest = total (masked_from (j + 1) (w ∷ []) (drop (j + 1) values)) in
    let all = to_z w128 (of_z w128 c.args.start) +ℤ total (masked_from 0 (w ∷ []) values) in
    let fits : FitsSigned w64 x = search rules in
    let bit : c.loop-value.bits % 2 ≡ bit_at w j = ap (λ n. n % 2) i.bits in
    let kept : c.kept.result ≡ (if bit_at w j == 1 then x else pos 0) = rw (to_z-of_z w64 x fits, bit) at c.kept.ensures in
    let small : FitsSigned w64 c.kept.result = search rules in
    let added : c.added-sum.result ≡ c.kept.result +ℤ c.loop-value.sum = first_of (grind (arith, ints, to_z-of_z), search rules) in
    let whole : to_z w128 (of_z w128 c.added-sum.result) ≡ c.added-sum.result = to_z-of_z w128 c.added-sum.result (search rules) in
    let so_far : c.loop-value.sum ≡ to_z w128 c.loop-value.sum-bits = sym c.loop-value.sum-is in
    let before : c.loop-value.sum +ℤ total (masked_from j (w ∷ []) (drop j values)) ≡ all = ap (λ s. s +ℤ total (masked_from j (w ∷ []) (drop j values))) so_far ∙ i.sum in
    let after = added_bit w j values c.loop-value.sum all (omega arith) (omega arith) before in
    record {
      bits = ap (λ n. n / 2) i.bits ∙ halved w j;
      sum = ap (λ s. s +ℤ rest) (whole ∙ added ∙ +ℤ_comm c.kept.result c.loop-value.sum ∙ ap (λ k. c.loop-value.sum +ℤ k) kept) ∙ after;
      low = (let l = i.low in omega (arith, ints, added, small, whole, l));
      high = (let h = i.high in omega (arith, ints, added, small, whole, h));
    }

pub returns-clause-sum : goal.returns-clause-sum
returns-clause-sum c =
    let values = c.args.values.now in
    let w = c.args.word in
    let j = c.loop-value.value-index in
    let none : masked_from j (w ∷ []) (drop j values) ≡ [] = no_more (w ∷ []) values j (omega arith) in
    let whole : c.loop-value.sum +ℤ pos 0 ≡ to_z w128 (of_z w128 c.args.start) +ℤ total (masked_from 0 (w ∷ []) values) = ap (λ l. c.loop-value.sum +ℤ total l) (sym none) ∙ (ap (λ s. s +ℤ total (masked_from j (w ∷ []) (drop j values))) (sym c.loop-value.sum-is) ∙ c.loop-value.invariant.sum) in
    let first = ap (λ s. s +ℤ total (masked_from 0 (w ∷ []) values)) (to_z-of_z w128 c.args.start c.ranges.start) in
    cc (c.loop-value.sum-is, sym (nothing c.loop-value.sum) ∙ (whole ∙ first))
