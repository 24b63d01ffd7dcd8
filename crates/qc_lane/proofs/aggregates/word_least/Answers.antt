-- One more value.
use Rattle.std.proofs.Common.{◌≡◌, ◌∙◌, ◌+◌, ◌/◌, ◌%◌, ◌∷◌, [], ap, arith, drop, sym, rules, w64, to_z, of_z, FitsSigned, get_or, pos}
use Rattle.std.specs.Prelude.{◌==◌, if◌then◌else◌}
use Rattle.std.specs.Int.{bit_at, int_min}
use Rattle.std.proofs.lemmas.Bool.{eqb-true}
use Rattle.std.proofs.lemmas.Int.{to_z-of_z}
use Rattle.qc_lane.specs.Lanes.{is_set, least, masked_from, or_smaller}
use Rattle.qc_lane.proofs.Extremes.{not_less}
use Rattle.qc_lane.proofs.Words.{halved, none_smaller, smaller_bit, word_bit}
use Rattle.qc_lane.proofs.aggregates.word_least.Goals as goal

pub returns-then-none_stands : goal.returns-then-none_stands
returns-then-none_stands c =
    let values = c.args.values.now in
    let w = c.args.word in
    let few = c.requires.few in
    let none = rw (to_z-of_z w64 c.args.number c.ranges.number) at (c.none_stands.ensures c.if-none_stands.true) in
    to_z-of_z w64 c.args.number c.ranges.number ∙ sym (
    none_smaller (w ∷ []) 0 values c.args.number (λ i low set.
    let at : 0 + i ≡ i = omega arith in
    not_less c.args.number (get_or values i (pos 0)) (none i low (eqb-true (bit_at w i) 1 (sym (word_bit w i (omega (arith, low, few))) ∙ (ap (is_set (w ∷ [])) (sym at) ∙ set)))))
    )

pub loop-value-preserved : goal.loop-value-preserved
loop-value-preserved c =
    let values = c.args.values.now in
    let w = c.args.word in
    let j = c.loop-value.value-index in
    let x = get_or values j (pos 0) in
    let i = c.loop-value.invariant in
    let rest = least (masked_from (j + 1) (w ∷ []) (drop (j + 1) values)) in
    let m = to_z w64 c.loop-value.least-bits in
    let all = or_smaller (to_z w64 (of_z w64 c.args.number)) (least (masked_from 0 (w ∷ []) values)) in
    let fits : FitsSigned w64 x = search rules in
    let bit : c.loop-value.bits % 2 ≡ bit_at w j = ap (λ n. n % 2) i.bits in
    let is : c.smaller-least.result ≡ (if bit_at w j == 1 then int_min m x else m) = rw (to_z-of_z w64 x fits, bit) at c.smaller-least.ensures in
    let whole : to_z w64 (of_z w64 c.smaller-least.result) ≡ c.smaller-least.result = to_z-of_z w64 c.smaller-least.result (search rules) in
    let after = smaller_bit w j values m all (omega arith) (omega arith) i.least in
    record {
      bits = ap (λ n. n / 2) i.bits ∙ halved w j;
      least = ap (λ y. or_smaller y rest) (whole ∙ is) ∙ after;
    }
