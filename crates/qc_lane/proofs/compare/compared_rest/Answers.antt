-- One more value, in front of the others.
use Rattle.std.proofs.Common.{◌≡◌, ℤ, ◌+◌, ◌*◌, ◌-◌, ◌≤◌, ◌∙◌, ap, sym, arith, rules, cond, drop, map, length, length-drop, get_or, pos, w64, FitsSigned, subst, to_z, of_z, ◌<◌, ◌^◌}
use Rattle.std.specs.Simd.Lanes.{mask_l}
use Rattle.std.proofs.lemmas.Int.{to_z-of_z}
use Rattle.std.proofs.lemmas.List.{drop_more, length-map}
use Rattle.qc_lane.specs.Lanes.{stands}
use Rattle.qc_lane.proofs.BitSteps.{byte_of, byte_small, mask_small}
use Rattle.qc_lane.proofs.compare.compared_rest.Goals as goal

pub loop-i-preserved : goal.loop-i-preserved
loop-i-preserved c =
    let bound = to_z w64 (of_z w64 c.args.bound) in
    let p = λ (x : ℤ). stands c.args.op x bound in
    let values = c.args.values.now in
    let i = c.loop-i.i in
    let x = get_or values (i - 1) (pos 0) in
    let fits : FitsSigned w64 x = search rules in
    let stood = rw (to_z-of_z w64 x fits) at c.stands.ensures in
    let back : i - 1 + 1 ≡ i = omega arith in
    let front = ap (λ xs. mask_l (map p xs)) (drop_more values (i - 1) (pos 0) (omega arith)) ∙ ap (λ k. cond (p x) 1 0 + 2 * mask_l (map p (drop k values))) back in
    let turn : 2 * mask_l (map p (drop i values)) + cond (p x) 1 0 ≡ cond (p x) 1 0 + 2 * mask_l (map p (drop i values)) = omega arith in
    rw (c.from.ensures, stood, c.loop-i.invariant, byte_of (p x)) (turn ∙ sym front)

pub overflow_mul-word : goal.overflow_mul-word
overflow_mul-word c =
    let bound = to_z w64 (of_z w64 c.args.bound) in
    let p = λ (x : ℤ). stands c.args.op x bound in
    let rest = drop c.loop-i.i c.args.values.now in
    let few : length (map p rest) ≤ 62 = rw (length-map rest p, length-drop) (omega arith) in
    let small : c.loop-i.word < 2 ^ 62 = subst (λ n. n < 2 ^ 62) (sym c.loop-i.invariant) (mask_small (map p rest) few) in
    record { fits = omega (arith, small) }

pub overflow_add-word : goal.overflow_add-word
overflow_add-word c =
    let bound = to_z w64 (of_z w64 c.args.bound) in
    let p = λ (x : ℤ). stands c.args.op x bound in
    let rest = drop c.loop-i.i c.args.values.now in
    let few : length (map p rest) ≤ 62 = rw (length-map rest p, length-drop) (omega arith) in
    let small : c.loop-i.word < 2 ^ 62 = subst (λ n. n < 2 ^ 62) (sym c.loop-i.invariant) (mask_small (map p rest) few) in
    let one : c.from.result ≤ 1 = byte_small c.stands.result c.from.result c.from.ensures in
    record { fits = omega (arith, small, one) }
