-- One more word.
use Rattle.std.proofs.Common.{◌≡◌, ℕ, ◌*◌, ◌-◌, ◌<◌, ◌≤◌, ◌∙◌, ℤ, List, ap, arith, drop, false, get_or, length, length-drop, nat_lt, not, pos, refl, subst, take, w64, to_z, of_z}
use Rattle.std.specs.Prelude.{◌==◌, ◌&&◌}
use Rattle.std.specs.Int.{bit_at}
use Rattle.std.proofs.lemmas.Bool.Decides.{nat_tests}
use Rattle.std.proofs.lemmas.Int.{to_z-of_z}
use Rattle.std.proofs.lemmas.List.{take_all}
use Rattle.qc_lane.specs.Lanes.{is_set, stands}
use Rattle.qc_lane.proofs.BitSteps.{all_words, one_word, word_set}
use Rattle.qc_lane.proofs.compare.compare_mask.Goals as goal

pub loop-k-preserved : goal.loop-k-preserved
loop-k-preserved c =
    let values = c.args.values.now in
    let nulls = c.args.nulls.now in
    let k = c.loop-k.k in
    let bound = to_z w64 (of_z w64 c.args.bound) in
    let rest = take (length values - k * 64) (drop (k * 64) values) in
    let all : length (drop (k * 64) values) ≤ length values - k * 64 = rw length-drop (omega arith) in
    let whole : rest ≡ drop (k * 64) values = take_all _ _ all in
    let bits = λ (i : ℕ). nat_lt i (length values) && (not (is_set nulls i) && stands c.args.op (get_or values i (pos 0)) bound) in
    let given = λ (j : ℕ) (low : j < 64).
    subst (λ (r : List ℤ). (bit_at c.compared.result j == 1) ≡ (nat_lt j (length r) && stands c.args.op (get_or r j (pos 0)) bound)) whole (c.compared.ensures j low) in
    word_set c.loop-k.out k c.without.result bits (omega arith) c.loop-k.invariant (λ j low. one_word values nulls (λ x. stands c.args.op x bound) k j c.compared.result c.without.result low (given j low) (c.without.ensures j low))

pub returns : goal.returns
returns c i =
    let values = c.args.values.now in
    let nulls = c.args.nulls.now in
    let bound = to_z w64 (of_z w64 c.args.bound) in
    let bits = λ (i : ℕ). nat_lt i (length values) && (not (is_set nulls i) && stands c.args.op (get_or values i (pos 0)) bound) in
    let behind = λ (j : ℕ) (far : 64 * length c.loop-k.out ≤ j).
    (let past : length values ≤ j = omega (arith, far) in
    let none : nat_lt j (length values) ≡ false = grind (arith, nat_tests) in
    let clear : bits j ≡ false = rw none refl in
    clear) in
    all_words c.loop-k.out c.loop-k.k bits (omega arith) c.loop-k.invariant behind i
    ∙ ap (λ b. nat_lt i (length values) && (not (is_set nulls i) && stands c.args.op (get_or values i (pos 0)) b)) (to_z-of_z w64 c.args.bound c.ranges.bound)
