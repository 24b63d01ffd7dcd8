-- One more word.
use Rattle.std.proofs.Common.{ℕ, ◌∙◌, ap, arith, not, sym}
use Rattle.std.specs.Prelude.{◌&&◌}
use Rattle.qc_lane.specs.Lanes.{is_set}
use Rattle.qc_lane.proofs.BitSteps.{all_words, word_set}
use Rattle.qc_eval.proofs.LaneSteps.{past_words, word_bit}
use Rattle.qc_eval.proofs.masks.without_nulls.Goals as goal

pub loop-k-preserved : goal.loop-k-preserved
loop-k-preserved c =
    let mask = c.args.mask.now in
    let nulls = c.args.nulls.now in
    let k = c.loop-k.k in
    let bits = λ (i : ℕ). is_set mask i && not (is_set nulls i) in
    word_set c.loop-k.out k c.without.result bits (omega arith) c.loop-k.invariant
    (λ j low. c.without.ensures j low ∙ (λ i. sym (word_bit mask k j low) i && not (sym (word_bit nulls k j low) i)))

pub returns : goal.returns
returns c i =
    let mask = c.args.mask.now in
    let nulls = c.args.nulls.now in
    let bits = λ (i : ℕ). is_set mask i && not (is_set nulls i) in
    let m = c.requires.mask in
    all_words c.loop-k.out c.loop-k.k bits (omega arith) c.loop-k.invariant
    (λ j far. ap (λ b. b && not (is_set nulls j)) (past_words mask j (omega (arith, far, m)))) i
