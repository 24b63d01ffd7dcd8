-- The values of one more word.
use Rattle.std.proofs.Common.{◌≡◌, ◌+ℤ◌, ◌∙◌, ◌+◌, ◌*◌, ◌∷◌, [], ap, arith, drop, take, sym, rules, to_z, of_z, get_or, pos}
use Rattle.std.specs.Int.{w128}
use Rattle.std.proofs.lemmas.Int.{ints, to_z-of_z}
use Rattle.qc_lane.specs.Lanes.{masked_from, total}
use Rattle.qc_lane.proofs.Words.{added_word, no_more, nothing}
use Rattle.qc_lane.proofs.aggregates.sum_masked.Goals as goal

pub loop-k-preserved : goal.loop-k-preserved
loop-k-preserved c =
    let values = c.args.values.now in
    let mask = c.args.mask.now in
    let k = c.loop-k.k in
    let i = c.loop-k.invariant in
    let here = total (masked_from 0 (get_or mask k 0 ∷ []) (take 64 (drop (64 * k) values))) in
    let rest = total (masked_from (64 * (k + 1)) mask (drop (64 * (k + 1)) values)) in
    let all = total (masked_from 0 mask values) in
    let m = to_z w128 c.loop-k.sum-bits in
    let added : c.word_sum-sum.result ≡ m +ℤ here = rw c.values_of.ensures.values at c.word_sum-sum.ensures.sum in
    let whole : to_z w128 (of_z w128 c.word_sum-sum.result) ≡ c.word_sum-sum.result = to_z-of_z w128 c.word_sum-sum.result (search rules) in
    record {
      sum = ap (λ s. s +ℤ rest) (whole ∙ added) ∙ added_word mask values k m all i.sum;
      low = (let l = i.low in let n = c.word_sum-sum.ensures.low in omega (arith, ints, whole, l, n));
      high = (let h = i.high in let n = c.word_sum-sum.ensures.high in omega (arith, ints, whole, h, n));
    }

pub returns : goal.returns
returns c =
    let values = c.args.values.now in
    let mask = c.args.mask.now in
    let k = c.loop-k.k in
    let none : masked_from (64 * k) mask (drop (64 * k) values) ≡ [] = no_more mask values (64 * k) (omega arith) in
    let whole : c.loop-k.sum +ℤ pos 0 ≡ total (masked_from 0 mask values) = ap (λ l. c.loop-k.sum +ℤ total l) (sym none) ∙ (ap (λ s. s +ℤ total (masked_from (64 * k) mask (drop (64 * k) values))) (sym c.loop-k.sum-is) ∙ c.loop-k.invariant.sum) in
    cc (c.loop-k.sum-is, sym (nothing c.loop-k.sum) ∙ whole)
