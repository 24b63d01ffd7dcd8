-- One more word.
use Rattle.std.proofs.Common.{◌≡◌, ◌+◌, ◌<◌, ◌≤◌, ◌^◌, ◌∙◌, true, false, nat_lt, ap, arith, count_ones, get_or, length, refl, subst, sym}
use Rattle.std.specs.List.{sum_by}
use Rattle.std.proofs.lemmas.Bool.{ltb-true, ltb-false}
use Rattle.std.proofs.lemmas.Nat.{ones-le}
use Rattle.std.proofs.lemmas.List.{take_all}
use Rattle.std.proofs.lemmas.List.Sums.{sum_by_more}
use Rattle.qc_lane.proofs.Counts.{ones_masked}
use Rattle.qc_lane.proofs.masks.mask_count.Goals as goal

pub loop-word-preserved : goal.loop-word-preserved
loop-word-preserved c =
    let mask = c.args.mask.now in
    let i = c.loop-word.word-index in
    let few = ones-le 64 (get_or mask i 0) (c.type_inv.mask i).fits in
    record {
      count = ap (λ n. n + count_ones (get_or mask i 0)) c.loop-word.invariant.count ∙ sym (sum_by_more count_ones mask i 0 (omega arith));
      small = omega (arith, few);
      words = λ k low.
          elim (nat_lt k i) as (λ b. nat_lt k i ≡ b → get_or mask k 0 < 2 ^ 64) [
            | true ↦ λ p. c.loop-word.invariant.words k (ltb-true k i p)
            | false ↦ λ p.
                let at : i ≡ k = (let far = ltb-false k i p in omega (arith, low, far)) in
                subst (λ n. get_or mask n 0 < 2 ^ 64) at (c.type_inv.mask i).fits
          ] refl;
    }

pub returns-clause-values : goal.returns-clause-values
returns-clause-values c xs words ends =
    let mask = c.args.mask.now in
    let i = c.loop-word.word-index in
    let all : length mask ≤ i = omega arith in
    c.loop-word.invariant.count ∙ ap (sum_by count_ones) (take_all i mask all)
    ∙ ones_masked mask xs (λ k low. c.loop-word.invariant.words k (omega (arith, low, all))) words ends
