-- The values of one more word.
use Rattle.std.proofs.Common.{◌≡◌, ◌∙◌, ◌+◌, ◌*◌, ◌∷◌, [], Some, ap, arith, drop, take, sym, rules, w64, to_z, of_z, get_or, pos}
use Rattle.std.proofs.lemmas.Int.{to_z-of_z}
use Rattle.qc_lane.specs.Lanes.{greatest, masked_from, or_greater}
use Rattle.qc_lane.proofs.BitSteps.{is_value, next_kept, none_kept}
use Rattle.qc_lane.proofs.Extremes.{max_again}
use Rattle.qc_lane.proofs.Words.{no_more, greater_word}
use Rattle.qc_lane.proofs.aggregates.max_masked.Goals as goal

pub returns-in_err-first : goal.returns-in_err-first
returns-in_err-first c =
    let none = rw c.of.ensures.from at c.in_err-first.ensures.none in
    c.from_residual.ensures ∙ ap greatest (sym (none_kept c.args.mask.now c.args.values.now 0 none))

pub loop-k-preserved : goal.loop-k-preserved
loop-k-preserved c =
    let values = c.args.values.now in
    let mask = c.args.mask.now in
    let k = c.loop-k.k in
    let m = to_z w64 c.loop-k.greatest-bits in
    let here = greatest (masked_from 0 (get_or mask k 0 ∷ []) (take 64 (drop (64 * k) values))) in
    let rest = greatest (masked_from (64 * (k + 1)) mask (drop (64 * (k + 1)) values)) in
    let all = or_greater (get_or values c.in_ok-first.first (pos 0)) (greatest (masked_from 0 mask values)) in
    let is : c.word_greatest-greatest.result ≡ or_greater m here = rw c.values_of.ensures.values at c.word_greatest-greatest.ensures in
    let whole : to_z w64 (of_z w64 c.word_greatest-greatest.result) ≡ c.word_greatest-greatest.result = to_z-of_z w64 c.word_greatest-greatest.result (search rules) in
    ap (λ y. or_greater y rest) (whole ∙ is) ∙ greater_word mask values k m all c.loop-k.invariant

pub returns : goal.returns
returns c =
    let values = c.args.values.now in
    let mask = c.args.mask.now in
    let k = c.loop-k.k in
    let i = c.in_ok-first.first in
    let x = get_or values i (pos 0) in
    let m = to_z w64 c.loop-k.greatest-bits in
    let (come, set, clear, from) = rw c.of.ensures.from at c.in_ok-first.ensures.some in
    let within = is_value mask values i c.requires.ends set in
    let rest = greatest (masked_from (i + 1) mask (drop (i + 1) values)) in
    let all : greatest (masked_from 0 mask values) ≡ Some (or_greater x rest) = ap greatest (next_kept mask values 0 i come within clear set) in
    let none : masked_from (64 * k) mask (drop (64 * k) values) ≡ [] = no_more mask values (64 * k) (omega arith) in
    let last : m ≡ or_greater x (greatest (masked_from 0 mask values)) = ap (λ l. or_greater m (greatest l)) (sym none) ∙ c.loop-k.invariant in
    ap (λ y. Some y) (last ∙ (ap (or_greater x) all ∙ max_again x rest)) ∙ sym all
