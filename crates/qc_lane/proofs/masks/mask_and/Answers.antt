-- Each word has the bits of both.
use Rattle.std.proofs.Common.{◌≡◌, ◌≤◌, ◌∙◌, sym, ap, get_or, bit_and, nat_lt, true, false, refl, arith}
use Rattle.std.proofs.lemmas.Bool.Decides.{nat_tests}
use Rattle.std.proofs.lemmas.List.{get_or_past}
use Rattle.qc_lane.proofs.BitSteps.{in_both}
use Rattle.qc_lane.proofs.masks.mask_and.Goals as goal

pub returns : goal.returns
returns c =
    let ws = c.args.other.now in
    let vs = c.args.out.now in
    let us = c.loop-k.out in
    in_both ws vs us (λ j.
    elim (nat_lt j c.loop-k.k) as (λ b. nat_lt j c.loop-k.k ≡ b → get_or us j 0 ≡ bit_and (get_or vs j 0) (get_or ws j 0)) [
      | true ↦ λ p. c.loop-k.invariant.done j (grind (arith, nat_tests))
      | false ↦ λ p.
          let from : c.loop-k.k ≤ j = grind (arith, nat_tests) in
          let past : get_or vs j 0 ≡ 0 = get_or_past vs j 0 (omega arith) in
          c.loop-k.invariant.left j from ∙ (past ∙ sym (ap (λ n. bit_and n (get_or ws j 0)) past))
    ] refl)
