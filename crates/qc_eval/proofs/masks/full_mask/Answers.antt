use Rattle.std.proofs.Common.{◌≡◌, ℕ, ◌/◌, ◌∙◌, ap, arith, replicate, set, Global, Vec}
use Rattle.qc_lane.specs.Lanes.{is_set}
use Rattle.qc_eval.proofs.LaneSteps.{full_part, full_whole}
use Rattle.qc_eval.proofs.masks.full_mask.Goals as goal
use Rattle.qc_eval.proofs.masks.full_mask.Goals.{then-rest-gt0, else-rest-gt0}

pub returns-clause-bits : goal.returns-clause-bits
returns-clause-bits c =
    let full : c.in_ok-mask.mask.items ≡ replicate c.div_ceil.result 18446744073709551615 = c.in_ok-mask.ensures.items_if_clones_equal (λ y e. e) in
    let many = c.div_ceil.ensures in
    elim c.if-rest-gt0.branch [
      | then-rest-gt0 w ↦ λ i.
          ap (λ (v : Vec ℕ Global). is_set v.items i) w.mask-is ∙ ap (λ xs. is_set (set xs (c.args.count / 64) w.low_bits.result) i) full
          ∙ full_part c.args.count c.div_ceil.result w.low_bits.result (let some = w.if-rest-gt0.true in omega (arith, many, some)) w.low_bits.ensures i
      | else-rest-gt0 w ↦ λ i.
          ap (λ (v : Vec ℕ Global). is_set v.items i) w.mask-is ∙ ap (λ xs. is_set xs i) full
          ∙ full_whole c.args.count c.div_ceil.result (let none = w.if-rest-gt0.false in omega (arith, many, none)) (let none = w.if-rest-gt0.false in omega (arith, none)) i
    ]
