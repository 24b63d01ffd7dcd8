-- The first 64, or all of fewer.
use Rattle.std.proofs.Common.{ℤ, ◌≡◌, refl, ap, ◌∙◌, arith, map, nat_lt, length, get_or, pos, true, w64}
use Rattle.std.specs.Prelude.{◌==◌}
use Rattle.std.specs.Int.{bit_at}
use Rattle.std.specs.Simd.Lanes.{mask_l}
use Rattle.std.proofs.lemmas.Int.{to_z-of_z}
use Rattle.std.proofs.lemmas.Bool.Decides.{nat_tests}
use Rattle.qc_lane.specs.Lanes.{stands}
use Rattle.qc_lane.proofs.BitSteps.{bit_of_mask, tested}
use Rattle.qc_lane.proofs.compare.compared.Goals as goal

pub returns-then-values-lt-LANES : goal.returns-then-values-lt-LANES
returns-then-values-lt-LANES c i low =
    let p = λ (x : ℤ). stands c.args.op x c.args.bound in
    let given = c.compared_rest.ensures ∙ ap (λ b. mask_l (map (λ x. stands c.args.op x b) c.args.values.now)) (to_z-of_z w64 c.args.bound c.ranges.bound) in
    ap (λ n. bit_at n i == 1) given ∙ (bit_of_mask (map p c.args.values.now) i ∙ tested p c.args.values.now i (pos 0))

pub returns : goal.returns
returns c i low =
    let there : nat_lt i (length c.args.values.now) ≡ true = grind (arith, nat_tests) in
    let x = get_or c.args.values.now i (pos 0) in
    c.compared_lanes.ensures i low ∙ (ap (stands c.args.op x) (to_z-of_z w64 c.args.bound c.ranges.bound) ∙ rw there refl)
