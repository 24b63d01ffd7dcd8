use Rattle.std.proofs.Common.{◌≡◌, ◌++◌, take, drop, length, refl, sym, subst, ap, ◌∙◌, arith}
use Rattle.qc_lane.specs.Lanes.{is_set}
use Rattle.qc_eval.specs.Lanes.{IsMask, Leaves, window_rows}
use Rattle.qc_eval.specs.Walk.{passes}
use Rattle.qc_eval.proofs.LaneSteps.{isnt_below, mask_left, window_many, written_back}
use Rattle.qc_eval.proofs.masks.mask_of.Goals as goal

pub narrow_each-requires-clause-mask : goal.narrow_each-requires-clause-mask
narrow_each-requires-clause-mask g c = ap length c.deref_mut.ensures.value ∙ c.in_ok-mask.ensures.long

pub narrow_each-requires-clause-ends : goal.narrow_each-requires-clause-ends
narrow_each-requires-clause-ends g c i past = ap (λ xs. is_set xs i) c.deref_mut.ensures.value ∙ c.in_ok-mask.ensures.bits i ∙ isnt_below i c.args.window.count past

pub returns-then-narrow_each : goal.returns-then-narrow_each
returns-then-narrow_each g c =
    let rows = window_rows c.args.table.now c.args.window in
    let all = c.in_ok-mask.mask.items in
    let left = c.narrow_each.new.mask in
    let kept : length left ≡ length c.deref_mut.result.now = omega arith in
    let whole : length c.deref_mut.result.now ≡ length all = ap length c.deref_mut.ensures.value in
    let many : length all ≡ c.in_ok-mask.mask.len = (let len = c.deref_mut.ensures.len in omega (arith, len, whole)) in
    let same : take c.in_ok-mask.mask.len (left ++ drop (length left) all) ≡ left = written_back c.in_ok-mask.mask.len left all (kept ∙ whole) many in
    subst (IsMask rows (λ x. passes x c.args.tests.now)) (sym same)
    (mask_left rows (λ x. passes x c.args.tests.now) c.args.window.count all left (window_many c.args.table.now c.args.window c.requires.window) (kept ∙ whole ∙ c.in_ok-mask.ensures.long) c.in_ok-mask.ensures.bits
    (subst (λ full. Leaves rows (λ x. passes x c.args.tests.now) full left) c.deref_mut.ensures.value (c.if-narrow_each.ensures refl)))
