use Rattle.std.proofs.Common.{refl, subst, arith}
use Rattle.std.proofs.lemmas.List.{take_all}
use Rattle.qc_eval.specs.Lanes.{Leaves, window_rows}
use Rattle.qc_eval.specs.Walk.{passes}
use Rattle.qc_eval.proofs.LaneSteps.{leaves_first, leaves_more, window_many}
use Rattle.qc_eval.proofs.masks.narrow_each.Goals as goal

pub loop-test-init : goal.loop-test-init
loop-test-init g c =
    let many = window_many c.args.table.now c.args.window c.requires.window in
    leaves_first (window_rows c.args.table.now c.args.window) c.args.mask.now (λ i past. c.requires.ends i (omega (arith, past, many)))

pub loop-test-preserved : goal.loop-test-preserved
loop-test-preserved g c =
    leaves_more (window_rows c.args.table.now c.args.window) c.args.tests.now c.loop-test.test-index c.test-item.result c.args.mask.now c.loop-test.mask c.narrow.new.mask c.loop-test-test.true c.test-item.is
    c.loop-test.invariant (c.if-not-narrow.ensures refl)

pub returns : goal.returns
returns g c holds =
    subst (λ us. Leaves (window_rows c.args.table.now c.args.window) (λ x. passes x us) c.args.mask.now c.loop-test.mask) (take_all c.loop-test.test-index c.args.tests.now c.loop-test-test.false) c.loop-test.invariant
