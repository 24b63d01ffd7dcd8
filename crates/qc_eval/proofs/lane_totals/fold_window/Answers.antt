use Rattle.std.proofs.Common.{sym, subst, arith}
use Rattle.qc_eval.specs.Lanes.{IsMask, window_rows}
use Rattle.qc_eval.specs.Walk.{passes}
use Rattle.qc_eval.proofs.LaneFolds.{window_masks}
use Rattle.qc_eval.proofs.lane_totals.fold_window.Goals as goal

pub fold_each-requires-clause-masks : goal.fold_each-requires-clause-masks
fold_each-requires-clause-masks g c =
    let t = c.args.table.now in
    let w = c.args.window in
    let count = c.count-count.ensures.value in
    let within = c.count-count.ensures.within in
    let len = c.deref_mut-in-Some.ensures.len in
    let made = c.in_ok-other.ensures.len in
    let words = c.div_ceil.ensures in
    window_masks t w (λ x. passes x c.args.tests.now) c.deref.result.now c.deref_mut-in-Some.result.now c.requires.window (omega (arith, count, within))
    (subst (IsMask (window_rows t w) (λ x. passes x c.args.tests.now)) (sym c.deref.ensures.value) (rw c.in-Some.is at c.in_ok-found.ensures))
    (omega (arith, len, made, words))

pub returns-in-Some : goal.returns-in-Some
returns-in-Some g c =
    c.fold_each.ensures (λ x. passes x c.args.tests.now)
    (subst (IsMask (window_rows c.args.table.now c.args.window) (λ x. passes x c.args.tests.now)) (sym c.deref.ensures.value) (rw c.in-Some.is at c.in_ok-found.ensures))
