use Rattle.std.proofs.Common.{sym, subst, arith}
use Rattle.qc_lane.specs.Lanes.{EndsAt}
use Rattle.qc_eval.specs.Lanes.{IsMask, window_rows}
use Rattle.qc_eval.specs.Walk.{passes}
use Rattle.qc_eval.proofs.LaneSteps.{mask_ends, window_many}
use Rattle.qc_eval.proofs.masked.few_in_window.Goals as goal

pub few_set-requires-clause-few : goal.few_set-requires-clause-few
few_set-requires-clause-few g c =
    let count = c.count-count.ensures.value in
    let within = c.count-count.ensures.within in
    let w = c.requires.window in
    omega (arith, count, within, w)

pub few_set-requires-clause-words : goal.few_set-requires-clause-words
few_set-requires-clause-words g c =
    let t = c.args.table.now in
    let w = c.args.window in
    let m = subst (IsMask (window_rows t w) (λ x. passes x c.args.tests.now)) (sym c.deref.ensures.value) (rw c.in-Some.is at c.in_ok-found.ensures) in
    let words = m.words in
    let many = window_many t w c.requires.window in
    let count = c.count-count.ensures.value in
    let within = c.count-count.ensures.within in
    let inside = c.requires.window in
    omega (arith, words, many, count, within, inside)

pub few_set-requires-clause-ends : goal.few_set-requires-clause-ends
few_set-requires-clause-ends g c =
    let t = c.args.table.now in
    let w = c.args.window in
    let m = subst (IsMask (window_rows t w) (λ x. passes x c.args.tests.now)) (sym c.deref.ensures.value) (rw c.in-Some.is at c.in_ok-found.ensures) in
    subst (EndsAt c.deref.result.now) (window_many t w c.requires.window) (mask_ends (window_rows t w) (λ x. passes x c.args.tests.now) c.deref.result.now m)

pub returns-in-Some : goal.returns-in-Some
returns-in-Some g c none =
    c.few_set.ensures (λ x. passes x c.args.tests.now) c.args.table.now c.requires.window
    (subst (IsMask (window_rows c.args.table.now c.args.window) (λ x. passes x c.args.tests.now)) (sym c.deref.ensures.value) (rw c.in-Some.is at c.in_ok-found.ensures)) none
