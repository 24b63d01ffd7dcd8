-- One more end is changed.
use Rattle.std.proofs.Common.{◌+◌, ◌-◌, ◌<◌, ◌≤◌, arith, get_or, length, refl}
use Rattle.qc_table.proofs.TextMoves.{next_is, partly_begun, partly_done, partly_more}
use Rattle.qc_table.proofs.texts.raise.Goals as goal

pub loop-index-init : goal.loop-index-init
loop-index-init c = partly_begun (λ end. end + c.args.more) c.args.from c.args.from c.args.ends.now refl

pub overflow_add-ends : goal.overflow_add-ends
overflow_add-ends c =
    let i = c.loop-index.index in
    let low : c.args.from ≤ i = omega arith in
    let high : i < length c.args.ends.now = omega arith in
    rw (next_is (λ end. end + c.args.more) c.args.from i c.args.ends.now c.loop-index.ends low c.loop-index.invariant) (record { fits = c.requires.fits i low high })

pub loop-index-preserved : goal.loop-index-preserved
loop-index-preserved c =
    let i = c.loop-index.index in
    let low : c.args.from ≤ i = omega arith in
    let high : i < length c.args.ends.now = omega arith in
    partly_more (λ end. end + c.args.more) c.args.from i (get_or c.loop-index.ends i 0) c.args.ends.now c.loop-index.ends low high c.loop-index.invariant refl

pub returns-clause-ends : goal.returns-clause-ends
returns-clause-ends c =
    let i = c.loop-index.index in
    let low : c.args.from ≤ i = omega arith in
    let all : length c.args.ends.now ≤ i = omega arith in
    partly_done (λ end. end + c.args.more) c.args.from i c.args.ends.now c.loop-index.ends low all c.loop-index.invariant
