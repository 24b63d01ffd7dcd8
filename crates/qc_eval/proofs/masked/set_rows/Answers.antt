-- One row more.
use Rattle.std.proofs.Common.{◌≡◌, ◌+◌, ◌*◌, ◌∙◌, ap, arith, sym}
use Rattle.qc_eval.specs.Entries.{kept_indexes}
use Rattle.qc_eval.proofs.Marked.{last_marked, marked_within, next_marked}
use Rattle.qc_eval.proofs.masked.set_rows.Goals as goal

pub loop-i-init : goal.loop-i-init
loop-i-init c =
    let at : 64 * c.args.window.word + 0 ≡ 64 * c.args.window.word = omega arith in
    record {
      ahead = c.of-bits.ensures.ahead;
      within = (let from = c.of-bits.ensures.from in omega (arith, from));
      rows = λ keep t within m none. c.new-rows.ensures ∙ sym none ∙ ap (kept_indexes keep t.rows) (sym at) ∙ ap (λ n. kept_indexes keep t.rows (64 * c.args.window.word + n)) (sym c.of-bits.ensures.from);
    }

pub loop-i-preserved : goal.loop-i-preserved
loop-i-preserved c =
    let mask = c.args.mask.now in
    let w = c.args.window in
    let i = c.in-Some.i in
    let (come, set, clear, from) = c.in-Some.ensures.some in
    let low = marked_within mask i w.count c.requires.ends set in
    record {
      ahead = c.in-Some.ensures.ahead;
      within = omega (arith, from, low);
      rows = λ keep t within m none.
          next_marked t w keep mask c.loop-i.bits.from i c.loop-i.rows _ within m come low clear set (c.loop-i.invariant.rows keep t within m none) c.in_ok-push.ensures.ok
          ∙ ap (λ n. kept_indexes keep t.rows (64 * w.word + n)) (sym from);
    }

pub returns : goal.returns
returns c keep t within m none = last_marked t c.args.window keep c.args.mask.now c.loop-i.bits.from c.loop-i.rows within m c.loop-i.invariant.within c.in_default.ensures.none (c.loop-i.invariant.rows keep t within m none)
