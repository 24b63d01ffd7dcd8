use Rattle.std.proofs.Common.{◌≡◌, ◌+◌, ◌-◌, ◌∙◌, sym, ap, arith, get_or}
use Rattle.qc_tiles.specs.declared.blocks.Block.{Block}
use Rattle.qc_chain.specs.Words.{word_at}
use Rattle.qc_chain.specs.Ends.{ends_from, start_at}
use Rattle.qc_chain.proofs.Words.{in_block, ends_rise, wraps_to}
use Rattle.qc_chain.proofs.ranges.Ranges.word.Goals as goal

pub count_up_to-at-requires : goal.count_up_to-at-requires
count_up_to-at-requires c = rw (c.as_slice.ensures.value, c.self.invariant.each) (ends_rise 0 c.self.inside.blocks.items)

pub index-requires : goal.index-requires
index-requires c =
    let within = rw (← c.self.view_is) at c.requires in
    let one = in_block c.self.inside.blocks.items c.as_slice.result.now c.args.index c.count_up_to-at.result (record { first = 0; words = 0 }) (c.as_slice.ensures.value ∙ c.self.invariant.each) within c.count_up_to-at.ensures.within c.count_up_to-at.ensures.before c.count_up_to-at.ensures.after in
    omega (arith, one.within)

pub overflow_sub-result : goal.overflow_sub-result
overflow_sub-result c =
    let within = rw (← c.self.view_is) at c.requires in
    let one = in_block c.self.inside.blocks.items c.as_slice.result.now c.args.index c.count_up_to-at.result (record { first = 0; words = 0 }) (c.as_slice.ensures.value ∙ c.self.invariant.each) within c.count_up_to-at.ensures.within c.count_up_to-at.ensures.before c.count_up_to-at.ensures.after in
    rw (c.start_at-start.ensures, c.as_slice-2.ensures.value, c.self.invariant.each) one.start

pub returns : goal.returns
returns c =
    let blocks = c.self.inside.blocks.items in
    let at = c.count_up_to-at.result in
    let within = rw (← c.self.view_is) at c.requires in
    let one = in_block blocks c.as_slice.result.now c.args.index at c.index.result.now (c.as_slice.ensures.value ∙ c.self.invariant.each) within c.count_up_to-at.ensures.within c.count_up_to-at.ensures.before c.count_up_to-at.ensures.after in
    let start : c.start_at-start.result ≡ start_at 0 (ends_from 0 blocks) at = c.start_at-start.ensures ∙ ap (λ ends. start_at 0 ends at) (c.as_slice-2.ensures.value ∙ c.self.invariant.each) in
    let none : c.args.index - 0 ≡ c.args.index = omega arith in
    let place : c.index.result.now.first + (c.args.index - c.start_at-start.result) ≡ word_at c.args.index blocks =
    ap (λ (b : Block). b.first + (c.args.index - c.start_at-start.result)) c.index.ensures ∙ (ap (λ n. (get_or blocks at c.index.result.now).first + (c.args.index - n)) start ∙ sym (rw none at one.place)) in
    rw (← c.self.view_is) (λ fits. wraps_to (c.index.result.now.first + (c.args.index - c.start_at-start.result)) (word_at c.args.index blocks) place fits)
