use Rattle.std.proofs.Common.{◌+◌, ◌∙◌, sym, ap, arith}
use Rattle.qc_chain.specs.Words.{words_of, word_at}
use Rattle.qc_chain.specs.Views.{blocks_of}
use Rattle.qc_chain.proofs.Words.{word_here, word_later, wraps_to}
use Rattle.qc_chain.proofs.walks.place_of.Goals as goal

pub returns-then-left-block : goal.returns-then-left-block
returns-then-left-block c = λ fits.
    let l = c.loop-block in
    wraps_to (c.in-Some.block.first + l.left) (word_at c.args.word (blocks_of c.args.chain c.args.blocks.now.lists))
    (sym (word_here l.left c.in-Some.block c.next.new.self c.if-left-block.true) ∙ (ap (word_at l.left) (sym (c.in-Some.ensures {u = tt})) ∙ l.invariant.place)) fits

pub loop-block-preserved : goal.loop-block-preserved
loop-block-preserved c =
    let l = c.loop-block in
    record {
      within = omega (arith, ap words_of (c.in-Some.ensures {u = tt}), l.invariant.within, c.if-left-block.false);
      place = sym (word_later l.left c.in-Some.block c.next.new.self c.if-left-block.false) ∙ (ap (word_at l.left) (sym (c.in-Some.ensures {u = tt})) ∙ l.invariant.place);
    }

pub unreachable-requires : goal.unreachable-requires
unreachable-requires c = omega (arith, ap words_of (c.in_default.ensures {u = tt}).0, c.loop-block.invariant.within)
