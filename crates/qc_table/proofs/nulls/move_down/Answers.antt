-- One more word has its bits.
use Rattle.std.proofs.Common.{◌<◌, arith, get_or, length, refl}
use Rattle.qc_table.proofs.BitMoves.{all_down, one_down}
use Rattle.qc_table.proofs.nulls.move_down.Goals as goal

pub loop-index-preserved : goal.loop-index-preserved
loop-index-preserved c =
    let words = c.loop-index.words in
    let low : c.loop-index.index < length words = omega arith in
    let word = c.without_bit.ensures in
    one_down c.args.at c.args.words.now words c.loop-index.index c.loop-index.place (get_or words c.loop-index.index 0) c.without_bit.result c.has_first-next.result c.loop-index.invariant low refl word.front word.behind word.last c.has_first-next.ensures

pub returns-clause-behind : goal.returns-clause-behind
returns-clause-behind c = all_down c.args.at c.args.words.now c.loop-index.words c.loop-index.index c.loop-index.place c.loop-index.invariant (omega arith)
