-- One more word has its bits.
use Rattle.std.proofs.Common.{◌<◌, arith, get_or, length, refl}
use Rattle.qc_table.proofs.BitMoves.{all_up, one_up}
use Rattle.qc_table.proofs.nulls.move_up.Goals as goal

pub loop-index-preserved : goal.loop-index-preserved
loop-index-preserved c =
    let words = c.loop-index.words in
    let low : c.loop-index.index < length words = omega arith in
    let word = c.with_bit.ensures in
    one_up c.args.at c.args.bit c.args.words.now words c.loop-index.index c.loop-index.place (get_or words c.loop-index.index 0) c.with_bit.result c.loop-index.bit c.has_last-bit.result c.loop-index.invariant low refl word.front word.here word.behind c.has_last-bit.ensures

pub returns-clause-here : goal.returns-clause-here
returns-clause-here c = (all_up c.args.at c.args.bit c.args.words.now c.loop-index.words c.loop-index.index c.loop-index.place c.loop-index.bit c.loop-index.invariant (omega arith) c.requires).0

pub returns-clause-behind : goal.returns-clause-behind
returns-clause-behind c = (all_up c.args.at c.args.bit c.args.words.now c.loop-index.words c.loop-index.index c.loop-index.place c.loop-index.bit c.loop-index.invariant (omega arith) c.requires).1
