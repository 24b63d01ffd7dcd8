use Rattle.std.proofs.Common.{◌<◌, ◌+◌, ◌^◌, length, arith}
use Rattle.qc_chain.specs.Words.{word_at}
use Rattle.qc_turn.specs.Blocks.{places}
use Rattle.qc_turn.proofs.Tasks.{length_words, place_word}
use Rattle.qc_turn.proofs.outside.next_run.Goals as goal

pub run-requires : goal.run-requires
run-requires c = let long = length_words c.args.ranges.now.blocks in let inside = c.requires.inside in omega (arith, long, inside)

pub returns-clause-within : goal.returns-clause-within
returns-clause-within c = let long = length_words c.args.ranges.now.blocks in let within = c.run.ensures.within in omega (arith, long, within)

pub returns-clause-places : goal.returns-clause-places
returns-clause-places c = λ k h.
    let blocks = c.args.ranges.now.blocks in
    let long = length_words blocks in
    let within = c.run.ensures.within in
    let inside : c.args.index + k < length (places blocks) = omega (arith, long, within, h) in
    let same = place_word blocks (c.args.index + k) inside in
    let small = c.requires.small (c.args.index + k) inside in
    let fits : word_at (c.args.index + k) blocks < 2 ^ 32 = omega (arith, same, small) in
    let place = c.run.ensures.places k h fits in
    omega (arith, same, place)
