use Rattle.std.proofs.Common.{◌≡◌, ◌+◌, ◌<◌, length, arith, ◌∙◌}
use Rattle.qc_model.specs.Licence.{words_of_bytes}
use Rattle.qc_chain.proofs.Calls.{words_are}
use Rattle.qc_core.proofs.Storing.{storing_start, storing_free, storing_on, stored_all}
use Rattle.qc_core.proofs.key_text.store_text.Goals as goal

pub loop-index-init : goal.loop-index-init
loop-index-init c = storing_start c.args.held.now c.args.block c.args.key.now c.requires.held

pub store-requires-clause-free : goal.store-requires-clause-free
store-requires-clause-free c =
    let key = c.args.key.now in
    let count : c.div_ceil-count.result ≡ words_of_bytes (length key) = c.div_ceil-count.ensures ∙ words_are (length key) in
    let inside : c.loop-index.index < c.div_ceil-count.result = c.loop-index-test.true in
    storing_free c.args.held.now c.loop-index.held c.args.block (length key) (c.args.block.first + c.loop-index.index) c.loop-index.invariant.same c.requires (omega arith) (omega (arith, inside, count, c.requires.few))

pub loop-index-preserved : goal.loop-index-preserved
loop-index-preserved c =
    let key = c.args.key.now in
    let count : c.div_ceil-count.result ≡ words_of_bytes (length key) = c.div_ceil-count.ensures ∙ words_are (length key) in
    let inside : c.loop-index.index < c.div_ceil-count.result = c.loop-index-test.true in
    let s = c.store.ensures in
    storing_on c.args.held.now c.loop-index.held c.store.new.self c.args.block key c.loop-index.index c.min-to.result c.word_of.result c.requires (omega (arith, inside, count)) c.loop-index.invariant s.held.0 s.held.1 s.same.0 s.same.1 c.min-to.ensures c.word_of.ensures s.words

pub returns : goal.returns
returns c =
    let key = c.args.key.now in
    let count : c.div_ceil-count.result ≡ words_of_bytes (length key) = c.div_ceil-count.ensures ∙ words_are (length key) in
    let stop = c.loop-index-test.false in
    let end = c.loop-index.auto.index-end in
    stored_all c.args.held.now c.loop-index.held c.args.block key c.loop-index.index c.requires (omega (arith, stop, end, count)) c.loop-index.invariant
