use Rattle.std.proofs.Common.{◌^◌, ◌≡◌, ◌<◌, slice_index, sym, ap, subst, ◌∙◌, arith, List}
use Rattle.qc_chain.specs.Words.{words_of, word_at}
use Rattle.qc_turn.proofs.Tasks.{length_words, place_word}
use Rattle.qc_turn.specs.Blocks.{places}
use Rattle.qc_turn.specs.Tasks.{HasBlocks}
use Rattle.qc_tiles.specs.declared.blocks.Block.{Block}
use Rattle.qc_turn.proofs.seat.Seat.load_streamed.Goals as goal

pub word-word-requires : goal.word-word-requires
word-word-requires g c =
    let hand : c.args.self.now.ranges.blocks ≡ c.args.self.now.pass.me.0.blocks = subst (λ t. HasBlocks t c.args.self.now.pass.me.0.blocks c.args.self.now.ranges.blocks) c.requires.streaming.1 c.requires.seated.ranges in
    let inside = c.requires.inside in let long = length_words c.args.self.now.pass.me.0.blocks in
    subst (λ (l : List Block). c.args.index < words_of l) (sym hand) (omega (arith, inside, long))

pub load_place-requires-clause-inside : goal.load_place-requires-clause-inside
load_place-requires-clause-inside g c =
    let hand : c.args.self.now.ranges.blocks ≡ c.args.self.now.pass.me.0.blocks = subst (λ t. HasBlocks t c.args.self.now.pass.me.0.blocks c.args.self.now.ranges.blocks) c.requires.streaming.1 c.requires.seated.ranges in
    let word : c.word-word.result ≡ slice_index (places c.args.self.now.pass.me.0.blocks) c.args.index = (let low = c.args.self.now.within c.args.index c.requires.inside in let most = c.args.turn.now.small in let place = ap (λ t. t.words) c.requires.seated.table in let same = place_word c.args.self.now.pass.me.0.blocks c.args.index c.requires.inside in let sized = c.args.self.now.sized in let turn_sized = c.args.turn.now.sized.0 in
    let fits : word_at c.args.index c.args.self.now.ranges.blocks < 2 ^ 32 = subst (λ (l : List Block). word_at c.args.index l < 2 ^ 32) (sym hand) (omega (arith, low, most, place, same, sized, turn_sized)) in
    c.word-word.ensures fits ∙ (ap (λ l. word_at c.args.index l) hand ∙ sym same)) in
    let small = c.args.self.now.within c.args.index c.requires.inside in
    omega (arith, word, small)

pub returns-clause-word : goal.returns-clause-word
returns-clause-word g c =
    let hand : c.args.self.now.ranges.blocks ≡ c.args.self.now.pass.me.0.blocks = subst (λ t. HasBlocks t c.args.self.now.pass.me.0.blocks c.args.self.now.ranges.blocks) c.requires.streaming.1 c.requires.seated.ranges in
    let word : c.word-word.result ≡ slice_index (places c.args.self.now.pass.me.0.blocks) c.args.index = (let low = c.args.self.now.within c.args.index c.requires.inside in let most = c.args.turn.now.small in let place = ap (λ t. t.words) c.requires.seated.table in let same = place_word c.args.self.now.pass.me.0.blocks c.args.index c.requires.inside in let sized = c.args.self.now.sized in let turn_sized = c.args.turn.now.sized.0 in
    let fits : word_at c.args.index c.args.self.now.ranges.blocks < 2 ^ 32 = subst (λ (l : List Block). word_at c.args.index l < 2 ^ 32) (sym hand) (omega (arith, low, most, place, same, sized, turn_sized)) in
    c.word-word.ensures fits ∙ (ap (λ l. word_at c.args.index l) hand ∙ sym same)) in
    c.load_place.ensures.word c.args.index c.requires.inside (sym word)
