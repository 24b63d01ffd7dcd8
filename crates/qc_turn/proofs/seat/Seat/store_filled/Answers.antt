use Rattle.std.proofs.Common.{◌^◌, ◌≡◌, ◌<◌, ◌+◌, ◌*◌, min, sym, ap, subst, ◌∙◌, arith, List}
use Rattle.qc_chain.specs.Words.{words_of, word_at}
use Rattle.qc_turn.proofs.Tasks.{length_words, place_word}
use Rattle.qc_turn.specs.Bytes.{filled}
use Rattle.qc_turn.specs.Releases.{MayFill}
use Rattle.qc_turn.specs.Seats.{view}
use Rattle.qc_turn.specs.Views.{with_content}
use Rattle.qc_turn.specs.Tasks.{HasBlocks}
use Rattle.qc_tiles.specs.declared.blocks.Block.{Block}
use Rattle.qc_turn.proofs.seat.Seat.store_filled.Goals as goal

pub word-word-requires : goal.word-word-requires
word-word-requires g c =
    let m = c.requires.filling in
    let hand : c.args.self.now.ranges.blocks ≡ c.args.self.now.pass.me.0.blocks = subst (λ t. HasBlocks t c.args.self.now.pass.me.0.blocks c.args.self.now.ranges.blocks) m.task c.requires.seated.ranges in
    let inside = m.inside in let long = length_words c.args.self.now.pass.me.0.blocks in
    subst (λ (l : List Block). c.args.index < words_of l) (sym hand) (omega (arith, inside, long))

pub store_place-requires-clause-place : goal.store_place-requires-clause-place
store_place-requires-clause-place g c =
    let m = c.requires.filling in
    let hand : c.args.self.now.ranges.blocks ≡ c.args.self.now.pass.me.0.blocks = subst (λ t. HasBlocks t c.args.self.now.pass.me.0.blocks c.args.self.now.ranges.blocks) m.task c.requires.seated.ranges in
    let low = c.args.self.now.within c.args.index m.inside in let most = c.args.turn.now.small in let place = ap (λ t. t.words) c.requires.seated.table in let same = place_word c.args.self.now.pass.me.0.blocks c.args.index m.inside in let sized = c.args.self.now.sized in let turn_sized = c.args.turn.now.sized.0 in
    let fits : word_at c.args.index c.args.self.now.ranges.blocks < 2 ^ 32 = subst (λ (l : List Block). word_at c.args.index l < 2 ^ 32) (sym hand) (omega (arith, low, most, place, same, sized, turn_sized)) in
    sym (c.word-word.ensures fits ∙ (ap (λ l. word_at c.args.index l) hand ∙ sym same))

pub store_place-requires-clause-filling : goal.store_place-requires-clause-filling
store_place-requires-clause-filling g c =
    let high = c.requires.filling.high in
    let least : min (8 * c.args.index + 8) c.args.bytes ≡ c.args.bytes = omega (arith, high) in
    subst (λ n. MayFill g.V.Kept (view c.args.self.now) c.args.index c.args.value n) (sym least) c.requires.filling

pub returns-clause-view : goal.returns-clause-view
returns-clause-view g c =
    let high = c.requires.filling.high in
    let least : min (8 * c.args.index + 8) c.args.bytes ≡ c.args.bytes = omega (arith, high) in
    c.store_place.ensures.view ∙ ap (λ n. with_content (view c.args.self.now) (filled (view c.args.self.now).content c.args.index c.args.value n)) least
