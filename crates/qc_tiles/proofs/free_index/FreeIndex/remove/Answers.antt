use Rattle.std.proofs.Common.{◌+◌, ◌∙◌, length, ap, sym, subst, arith}
use Rattle.qc_tiles.specs.Sizes.{IsBySize, Indexed, block_words}
use Rattle.qc_tiles.proofs.Pieces.{gone, gone_edits, one_more, words_more, same_index}
use Rattle.qc_tiles.proofs.free_index.FreeIndex.remove.Goals as goal

pub keep_long-requires-clause-edited : goal.keep_long-requires-clause-edited
keep_long-requires-clause-edited c =
    let l = (rw c.deref.ensures.value at c.place-at.ensures) c.self.invariant.sorted c.self.invariant.filled in
    gone_edits l _ _ c.self.invariant.filled c.index_mut.ensures.value c.remove_from.ensures

pub keep_long-requires-clause-fits : goal.keep_long-requires-clause-fits
keep_long-requires-clause-fits c =
    let l = (rw c.deref.ensures.value at c.place-at.ensures) c.self.invariant.sorted c.self.invariant.filled in
    let from = ap (λ (i : Indexed). i.blocks) c.self.view_is ∙ c.requires.1 in
    omega (arith, ap length (gone l _ _ c.requires.0 c.index_mut.ensures.value c.remove_from.ensures from c.requires.2), one_more c.args.block _ _ from, c.self.invariant.fits)

pub overflow_sub-self : goal.overflow_sub-self
overflow_sub-self c = omega (arith, one_more c.args.block _ _ (ap (λ (i : Indexed). i.blocks) c.self.view_is ∙ c.requires.1), c.self.invariant.counted)

pub overflow_sub-self-2 : goal.overflow_sub-self-2
overflow_sub-self-2 c = omega (arith, words_more c.args.block _ _ (ap (λ (i : Indexed). i.blocks) c.self.view_is ∙ c.requires.1), c.self.invariant.summed)

pub invariant_of-self : goal.invariant_of-self
invariant_of-self c =
    let i = c.self.invariant in
    let l = (rw c.deref.ensures.value at c.place-at.ensures) i.sorted i.filled in
    let from = ap (λ (x : Indexed). x.blocks) c.self.view_is ∙ c.requires.1 in
    let made = c.keep_long.ensures.blocks ∙ gone l _ _ c.requires.0 c.index_mut.ensures.value c.remove_from.ensures from c.requires.2 in
    let shorter = one_more c.args.block _ _ from in
    record {
      some = c.keep_long.ensures.some;
      filled = c.keep_long.ensures.filled;
      sorted = subst (λ xs. IsBySize xs) (sym made) c.requires.2;
      fits = omega (arith, ap length made, shorter, i.fits, c.keep_long.ensures.pieces);
      places = omega (arith, i.places, c.keep_long.ensures.pieces, c.keep_long.ensures.places);
      spare_places = omega (arith, i.spare_places, c.keep_long.ensures.pieces, c.keep_long.ensures.spare_places);
      counted = omega (arith, ap length made, shorter, i.counted);
      summed = omega (arith, ap block_words made, words_more c.args.block _ _ from, i.summed);
      few = omega (arith, ap length made, shorter, i.few);
    }

pub returns : goal.returns
returns c = λ others same sorted.
    let l = (rw c.deref.ensures.value at c.place-at.ensures) c.self.invariant.sorted c.self.invariant.filled in
    let from = ap (λ (i : Indexed). i.blocks) c.self.view_is ∙ same in
    same_index _ _ _ _ (c.keep_long.ensures.blocks ∙ gone l _ _ others c.index_mut.ensures.value c.remove_from.ensures from sorted) (ap (λ (i : Indexed). i.room + 1) c.self.view_is)
