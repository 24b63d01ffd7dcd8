use Rattle.std.proofs.Common.{◌-◌, ◌∙◌, length, ap, sym, subst, arith}
use Rattle.qc_tiles.specs.Sizes.{IsBySize, Indexed, insert_block}
use Rattle.qc_tiles.specs.Pieces.{gathered}
use Rattle.qc_tiles.proofs.Sorting.{insert-sorted}
use Rattle.qc_tiles.proofs.Pieces.{piece_at, short, put, put_edits, one_more, words_more, same_index}
use Rattle.qc_tiles.proofs.free_index.FreeIndex.insert.Goals as goal

pub insert-requires : goal.insert-requires
insert-requires c =
    let l = (rw c.deref.ensures.value at c.place-at.ensures) c.self.invariant.sorted c.self.invariant.filled in
    omega (arith, ap length (piece_at l _ c.index_mut.ensures.value), short l c.self.invariant.filled)

pub keep_short-requires-clause-edited : goal.keep_short-requires-clause-edited
keep_short-requires-clause-edited c =
    let l = (rw c.deref.ensures.value at c.place-at.ensures) c.self.invariant.sorted c.self.invariant.filled in
    put_edits l _ _ c.self.invariant.filled c.index_mut.ensures.value c.insert.ensures

pub keep_short-requires-clause-fits : goal.keep_short-requires-clause-fits
keep_short-requires-clause-fits c =
    let l = (rw c.deref.ensures.value at c.place-at.ensures) c.self.invariant.sorted c.self.invariant.filled in
    omega (arith, one_more c.args.block _ _ (put l _ _ c.index_mut.ensures.value c.insert.ensures), c.self.invariant.fits, c.requires.room, ap (λ (i : Indexed). i.room) c.self.view_is)

pub invariant_of-self : goal.invariant_of-self
invariant_of-self c =
    let i = c.self.invariant in
    let l = (rw c.deref.ensures.value at c.place-at.ensures) i.sorted i.filled in
    let made = c.keep_short.ensures.blocks ∙ put l _ _ c.index_mut.ensures.value c.insert.ensures in
    let longer = one_more c.args.block _ _ made in
    let had = ap (λ (x : Indexed). x.room) c.self.view_is in
    record {
      some = c.keep_short.ensures.some;
      filled = c.keep_short.ensures.filled;
      sorted = subst (λ xs. IsBySize xs) (sym made) (insert-sorted c.args.block (gathered c.self.inside.pieces.items) i.sorted);
      fits = omega (arith, longer, i.fits, c.requires.room, had, c.keep_short.ensures.pieces);
      places = omega (arith, i.places, c.keep_short.ensures.pieces, c.keep_short.ensures.places);
      spare_places = omega (arith, i.spare_places, c.keep_short.ensures.pieces, c.keep_short.ensures.spare_places);
      counted = omega (arith, longer, i.counted);
      summed = omega (arith, words_more c.args.block _ _ made, i.summed);
      few = omega (arith, longer, i.few, c.requires.room, had);
    }

pub returns : goal.returns
returns c =
    let l = (rw c.deref.ensures.value at c.place-at.ensures) c.self.invariant.sorted c.self.invariant.filled in
    same_index _ _ _ _
    (c.keep_short.ensures.blocks ∙ (put l _ _ c.index_mut.ensures.value c.insert.ensures ∙ ap (λ (i : Indexed). insert_block c.args.block i.blocks) c.self.view_is))
    (ap (λ (i : Indexed). i.room - 1) c.self.view_is)
