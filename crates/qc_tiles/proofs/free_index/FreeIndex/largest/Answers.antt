use Rattle.std.proofs.Common.{◌∙◌, ap, sym}
use Rattle.qc_tiles.specs.Sizes.{Indexed, last_of, words_or_none}
use Rattle.qc_tiles.proofs.Pieces.{last_at}
use Rattle.qc_tiles.proofs.free_index.FreeIndex.largest.Goals as goal

pub returns-in-Some : goal.returns-in-Some
returns-in-Some c =
    let i = c.self.inside.pieces in
    let last = last_at i.items c.index.result.now c.len.result (c.len.ensures ∙ i.ok.0) (rw i.ok.0 at c.self.invariant.some) c.self.invariant.filled c.index.ensures in
    ap words_or_none (sym c.in-Some.is ∙ (c.last.ensures ∙ (last ∙ ap (λ (x : Indexed). last_of x.blocks) c.self.view_is)))

pub returns-in-None : goal.returns-in-None
returns-in-None c =
    let i = c.self.inside.pieces in
    let last = last_at i.items c.index.result.now c.len.result (c.len.ensures ∙ i.ok.0) (rw i.ok.0 at c.self.invariant.some) c.self.invariant.filled c.index.ensures in
    ap words_or_none (sym c.in-None.is ∙ (c.last.ensures ∙ (last ∙ ap (λ (x : Indexed). last_of x.blocks) c.self.view_is)))
