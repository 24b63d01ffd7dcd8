use Rattle.std.proofs.Common.{◌≡◌, subst}
use Rattle.qc_tiles.specs.Sizes.{Indexed, Parts, first_of}
use Rattle.qc_tiles.proofs.Pieces.{found}
use Rattle.qc_tiles.proofs.free_index.FreeIndex.first_from.Goals as goal

pub returns : goal.returns
returns c =
    let l = (rw c.deref.ensures.value at c.place.ensures) c.self.invariant.sorted c.self.invariant.filled in
    subst (λ (i : Indexed). Parts 0 c.args.words i.blocks (λ low high. c.first_from.result ≡ first_of high)) c.self.view_is (found l _ _ c.index.ensures c.first_from.ensures)
