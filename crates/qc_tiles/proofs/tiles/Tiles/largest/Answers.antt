use Rattle.std.proofs.Common.{sym, ◌∙◌, ap}
use Rattle.qc_tiles.specs.Sizes.{last_of, words_or_none}
use Rattle.qc_tiles.proofs.Fits.{largest-last}
use Rattle.qc_tiles.proofs.tiles.Tiles.largest.Goals as goal

pub returns : goal.returns
returns c = rw (← c.self.view_is) (c.largest.ensures ∙ (ap (λ bs. words_or_none (last_of bs)) c.self.invariant.indexed.sizes ∙ sym (largest-last c.self.inside.places)))
