use Rattle.std.proofs.Common.{◌≡◌, refl, ◌∙◌, ap, length}
use Rattle.qc_tiles.specs.Tiles.{free_count, free_words}
use Rattle.qc_tiles.specs.Sizes.{block_words}
use Rattle.qc_tiles.proofs.Sorting.{by_size-count, by_size-words}
use Rattle.qc_tiles.proofs.tiles.Tiles.totals.Goals as goal

pub returns : goal.returns
returns c =
    let ts = c.self.inside.places in
    let count : c.count-2.result ≡ free_count ts = c.count-2.ensures ∙ (ap length c.self.invariant.indexed.sizes ∙ by_size-count ts) in
    let words : c.words.result ≡ free_words ts = c.words.ensures ∙ (ap block_words c.self.invariant.indexed.sizes ∙ by_size-words ts) in
    rw (← c.self.view_is, c.count.ensures, count, words) refl
