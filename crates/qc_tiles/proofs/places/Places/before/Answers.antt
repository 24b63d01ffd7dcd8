use Rattle.std.proofs.Common.{◌≡◌, ◌-◌, ◌/◌, get_or, refl, ◌∙◌}
use Rattle.qc_tiles.specs.Cells.{begun, IsAt, block_at}
use Rattle.qc_tiles.proofs.PlaceReads.{none_before, found_before}
use Rattle.qc_tiles.proofs.places.Places.before.Goals as goal

pub returns-then-block-eq0 : goal.returns-then-block-eq0
returns-then-block-eq0 c = λ k here.
    let s = c.self.inside.starts.items in
    let at : IsAt (begun s) k c.args.block.first c.args.block.words = rw (← c.self.view_is) at here in
    rw (← c.self.view_is) (none_before s c.self.inside.ends.items c.self.inside.count k c.args.block.first c.args.block.words c.self.invariant at c.if-block-eq0.true)

pub returns : goal.returns
returns c = λ k here.
    let s = c.self.inside.starts.items in
    let at : IsAt (begun s) k c.args.block.first c.args.block.words = rw (← c.self.view_is) at here in
    let below = get_or c.as_slice-ends.result.now c.cell_of.result 0 in
    let mark : below ≡ get_or c.self.inside.ends.items ((c.args.block.first - 1) / 64) 0 = rw (c.as_slice-ends.ensures.value, c.cell_of.ensures) refl in
    let found : c.get.result ≡ block_at below (begun s) = rw (← c.self.view_is) at c.get.ensures in
    rw (← c.self.view_is) (found ∙ found_before s c.self.inside.ends.items c.self.inside.count k c.args.block.first c.args.block.words below c.self.invariant at c.if-block-eq0.false mark)
