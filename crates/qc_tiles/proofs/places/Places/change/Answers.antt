use Rattle.std.proofs.Common.{sym, ◌∙◌, arith}
use Rattle.qc_tiles.specs.Cells.{begun, IsAt}
use Rattle.qc_tiles.proofs.Edits.{set_is}
use Rattle.qc_tiles.proofs.PlaceSteps.{change_view, change_placed}
use Rattle.qc_tiles.proofs.places.Places.change.Goals as goal

pub invariant_of-self : goal.invariant_of-self
invariant_of-self c =
    let s = c.self.inside.starts.items in
    let at : IsAt (begun s) c.requires.0 c.args.tile.first c.args.tile.words = rw (← c.self.view_is) at c.requires.1 in
    change_placed s c.self.inside.ends.items c.self.inside.count c.requires.0 c.cell_of.result c.args.tile c.self.invariant at (omega (arith, c.cell_of.ensures)) (omega (arith, c.cell_of.ensures))

pub returns : goal.returns
returns c = λ k here.
    let s = c.self.inside.starts.items in
    let at : IsAt (begun s) k c.args.tile.first c.args.tile.words = rw (← c.self.view_is) at here in
    rw (← c.self.view_is)
    (change_view s c.self.inside.ends.items c.self.inside.count k c.cell_of.result c.args.tile c.self.invariant at (omega (arith, c.cell_of.ensures)) (omega (arith, c.cell_of.ensures))
    ∙ sym (set_is (begun s) k c.args.tile at.within))
