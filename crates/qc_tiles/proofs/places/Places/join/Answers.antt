use Rattle.std.proofs.Common.{◌+◌, ◌-◌, refl, ap, arith}
use Rattle.qc_tiles.specs.declared.blocks.Tile.{Tile}
use Rattle.qc_tiles.specs.Cells.{begun, IsAt}
use Rattle.qc_tiles.proofs.PlaceSteps.{parts_at}
use Rattle.qc_tiles.proofs.PlaceCuts.{join_view, join_placed}
use Rattle.qc_tiles.proofs.places.Places.join.Goals as goal

pub overflow_add-lower : goal.overflow_add-lower
overflow_add-lower c =
    let s = c.self.inside.starts.items in
    let at : IsAt (begun s) c.requires.0 c.args.lower.first c.args.lower.words = rw (← c.self.view_is) at c.requires.1 in
    let next : IsAt (begun s) (c.requires.0 + 1) c.args.upper.first c.args.upper.words = rw (← c.self.view_is) at c.requires.2 in
    let p = parts_at s c.self.inside.ends.items c.self.inside.count c.requires.0 c.args.lower.first c.args.lower.words c.self.invariant at in
    let u = parts_at s c.self.inside.ends.items c.self.inside.count (c.requires.0 + 1) c.args.upper.first c.args.upper.words c.self.invariant next in
    omega (arith, p.fits, u.fits, c.self.invariant.few)

pub index_mut-requires-3 : goal.index_mut-requires-3
index_mut-requires-3 c =
    let s = c.self.inside.starts.items in
    let next : IsAt (begun s) (c.requires.0 + 1) c.args.upper.first c.args.upper.words = rw (← c.self.view_is) at c.requires.2 in
    let u = parts_at s c.self.inside.ends.items c.self.inside.count (c.requires.0 + 1) c.args.upper.first c.args.upper.words c.self.invariant next in
    omega (arith, c.cell_of-3.ensures, u.fits, u.some, c.self.invariant.marks)

pub invariant_of-self : goal.invariant_of-self
invariant_of-self c =
    let s = c.self.inside.starts.items in
    let at : IsAt (begun s) c.requires.0 c.args.lower.first c.args.lower.words = rw (← c.self.view_is) at c.requires.1 in
    let next : IsAt (begun s) (c.requires.0 + 1) c.args.upper.first c.args.upper.words = rw (← c.self.view_is) at c.requires.2 in
    rw c.cell_of-3.ensures
    (join_placed s c.self.inside.ends.items c.self.inside.count c.requires.0 c.cell_of-2.result c.cell_of.result c.args.lower.first c.args.lower.words c.args.upper.first c.args.upper.words (c.args.upper.first + (c.args.upper.words - 1)) c.free_tile-joined.result c.self.invariant at next
    (ap (λ (t : Tile). t.first) c.free_tile-joined.ensures) (ap (λ (t : Tile). t.words) c.free_tile-joined.ensures)
    (omega (arith, c.cell_of-2.ensures)) (omega (arith, c.cell_of-2.ensures)) (omega (arith, c.cell_of.ensures)) (omega (arith, c.cell_of.ensures)) refl)

pub returns : goal.returns
returns c = λ k one two.
    let s = c.self.inside.starts.items in
    let at : IsAt (begun s) k c.args.lower.first c.args.lower.words = rw (← c.self.view_is) at one in
    let next : IsAt (begun s) (k + 1) c.args.upper.first c.args.upper.words = rw (← c.self.view_is) at two in
    rw (← c.self.view_is, ← c.free_tile-joined.ensures)
    (join_view s c.self.inside.ends.items c.self.inside.count k c.cell_of-2.result c.cell_of.result c.args.lower.first c.args.lower.words c.args.upper.first c.args.upper.words c.free_tile-joined.result c.self.invariant at next
    (omega (arith, c.cell_of-2.ensures)) (omega (arith, c.cell_of-2.ensures)) (omega (arith, c.cell_of.ensures)) (omega (arith, c.cell_of.ensures)))
