use Rattle.std.proofs.Common.{◌∙◌, arith}
use Rattle.qc_tiles.proofs.PlaceReads.{no_cell, empty_cell, other_cell, full_cell}
use Rattle.qc_tiles.proofs.places.Places.get.Goals as goal

pub returns-then-cell-len : goal.returns-then-cell-len
returns-then-cell-len c =
    rw (← c.self.view_is) (no_cell c.self.inside.starts.items c.args.first c.cell_of-cell.result c.self.invariant.placed (omega (arith, c.cell_of-cell.ensures)) (omega (arith, c.cell_of-cell.ensures)) (omega arith))

pub returns-in_err-tile : goal.returns-in_err-tile
returns-in_err-tile c =
    let none = empty_cell c.self.inside.starts.items c.args.first c.cell_of-cell.result c.index.result.now c.self.invariant.placed (omega (arith, c.cell_of-cell.ensures)) (omega (arith, c.cell_of-cell.ensures)) (omega arith) c.index.ensures (c.in_err-tile.was {u = tt}) in
    rw (← c.self.view_is) (c.from_residual.ensures ∙ none)

pub returns-then-tile-first : goal.returns-then-tile-first
returns-then-tile-first c =
    rw (← c.self.view_is) (other_cell c.self.inside.starts.items c.args.first c.cell_of-cell.result c.index.result.now c.in_ok-tile.tile c.self.invariant.placed (omega (arith, c.cell_of-cell.ensures)) (omega (arith, c.cell_of-cell.ensures)) (omega arith) c.index.ensures (c.in_ok-tile.was {u = tt}) c.if-tile-first.true)

pub returns : goal.returns
returns c =
    rw (← c.self.view_is) (full_cell c.self.inside.starts.items c.args.first c.cell_of-cell.result c.index.result.now c.in_ok-tile.tile c.self.invariant.placed (omega (arith, c.cell_of-cell.ensures)) (omega (arith, c.cell_of-cell.ensures)) (omega arith) c.index.ensures (c.in_ok-tile.was {u = tt}) c.if-tile-first.false)
