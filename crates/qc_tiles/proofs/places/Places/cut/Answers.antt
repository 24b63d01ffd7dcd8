use Rattle.std.proofs.Common.{◌+◌, ◌-◌, ◌*◌, refl, arith, length}
use Rattle.qc_tiles.specs.Cells.{begun, IsAt}
use Rattle.qc_tiles.proofs.Tilings.{covers_words, length_words}
use Rattle.qc_tiles.proofs.PlaceSteps.{parts_at}
use Rattle.qc_tiles.proofs.PlaceCuts.{cut_view, cut_placed}
use Rattle.qc_tiles.proofs.places.Places.cut.Goals as goal

pub index_mut-requires-2 : goal.index_mut-requires-2
index_mut-requires-2 c =
    let s = c.self.inside.starts.items in
    let at : IsAt (begun s) c.requires.at.0 c.args.front.first (c.args.front.words + c.args.back.words) = rw (← c.self.view_is) at c.requires.at.1 in
    let p = parts_at s c.self.inside.ends.items c.self.inside.count c.requires.at.0 c.args.front.first (c.args.front.words + c.args.back.words) c.self.invariant at in
    omega (arith, c.cell_of-2.ensures, p.fits, c.requires.behind, c.requires.front_large, c.requires.back_large, c.self.invariant.marks)

pub index_mut-requires-3 : goal.index_mut-requires-3
index_mut-requires-3 c =
    let s = c.self.inside.starts.items in
    let at : IsAt (begun s) c.requires.at.0 c.args.front.first (c.args.front.words + c.args.back.words) = rw (← c.self.view_is) at c.requires.at.1 in
    let p = parts_at s c.self.inside.ends.items c.self.inside.count c.requires.at.0 c.args.front.first (c.args.front.words + c.args.back.words) c.self.invariant at in
    omega (arith, c.cell_of-3.ensures, p.fits, c.requires.behind, c.requires.front_large, c.requires.back_large, c.self.invariant.marks)

pub overflow_add-back : goal.overflow_add-back
overflow_add-back c =
    let s = c.self.inside.starts.items in
    let at : IsAt (begun s) c.requires.at.0 c.args.front.first (c.args.front.words + c.args.back.words) = rw (← c.self.view_is) at c.requires.at.1 in
    let p = parts_at s c.self.inside.ends.items c.self.inside.count c.requires.at.0 c.args.front.first (c.args.front.words + c.args.back.words) c.self.invariant at in
    omega (arith, p.fits, c.requires.behind, c.self.invariant.few)

pub index_mut-requires-4 : goal.index_mut-requires-4
index_mut-requires-4 c =
    let s = c.self.inside.starts.items in
    let at : IsAt (begun s) c.requires.at.0 c.args.front.first (c.args.front.words + c.args.back.words) = rw (← c.self.view_is) at c.requires.at.1 in
    let p = parts_at s c.self.inside.ends.items c.self.inside.count c.requires.at.0 c.args.front.first (c.args.front.words + c.args.back.words) c.self.invariant at in
    omega (arith, c.cell_of-4.ensures, p.fits, c.requires.behind, c.requires.front_large, c.requires.back_large, c.self.invariant.marks)

pub overflow_add-self : goal.overflow_add-self
overflow_add-self c =
    let s = c.self.inside.starts.items in
    omega (arith, c.self.invariant.counted, c.self.invariant.few, length_words (begun s) c.self.invariant.large, covers_words 0 (64 * length s) (begun s) c.self.invariant.covers)

pub invariant_of-self : goal.invariant_of-self
invariant_of-self c =
    let s = c.self.inside.starts.items in
    let at : IsAt (begun s) c.requires.at.0 c.args.front.first (c.args.front.words + c.args.back.words) = rw (← c.self.view_is) at c.requires.at.1 in
    rw (c.cell_of-2.ensures, c.cell_of-4.ensures)
    (cut_placed s c.self.inside.ends.items c.self.inside.count c.requires.at.0 c.cell_of.result c.cell_of-3.result (c.args.back.first - 1) (c.args.back.first + (c.args.back.words - 1)) c.args.front c.args.back c.self.invariant at c.requires.behind c.requires.front_large c.requires.back_large
    (omega (arith, c.cell_of.ensures)) (omega (arith, c.cell_of.ensures)) (omega (arith, c.cell_of-3.ensures)) (omega (arith, c.cell_of-3.ensures)) (omega (arith, c.requires.behind, c.requires.front_large)) refl)

pub returns : goal.returns
returns c = λ k here.
    let s = c.self.inside.starts.items in
    let at : IsAt (begun s) k c.args.front.first (c.args.front.words + c.args.back.words) = rw (← c.self.view_is) at here in
    rw (← c.self.view_is)
    (cut_view s c.self.inside.ends.items c.self.inside.count k c.cell_of.result c.cell_of-3.result c.args.front c.args.back c.self.invariant at c.requires.behind c.requires.front_large c.requires.back_large
    (omega (arith, c.cell_of.ensures)) (omega (arith, c.cell_of.ensures)) (omega (arith, c.cell_of-3.ensures)) (omega (arith, c.cell_of-3.ensures)))
