use Rattle.std.proofs.Common.{subst, ℕ, ◌≡◌, ◌++◌, ◌+◌, ◌-◌, arith, take, drop}
use Rattle.qc_tiles.specs.Cells.{IsAt}
use Rattle.qc_tiles.proofs.Standing.{place_bounds}
use Rattle.qc_tiles.proofs.Sorting.{by_size-sorted}
use Rattle.qc_tiles.proofs.Holes.{free_indexed, free_at, taken_out, hands_whole, hands_front}
use Rattle.qc_tiles.proofs.settle.hand_out.Goals as goal

pub remove-requires : goal.remove-requires
remove-requires c = (_, free_indexed c.requires.0 c.args.places.now c.args.free.now c.args.block c.requires.1 c.args.wanted c.requires.2, by_size-sorted (take c.requires.1 c.args.places.now ++ drop (c.requires.1 + 1) c.args.places.now))

pub returns-then-rest-lt-LEAST_WORDS : goal.returns-then-rest-lt-LEAST_WORDS
returns-then-rest-lt-LEAST_WORDS c = λ words k h.
    let ts = c.args.places.now in
    let out = taken_out words ts c.args.free.now c.remove.new.self c.args.block k c.args.wanted h (c.remove.ensures _ (free_indexed words ts c.args.free.now c.args.block k c.args.wanted h) (by_size-sorted (take k ts ++ drop (k + 1) ts))) in
    let made = (rw c.used_tile.ensures at c.change.ensures) k (free_at words ts c.args.free.now c.args.block k c.args.wanted h) in
    hands_whole words k c.args.wanted ts c.change.new.self c.args.free.now c.remove.new.self c.args.block h out (omega (arith, h.holds)) made

pub overflow_add-back : goal.overflow_add-back
overflow_add-back c =
    let h = c.requires.2 in
    let at = free_at c.requires.0 c.args.places.now c.args.free.now c.args.block c.requires.1 c.args.wanted h in
    omega (arith, (place_bounds 0 c.requires.0 c.args.places.now c.requires.1 h.tiling.covers h.within).1, at.first, at.words, h.holds, h.region)

pub insert-requires-clause-room : goal.insert-requires-clause-room
insert-requires-clause-room c =
    let ts = c.args.places.now in
    let h = c.requires.2 in
    (taken_out c.requires.0 ts c.args.free.now c.remove.new.self c.args.block c.requires.1 c.args.wanted h (c.remove.ensures _ (free_indexed c.requires.0 ts c.args.free.now c.args.block c.requires.1 c.args.wanted h) (by_size-sorted (take c.requires.1 ts ++ drop (c.requires.1 + 1) ts)))).spare

pub insert-requires-clause-sorted : goal.insert-requires-clause-sorted
insert-requires-clause-sorted c =
    let ts = c.args.places.now in
    let h = c.requires.2 in
    let out = taken_out c.requires.0 ts c.args.free.now c.remove.new.self c.args.block c.requires.1 c.args.wanted h (c.remove.ensures _ (free_indexed c.requires.0 ts c.args.free.now c.args.block c.requires.1 c.args.wanted h) (by_size-sorted (take c.requires.1 ts ++ drop (c.requires.1 + 1) ts))) in
    rw out.blocks (by_size-sorted (take c.requires.1 ts ++ drop (c.requires.1 + 1) ts))

pub insert-requires-clause-fits : goal.insert-requires-clause-fits
insert-requires-clause-fits c =
    let ts = c.args.places.now in
    let h = c.requires.2 in
    let out = taken_out c.requires.0 ts c.args.free.now c.remove.new.self c.args.block c.requires.1 c.args.wanted h (c.remove.ensures _ (free_indexed c.requires.0 ts c.args.free.now c.args.block c.requires.1 c.args.wanted h) (by_size-sorted (take c.requires.1 ts ++ drop (c.requires.1 + 1) ts))) in
    omega (arith, out.fits, h.region)

pub returns : goal.returns
returns c = λ words k h.
    let ts = c.args.places.now in
    let out = taken_out words ts c.args.free.now c.remove.new.self c.args.block k c.args.wanted h (c.remove.ensures _ (free_indexed words ts c.args.free.now c.args.block k c.args.wanted h) (by_size-sorted (take k ts ++ drop (k + 1) ts))) in
    let sum : c.args.block.words ≡ c.args.wanted + (c.args.block.words - c.args.wanted) = omega (arith, h.holds) in
    let at : IsAt ts k c.args.block.first (c.args.wanted + (c.args.block.words - c.args.wanted)) = subst (λ (n : ℕ). IsAt ts k c.args.block.first n) sum (free_at words ts c.args.free.now c.args.block k c.args.wanted h) in
    let made = (rw (c.used_tile-2.ensures, c.free_tile.ensures) at c.cut.ensures) k at in
    hands_front words k c.args.wanted ts c.cut.new.self c.args.free.now c.remove.new.self c.insert.new.self c.args.block h out (omega (arith, h.holds)) made c.insert.ensures
