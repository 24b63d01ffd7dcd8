use Rattle.std.proofs.Common.{◌≡◌, ◌+◌, ◌++◌, take, drop, arith, None, ℕ, List}
use Rattle.qc_tiles.specs.Tiles.{after_move_down, movable, swapped}
use Rattle.qc_tiles.specs.Sizes.{Indexed, by_size}
use Rattle.qc_tiles.specs.declared.blocks.Block.{Block}
use Rattle.qc_tiles.specs.declared.blocks.Tile.{Tile}
use Rattle.qc_tiles.specs.Kept.{IsMovable}
use Rattle.qc_tiles.specs.Settled.{IsHole}
use Rattle.qc_tiles.proofs.Tilings.{tiling_words}
use Rattle.qc_tiles.proofs.Keeps.{after_move_down-none}
use Rattle.qc_tiles.proofs.Sorting.{by_size-sorted}
use Rattle.qc_tiles.proofs.Calls.{own_tiling, told_tiling}
use Rattle.qc_tiles.proofs.Changes.{Done, Moves, moves_at, joined_fits, swapped_is, move_hole, moves_down, move_is}
use Rattle.qc_tiles.proofs.tiles.Tiles.move_down.Goals.{After-block_of-upper, After-cut, After-min-self-inside}
use Rattle.qc_tiles.proofs.tiles.Tiles.move_down.Goals as goal

pub find_movable-requires-clause-tiling : goal.find_movable-requires-clause-tiling
find_movable-requires-clause-tiling c = own_tiling c.self.inside.words c.self.inside.places c.self.invariant.tiling

pub find_movable-requires-clause-region : goal.find_movable-requires-clause-region
find_movable-requires-clause-region c = omega (arith, tiling_words c.self.inside.words c.self.inside.places c.self.invariant.tiling, c.self.invariant.region)

pub returns-in_err-below-clause-tiles : goal.returns-in_err-below-clause-tiles
returns-in_err-below-clause-tiles c =
    let none : movable c.self.inside.places ≡ None = c.in_err-below.ensures {u = tt} in
    rw (← c.self.view_is) (after_move_down-none c.self.inside.words c.self.inside.places c.self.invariant.tiling none)

pub returns-in_err-below-clause-tiling : goal.returns-in_err-below-clause-tiling
returns-in_err-below-clause-tiling c = rw (← c.self.view_is) (own_tiling c.self.inside.words c.self.inside.places c.self.invariant.tiling)

-- the block that moves and the free one below it, by the index of that one
found : (c : After-block_of-upper) → (k : ℕ) × IsMovable c.self.inside.places k × Moves c.self.inside.words k c.self.inside.places c.self.inside.free c.block_of-lower.result c.block_of-upper.result
found c =
    let m = c.in_ok-below.ensures {u = tt} in (
      m.0,
      m.1,
      moves_at c.self.inside.words c.self.inside.lowest m.0 c.self.inside.places c.self.inside.free c.block_of-lower.result c.block_of-upper.result c.in_ok-below.below c.in_ok-below.tile c.self.invariant m.1 m.2 m.3 c.block_of-lower.ensures c.block_of-upper.ensures,
    )

pub remove-requires : goal.remove-requires
remove-requires c =
    let (k, m, moves) = found (goal.at.remove-requires c).After-block_of-upper in
    let ts = c.self.inside.places in
    (by_size (take k ts ++ drop (k + 2) ts), moves.indexed, by_size-sorted (take k ts ++ drop (k + 2) ts))

pub join-requires : goal.join-requires
join-requires c = let (k, m, moves) = found (goal.at.join-requires c).After-block_of-upper in (k, moves.here, moves.next)

pub overflow_add-back : goal.overflow_add-back
overflow_add-back c =
    let (k, m, moves) = found (goal.at.overflow_add-back c).After-block_of-upper in
    omega (arith, moves.near, moves.fits, c.self.invariant.region)

pub cut-requires-clause-at : goal.cut-requires-clause-at
cut-requires-clause-at c =
    let (k, m, moves) = found (goal.at.cut-requires-clause-at c).After-block_of-upper in
    let at = joined_fits c.self.inside.words k c.self.inside.places c.join.new.self c.self.inside.free c.block_of-lower.result c.block_of-upper.result moves (c.join.ensures k moves.here moves.next) in
    rw (c.used_tile.ensures, c.free_tile.ensures) (k, at)

pub cut-requires-clause-front_large : goal.cut-requires-clause-front_large
cut-requires-clause-front_large c =
    let (k, m, moves) = found (goal.at.cut-requires-clause-front_large c).After-block_of-upper in
    rw c.used_tile.ensures moves.more

pub cut-requires-clause-back_large : goal.cut-requires-clause-back_large
cut-requires-clause-back_large c =
    let (k, m, moves) = found (goal.at.cut-requires-clause-back_large c).After-block_of-upper in
    rw c.free_tile.ensures moves.some

-- the two have changed places, and the free one isn't in the index
pub record Swapped (words k : ℕ) (ts mid : List Tile) (free out : Indexed) (lower upper : Block) : Type 0 where
  pub moves : Moves words k ts free lower upper
  pub lowest_one : IsMovable ts k
  pub swap : mid ≡ swapped ts
  pub hole : IsHole words mid out (record { first = lower.first + upper.words; words = lower.words }) (k + 1)

swaps : (c : After-cut) (k : ℕ) → IsMovable c.self.inside.places k → Moves c.self.inside.words k c.self.inside.places c.self.inside.free c.block_of-lower.result c.block_of-upper.result
    → Swapped c.self.inside.words k c.self.inside.places c.cut.new.self c.self.inside.free c.remove.new.self c.block_of-lower.result c.block_of-upper.result
swaps c k m moves =
    let ts = c.self.inside.places in
    let words = c.self.inside.words in
    let mid = c.join.ensures k moves.here moves.next in
    let at = joined_fits words k ts c.join.new.self c.self.inside.free c.block_of-lower.result c.block_of-upper.result moves mid in
    let two = (rw (c.used_tile.ensures, c.free_tile.ensures) at c.cut.ensures) k at in
    let swap = swapped_is words k ts c.join.new.self c.cut.new.self c.self.inside.free c.block_of-lower.result c.block_of-upper.result moves mid two in
    let index = c.remove.ensures (by_size (take k ts ++ drop (k + 2) ts)) moves.indexed (by_size-sorted (take k ts ++ drop (k + 2) ts)) in
    record {
      moves = moves;
      lowest_one = m;
      swap = swap;
      hole = move_hole words c.self.inside.lowest k ts c.cut.new.self c.self.inside.free c.remove.new.self c.block_of-lower.result c.block_of-upper.result c.self.invariant moves swap index;
    }

pub settle-whole-requires : goal.settle-whole-requires
settle-whole-requires c =
    let (k, m, moves) = found (goal.at.settle-whole-requires c).After-block_of-upper in
    (c.self.inside.words, k + 1, (swaps (goal.at.settle-whole-requires c).After-cut k m moves).hole)

done : (c : After-min-self-inside) (k : ℕ) → Swapped c.self.inside.words k c.self.inside.places c.cut.new.self c.self.inside.free c.remove.new.self c.block_of-lower.result c.block_of-upper.result
    → Done c.self.inside.words (after_move_down c.self.inside.places) c.settle-whole.new.places c.settle-whole.new.free c.min-self-inside.result
done c k s =
    moves_down c.self.inside.words c.self.inside.lowest c.min-self-inside.result k c.self.inside.places c.cut.new.self c.settle-whole.new.places c.self.inside.free c.remove.new.self c.settle-whole.new.free c.block_of-lower.result c.block_of-upper.result c.settle-whole.result c.self.invariant s.lowest_one s.moves s.swap s.hole
    (c.settle-whole.ensures c.self.inside.words (k + 1) s.hole) c.min-self-inside.ensures

pub invariant_of-self : goal.invariant_of-self
invariant_of-self c =
    let at = goal.at.invariant_of-self c in
    let (k, m, moves) = found at.After-block_of-upper in
    (done at.After-min-self-inside k (swaps at.After-cut k m moves)).ready

pub returns-clause-change : goal.returns-clause-change
returns-clause-change c =
    let m = c.in_ok-below.ensures {u = tt} in
    rw (← c.self.view_is) (move_is m.0 c.self.inside.places c.block_of-lower.result c.block_of-upper.result c.in_ok-below.below c.in_ok-below.tile m.1 m.2 m.3 c.block_of-lower.ensures c.block_of-upper.ensures)

pub returns-clause-tiles : goal.returns-clause-tiles
returns-clause-tiles c =
    let at = goal.at.returns-clause-tiles c in
    let (k, m, moves) = found at.After-block_of-upper in
    rw (← c.self.view_is) (done at.After-min-self-inside k (swaps at.After-cut k m moves)).tiles

pub returns-clause-tiling : goal.returns-clause-tiling
returns-clause-tiling c =
    let at = goal.at.returns-clause-tiling c in
    let (k, m, moves) = found at.After-block_of-upper in
    rw (← c.self.view_is) (told_tiling c.self.inside.words c.self.inside.places c.settle-whole.new.places c.self.invariant.tiling (done at.After-min-self-inside k (swaps at.After-cut k m moves)).ready.tiling)
