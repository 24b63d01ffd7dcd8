-- Walks over a list of blocks: what one more block changes.
use Rattle.std.proofs.Common.{◌≡◌, ℕ, ◌+◌, ◌-◌, ◌<◌, ◌≤◌, Bool, true, false, List, [], ◌∷◌, ◌++◌, length, take, drop, refl, sym, ap, ◌∙◌, arith, zero, suc, Some, None, drop-cons, add-one}
use Rattle.std.proofs.lemmas.List.{take-append-drop}
use Rattle.qc_tiles.specs.declared.blocks.Tile.{Tile}
use Rattle.qc_tiles.specs.Tiles.{tile, free_tile, free_count, free_words, region_words, may_move, movable, swapped}
use Rattle.qc_tiles.specs.Kept.{tile_at, IsMovable}

pub drop_at : (ts : List Tile) (k : ℕ) → k < length ts → drop k ts ≡ tile_at ts k ∷ drop (k + 1) ts
drop_at ts k within = rw add-one (drop-cons ts k (tile 0 0 false false) within)

pub split_at : (ts : List Tile) (k : ℕ) → k < length ts → ts ≡ take k ts ++ (tile_at ts k ∷ drop (k + 1) ts)
split_at ts k within = rw (← (drop_at ts k within)) (sym (take-append-drop k ts))

count_more : (b : Bool) (x n m : ℕ) (t : Tile) (ts : List Tile) → t.free ≡ b → free_count ts ≤ length ts → free_count (t ∷ ts) ≤ suc (length ts)
count_more true x n m t ts e h = rw e (omega arith)
count_more false x n m t ts e h = rw e (omega arith)

pub free_count-bound : (ts : List Tile) → free_count ts ≤ length ts
free_count-bound [] = omega arith
free_count-bound (t ∷ ts) = count_more t.free 0 0 0 t ts refl (free_count-bound ts)

words_more : (b : Bool) (t : Tile) (ts : List Tile) → t.free ≡ b → free_words ts ≤ region_words ts → free_words (t ∷ ts) ≤ t.words + region_words ts
words_more true t ts e h = rw e (omega arith)
words_more false t ts e h = rw e (omega arith)

pub free_words-bound : (ts : List Tile) → free_words ts ≤ region_words ts
free_words-bound [] = omega arith
free_words-bound (t ∷ ts) = words_more t.free t ts refl (free_words-bound ts)

-- ---- the lowest block that may move

moves : (t u : Tile) (us : List Tile) → may_move t u ≡ true → movable (t ∷ u ∷ us) ≡ Some (record { from = u.first; to = t.first; words = u.words })
moves t u us e = rw e refl

passes : (t u : Tile) (us : List Tile) → may_move t u ≡ false → movable (t ∷ u ∷ us) ≡ movable (u ∷ us)
passes t u us e = rw e refl

-- the block behind the next one
next_at : (t : Tile) (ts : List Tile) (k : ℕ) → tile_at (t ∷ ts) (suc k + 1) ≡ tile_at ts (k + 1)
next_at t ts k = let e : suc k + 1 ≡ suc (k + 1) = omega arith in rw e refl

moves_next : (t : Tile) (ts : List Tile) (k : ℕ) (b : Bool) → may_move (tile_at (t ∷ ts) (suc k)) (tile_at (t ∷ ts) (suc k + 1)) ≡ b → may_move (tile_at ts k) (tile_at ts (k + 1)) ≡ b
moves_next t ts k b h = rw (next_at t ts k) at h

movable_next : (t : Tile) (ts : List Tile) (k : ℕ) → IsMovable (t ∷ ts) (suc k) → IsMovable ts k
movable_next t ts k h = record {
  within = omega (arith, h.within);
  moves = moves_next t ts k true h.moves;
  lowest = λ j below. moves_next t ts j false (h.lowest (suc j) (omega arith));
}

pub none_moves : (ts : List Tile) → ((k : ℕ) → k + 1 < length ts → may_move (tile_at ts k) (tile_at ts (k + 1)) ≡ false) → movable ts ≡ None
none_moves [] h = refl
none_moves (t ∷ []) h = refl
none_moves (t ∷ u ∷ us) h = passes t u us (h 0 (omega arith)) ∙ none_moves (u ∷ us) (λ k within. moves_next t (u ∷ us) k false (h (suc k) (omega arith)))

-- the two blocks that change places, and what is around them
pub move_of : (ts : List Tile) (k : ℕ) → IsMovable ts k → movable ts ≡ Some (record { from = (tile_at ts (k + 1)).first; to = (tile_at ts k).first; words = (tile_at ts (k + 1)).words })
move_of [] k h = absurd (omega (arith, h.within))
move_of (t ∷ []) k h = absurd (omega (arith, h.within))
move_of (t ∷ u ∷ us) zero h = moves t u us h.moves
move_of (t ∷ u ∷ us) (suc k) h =
    passes t u us (h.lowest 0 (omega arith))
    ∙ rw (next_at t (u ∷ us) k) (move_of (u ∷ us) k (movable_next t (u ∷ us) k h))

abbrev pub swap_pair : Tile → Tile → List Tile → List Tile
swap_pair t u us = tile t.first u.words false false ∷ free_tile (t.first + u.words) t.words ∷ us

swaps : (t u : Tile) (us : List Tile) → may_move t u ≡ true → swapped (t ∷ u ∷ us) ≡ swap_pair t u us
swaps t u us e = rw e refl

keeps : (t u : Tile) (us : List Tile) → may_move t u ≡ false → swapped (t ∷ u ∷ us) ≡ t ∷ swapped (u ∷ us)
keeps t u us e = rw e refl

pub swap_of : (ts : List Tile) (k : ℕ) → IsMovable ts k → swapped ts ≡ take k ts ++ swap_pair (tile_at ts k) (tile_at ts (k + 1)) (drop (k + 2) ts)
swap_of [] k h = absurd (omega (arith, h.within))
swap_of (t ∷ []) k h = absurd (omega (arith, h.within))
swap_of (t ∷ u ∷ us) zero h = swaps t u us h.moves
swap_of (t ∷ u ∷ us) (suc k) h =
    keeps t u us (h.lowest 0 (omega arith))
    ∙ (let e : suc k + 2 ≡ suc (k + 2) = omega arith in
    rw (next_at t (u ∷ us) k, e) (ap (λ rest. t ∷ rest) (swap_of (u ∷ us) k (movable_next t (u ∷ us) k h))))

pub none_swapped : (ts : List Tile) → movable ts ≡ None → swapped ts ≡ ts
none_swapped [] h = refl
none_swapped (t ∷ []) h = refl
none_swapped (t ∷ u ∷ us) h =
    elim (may_move t u) as (λ b. may_move t u ≡ b → swapped (t ∷ u ∷ us) ≡ t ∷ u ∷ us) [
      | true ↦ λ e. absurd (cc (sym h ∙ moves t u us e))
      | false ↦ λ e. keeps t u us e ∙ ap (λ rest. t ∷ rest) (none_swapped (u ∷ us) (sym (passes t u us e) ∙ h))
    ] refl
