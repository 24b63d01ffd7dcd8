-- What the calls on a list of blocks leave, as the definitions say it.
use Rattle.std.proofs.Common.{subst, ◌≡◌, ℕ, ◌+◌, ◌*◌, ◌<◌, ◌≤◌, Bool, true, false, List, [], ◌∷◌, ◌++◌, take, drop, set, refl, sym, ap, ◌∙◌, zero, suc, Some, None}
use Rattle.qc_tiles.specs.declared.blocks.Tile.{Tile}
use Rattle.qc_tiles.specs.declared.blocks.Block.{Block}
use Rattle.qc_types.specs.Blocks.{raised}
use Rattle.qc_tiles.specs.Tiles.{tile, free_tile, IsTiling, region_words, replaced, cut, cut_words, best, taken, after_take, after_pin}
use Rattle.qc_tiles.specs.Kept.{tile_at, InHand}
use Rattle.qc_tiles.proofs.Tilings.{tiling_words}
use Rattle.qc_tiles.proofs.Edits.{set_is}
use Rattle.qc_tiles.proofs.Standing.{replaced_at, best_at}

-- the same words, told by the list itself
pub own_tiling : (words : ℕ) (ts : List Tile) → IsTiling words ts → IsTiling (region_words ts) ts
own_tiling words ts h = subst (λ (n : ℕ). IsTiling n ts) (tiling_words words ts h) h

-- a tiling of the same words, told by the list before
pub told_tiling : (words : ℕ) (ts us : List Tile) → IsTiling words ts → IsTiling words us → IsTiling (region_words ts) us
told_tiling words ts us h k = subst (λ (n : ℕ). IsTiling n us) (tiling_words words ts h) k

-- a block is replaced by others
pub replaced_block : (words : ℕ) (ts : List Tile) (b : Block) (k : ℕ) (f : Tile → List Tile) → IsTiling words ts → InHand ts b k → replaced b.first f ts ≡ take k ts ++ (f (tile_at ts k) ++ drop (k + 1) ts)
replaced_block words ts b k f h hand =
    ap (λ n. replaced n f ts) (sym hand.first) ∙ replaced_at 0 words f ts k h.covers h.large hand.within

pub given_back : (words : ℕ) (ts : List Tile) (b : Block) (k : ℕ) → IsTiling words ts → InHand ts b k → set ts k (free_tile b.first b.words) ≡ replaced b.first (λ t. free_tile t.first t.words ∷ []) ts
given_back words ts b k h hand =
    set_is ts k (free_tile b.first b.words) hand.within
    ∙ rw (replaced_block words ts b k (λ t. free_tile t.first t.words ∷ []) h hand, hand.first, hand.words) refl

pub pinned_as : (words : ℕ) (ts : List Tile) (b : Block) (k : ℕ) (p : Bool) → IsTiling words ts → InHand ts b k → set ts k (tile b.first b.words false p) ≡ after_pin p b.first ts
pinned_as words ts b k p h hand =
    set_is ts k (tile b.first b.words false p) hand.within
    ∙ rw (replaced_block words ts b k (λ t. tile t.first t.words false p ∷ []) h hand, hand.first, hand.words) refl

pub trimmed_as : (words used : ℕ) (ts : List Tile) (b : Block) (k : ℕ) → IsTiling words ts → InHand ts b k
    → take k ts ++ (cut (raised used) (tile_at ts k).pinned (tile_at ts k) ++ drop (k + 1) ts) ≡ replaced b.first (λ t. cut (raised used) t.pinned t) ts
trimmed_as words used ts b k h hand = sym (replaced_block words ts b k (λ t. cut (raised used) t.pinned t) h hand)

-- ---- the best block

pub record IsBest (need : ℕ) (ts : List Tile) (k : ℕ) : Type 0 where
  pub best : best need ts ≡ Some (tile_at ts k)
  pub free : (tile_at ts k).free ≡ true
  pub holds : need ≤ (tile_at ts k).words

pub is_best : (need : ℕ) (ts : List Tile) (k : ℕ) → best need ts ≡ Some (tile_at ts k) → IsBest need ts k
is_best need ts k e =
    let one = best_at need ts (tile_at ts k) e in
    record { best = e; free = one.1.free; holds = one.1.large }

pub taken_block : (need : ℕ) (ts : List Tile) (k : ℕ) → IsBest (raised need) ts k → taken need ts ≡ Some (record { first = (tile_at ts k).first; words = cut_words (raised need) (tile_at ts k).words })
taken_block need ts k h = rw h.best refl

pub not_taken : (need : ℕ) (ts : List Tile) → best (raised need) ts ≡ None → (taken need ts ≡ None) × (after_take need ts ≡ ts)
not_taken need ts e = rw e (refl, refl)
