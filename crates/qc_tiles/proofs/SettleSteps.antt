-- How a free block is joined with its neighbours, one side after the other.
use Rattle.std.proofs.Common.{subst, ◌≡◌, ℕ, ◌+◌, ◌*◌, ◌<◌, ◌≤◌, true, false, List, [], ◌∷◌, ◌++◌, length, take, drop, refl, sym, ap, ◌∙◌, arith, zero, suc, Option, Some, None}
use Rattle.qc_tiles.specs.declared.blocks.Block.{Block}
use Rattle.qc_tiles.specs.declared.blocks.Tile.{Tile}
use Rattle.qc_types.specs.Blocks.{least_block}
use Rattle.qc_tiles.specs.Tiles.{free_tile, CoversFrom, FreeApart, region_words, joined_to}
use Rattle.qc_tiles.specs.Kept.{tile_at}
use Rattle.qc_tiles.specs.Cells.{IsAt, block_at}
use Rattle.qc_tiles.specs.Sizes.{Indexed, by_size}
use Rattle.qc_tiles.specs.Settled.{IsHole, joined_at}
use Rattle.qc_tiles.proofs.Tilings.{AreLarge}
use Rattle.qc_tiles.proofs.Walks.{split_at, drop_at}
use Rattle.qc_tiles.proofs.Standing.{place_bounds, large_at, same_index}
use Rattle.qc_tiles.proofs.PlaceSteps.{swap_middle, front_each, back_each, each_three, begins}
use Rattle.qc_tiles.proofs.PlaceCuts.{next_first, split_two}
use Rattle.qc_tiles.proofs.PlaceReads.{block_at_is, block_at_some}

pub hole_at : (words : ℕ) (ts : List Tile) (free : Indexed) (block : Block) (k : ℕ) → IsHole words ts free block k → IsAt ts k block.first block.words
hole_at words ts free block k h = record { within = omega (arith, h.within); first = ap (λ (t : Tile). t.first) h.is; words = ap (λ (t : Tile). t.words) h.is }

pub rises : (first end : ℕ) (ts : List Tile) (j k : ℕ) → CoversFrom first end ts → AreLarge ts → j ≤ k → k < length ts → (tile_at ts j).first ≤ (tile_at ts k).first
rises first end [] j k h large low within = absurd (omega arith)
rises first end (t ∷ ts) zero k h large low within = omega (arith, h.0, (place_bounds first end (t ∷ ts) k h within).0)
rises first end (t ∷ ts) (suc j) zero h large low within = absurd (omega arith)
rises first end (t ∷ ts) (suc j) (suc k) h large low within = rises (first + t.words) end ts j k h.1 large.1 (omega arith) (omega arith)

drop_past : (ts : List Tile) (k : ℕ) → length ts ≤ k → drop k ts ≡ []
drop_past [] zero h = refl
drop_past [] (suc k) h = refl
drop_past (t ∷ ts) zero h = absurd (omega arith)
drop_past (t ∷ ts) (suc k) h = drop_past ts k (omega arith)

none_is_some : (t : Tile) (o : Option Tile) → o ≡ Some t → o ≡ None → ⊥
none_is_some t o e f = absurd (cc (sym e ∙ f))

not_above : (a b : ℕ) → (b < a → ⊥) → a ≤ b
not_above a b never = omega (arith, never)

not_upto : (a b : ℕ) → (a ≤ b → ⊥) → b < a
not_upto a b never = omega (arith, never)

-- nothing begins where the last block ends
pub next_none : (words : ℕ) (ts : List Tile) (k first size : ℕ) → CoversFrom 0 words ts → AreLarge ts → IsAt ts k first size → block_at (first + size) ts ≡ None → length ts ≤ k + 1
next_none words ts k first size h large at none = not_above (length ts) (k + 1) more
  where
    more : k + 1 < length ts → ⊥
    more within =
        let near : (tile_at ts (k + 1)).first ≡ first + size = omega (arith, next_first 0 words ts k h within, at.first, at.words) in
        none_is_some (tile_at ts (k + 1)) (block_at (first + size) ts) (ap (λ n. block_at n ts) (sym near) ∙ block_at_is 0 words ts (k + 1) h large within) none

-- what begins where the block ends is the next one
pub next_some : (words : ℕ) (ts : List Tile) (k first size : ℕ) (u : Tile) → CoversFrom 0 words ts → AreLarge ts → IsAt ts k first size → block_at (first + size) ts ≡ Some u → (k + 1 < length ts) × (tile_at ts (k + 1) ≡ u)
next_some words ts k first size u h large at some =
    let one = block_at_some (first + size) ts u some in
    let place : (tile_at ts one.0).first ≡ first + size = ap (λ (t : Tile). t.first) one.2 ∙ one.3 in
    let big = large_at ts k large at.within in
    let beyond : k < one.0 = not_upto one.0 k (λ low. omega (arith, rises 0 words ts one.0 k h large low at.within, place, at.first, at.words, big)) in
    let within : k + 1 < length ts = not_upto (length ts) (k + 1) (λ short. last one.0 beyond (omega (arith, one.1, short))) in
    let near : (tile_at ts (k + 1)).first ≡ first + size = omega (arith, next_first 0 words ts k h within, at.first, at.words) in
    let same : k + 1 ≡ one.0 = same_index 0 words ts (k + 1) one.0 h large within one.1 (near ∙ sym place) in
    (within, ap (tile_at ts) same ∙ one.2)
  where
    last : (j : ℕ) → k < j → j < k + 1 → ⊥
    last j above below = omega arith

pub upper_none : (words : ℕ) (ts : List Tile) (free : Indexed) (block : Block) (k : ℕ) → IsHole words ts free block k → block_at (block.first + block.words) ts ≡ None → drop (k + 1) ts ≡ []
upper_none words ts free block k h none = drop_past ts (k + 1) (next_none words ts k block.first block.words h.covers h.large (hole_at words ts free block k h) none)

pub upper_some : (words : ℕ) (ts : List Tile) (free : Indexed) (block : Block) (k : ℕ) (u : Tile) → IsHole words ts free block k → block_at (block.first + block.words) ts ≡ Some u → (k + 1 < length ts) × (tile_at ts (k + 1) ≡ u)
upper_some words ts free block k u h some = next_some words ts k block.first block.words u h.covers h.large (hole_at words ts free block k h) some

-- ---- the parts of a list whose middle changed

pub take_made : (ts : List Tile) (i : ℕ) (zs : List Tile) → i ≤ length ts → take i (take i ts ++ zs) ≡ take i ts
take_made ts zero zs h = refl
take_made [] (suc i) zs h = absurd (omega arith)
take_made (t ∷ ts) (suc i) zs h = ap (λ xs. t ∷ xs) (take_made ts i zs (omega arith))

pub tile_made : (ts : List Tile) (i : ℕ) (z : Tile) (zs : List Tile) → i ≤ length ts → tile_at (take i ts ++ (z ∷ zs)) i ≡ z
tile_made ts zero z zs h = refl
tile_made [] (suc i) z zs h = absurd (omega arith)
tile_made (t ∷ ts) (suc i) z zs h = tile_made ts i z zs (omega arith)

pub drop_made : (ts : List Tile) (i : ℕ) (z : Tile) (zs : List Tile) → i ≤ length ts → drop (i + 1) (take i ts ++ (z ∷ zs)) ≡ zs
drop_made ts zero z zs h = refl
drop_made [] (suc i) z zs h = absurd (omega arith)
drop_made (t ∷ ts) (suc i) z zs h = let e : suc i + 1 ≡ suc (i + 1) = omega arith in rw e (drop_made ts i z zs (omega arith))

pub length_made : (ts : List Tile) (i : ℕ) (z : Tile) (zs : List Tile) → i ≤ length ts → i + 1 ≤ length (take i ts ++ (z ∷ zs))
length_made ts zero z zs h = omega arith
length_made [] (suc i) z zs h = absurd (omega arith)
length_made (t ∷ ts) (suc i) z zs h = omega (arith, length_made ts i z zs (omega arith))

-- ---- two blocks as one

pub record IsPair (words : ℕ) (ts : List Tile) (i : ℕ) : Type 0 where
  pub within : i + 1 < length ts
  pub covers : CoversFrom 0 words ts
  pub large : AreLarge ts
  pub region : words ≤ 8388608
  pub low : FreeApart (take i ts)
  pub high : FreeApart (drop (i + 2) ts)

pub paired_hole : (words : ℕ) (ts : List Tile) (free : Indexed) (i : ℕ) (block : Block) → IsPair words ts i → block.first ≡ (tile_at ts i).first → block.words ≡ (tile_at ts i).words + (tile_at ts (i + 1)).words
    → free.blocks ≡ by_size (take i ts ++ drop (i + 2) ts) → words ≤ least_block * (length free.blocks + free.room)
    → IsHole words (take i ts ++ (free_tile block.first block.words ∷ drop (i + 2) ts)) free block i
paired_hole words ts free i block h first size blocks room =
    let low = take i ts in
    let high = drop (i + 2) ts in
    let lt : i ≤ length ts = omega (arith, h.within) in
    let lt1 : i < length ts = omega (arith, h.within) in
    let t = free_tile block.first block.words in
    let mid = tile_at ts i ∷ tile_at ts (i + 1) ∷ [] in
    let start : block.first ≡ 0 + region_words low = first ∙ begins words ts i h.covers lt1 in
    let covers : CoversFrom (0 + region_words low) (0 + region_words low + region_words mid) (t ∷ []) = (start, omega (arith, size)) in
    let large_a = large_at ts i h.large lt1 in
    record {
      within = length_made ts i t high lt;
      is = tile_made ts i t high lt;
      sizes = blocks ∙ sym (ap by_size (ap (λ xs. xs ++ drop (i + 1) (low ++ (t ∷ high))) (take_made ts i (t ∷ high) lt) ∙ ap (λ xs. low ++ xs) (drop_made ts i t high lt)));
      room = room;
      covers = swap_middle 0 words low mid high (t ∷ []) (subst (λ (xs : List Tile). CoversFrom 0 words xs) (split_two ts i h.within) h.covers) covers;
      large = each_three (λ u. least_block ≤ u.words) low (t ∷ []) high (front_each (λ u. least_block ≤ u.words) ts i h.large) (omega (arith, size, large_a), tt) (back_each (λ u. least_block ≤ u.words) ts (i + 2) h.large);
      region = h.region;
      low = subst (λ (xs : List Tile). FreeApart xs) (sym (take_made ts i (t ∷ high) lt)) h.low;
      high = subst (λ (xs : List Tile). FreeApart xs) (sym (drop_made ts i t high lt)) h.high;
    }

joins : (t u : Tile) (us : List Tile) → t.free ≡ true → u.free ≡ true → joined_to t (u ∷ us) ≡ free_tile t.first (t.words + u.words) ∷ us
joins t u us e f = rw (e, f) refl

joins_not : (t u : Tile) (us : List Tile) → u.free ≡ false → joined_to t (u ∷ us) ≡ t ∷ u ∷ us
joins_not t u us e = elim t.free as (λ b. t.free ≡ b → joined_to t (u ∷ us) ≡ t ∷ u ∷ us) [ true ↦ λ f. rw (f, e) refl | false ↦ λ f. rw f refl ] refl

pub joins_never : (t : Tile) (us : List Tile) → t.free ≡ false → joined_to t us ≡ t ∷ us
joins_never t [] e = refl
joins_never t (u ∷ us) e = rw e refl

-- a pair at which both are free
pub joined_pair : (ts : List Tile) (i : ℕ) → i + 1 < length ts → (tile_at ts i).free ≡ true → (tile_at ts (i + 1)).free ≡ true
    → joined_at i ts ≡ take i ts ++ (free_tile (tile_at ts i).first ((tile_at ts i).words + (tile_at ts (i + 1)).words) ∷ drop (i + 2) ts)
joined_pair ts i within a b =
    let two : (i + 1) + 1 ≡ i + 2 = omega arith in
    let rest : drop (i + 1) ts ≡ tile_at ts (i + 1) ∷ drop (i + 2) ts = rw two at (drop_at ts (i + 1) within) in
    ap (λ xs. take i ts ++ joined_to (tile_at ts i) xs) rest ∙ ap (λ xs. take i ts ++ xs) (joins (tile_at ts i) (tile_at ts (i + 1)) (drop (i + 2) ts) a b)

pub joined_at-upper : (ts : List Tile) (k : ℕ) (u : Tile) → k + 1 < length ts → tile_at ts (k + 1) ≡ u → u.free ≡ false → ts ≡ joined_at k ts
joined_at-upper ts k u within is used =
    let two : (k + 1) + 1 ≡ k + 2 = omega arith in
    let rest : drop (k + 1) ts ≡ tile_at ts (k + 1) ∷ drop (k + 2) ts = rw two at (drop_at ts (k + 1) within) in
    let not_free : (tile_at ts (k + 1)).free ≡ false = ap (λ (t : Tile). t.free) is ∙ used in
    split_at ts k (omega arith) ∙ ap (λ xs. take k ts ++ xs) (ap (λ xs. tile_at ts k ∷ xs) rest ∙ (sym (joins_not (tile_at ts k) (tile_at ts (k + 1)) (drop (k + 2) ts) not_free) ∙ ap (joined_to (tile_at ts k)) (sym rest)))

pub joined_at-last : (ts : List Tile) (k : ℕ) → k < length ts → drop (k + 1) ts ≡ [] → ts ≡ joined_at k ts
joined_at-last ts k within none =
    split_at ts k within ∙ ap (λ xs. take k ts ++ xs) (ap (λ xs. tile_at ts k ∷ xs) none ∙ ap (joined_to (tile_at ts k)) (sym none))

pub joined_at-lower : (ts : List Tile) (j : ℕ) → j < length ts → (tile_at ts j).free ≡ false → ts ≡ joined_at j ts
joined_at-lower ts j within used = split_at ts j within ∙ ap (λ xs. take j ts ++ xs) (sym (joins_never (tile_at ts j) (drop (j + 1) ts) used))
