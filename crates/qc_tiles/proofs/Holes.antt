-- Lists with one free block that isn't in the index, and blocks that are handed out.
use Rattle.std.proofs.Common.{length-append, subst, ◌≡◌, ℕ, ◌+◌, ◌*◌, ◌-◌, ◌<◌, ◌≤◌, Bool, true, false, List, [], ◌∷◌, ◌++◌, length, take, drop, set, refl, sym, ap, ◌∙◌, arith, zero, suc, Option, Some, None, option_map, append_assoc}
use Rattle.std.proofs.lemmas.Bool.{le-leb, lt-leb}
use Rattle.qc_tiles.specs.declared.blocks.Block.{Block}
use Rattle.qc_tiles.specs.declared.blocks.Tile.{Tile}
use Rattle.qc_types.specs.Blocks.{least_block}
use Rattle.qc_tiles.specs.Tiles.{tile, free_tile, block_of, CoversFrom, FreeApart, IsTiling, region_words, cut, cut_words, best}
use Rattle.qc_tiles.specs.Kept.{tile_at, InHand}
use Rattle.qc_tiles.specs.Cells.{IsAt}
use Rattle.qc_tiles.specs.Sizes.{Indexed, by_size, insert_block, added, block_words, Parts, first_of}
use Rattle.qc_tiles.specs.Settled.{IsHole, IsIndexed, IsFree, HandsOut}
use Rattle.qc_tiles.proofs.Tilings.{AreLarge, covers_words, words_append}
use Rattle.qc_tiles.proofs.Walks.{split_at, free_words-bound}
use Rattle.qc_tiles.proofs.Edits.{set_is, cut_whole}
use Rattle.qc_tiles.proofs.Keeps.{apart_front, apart_tail, apart_back}
use Rattle.qc_tiles.proofs.Standing.{place_bounds, large_at, each_at, best_at}
use Rattle.qc_tiles.proofs.Calls.{IsBest, is_best}
use Rattle.qc_tiles.proofs.PlaceSteps.{swap_middle, front_each, back_each, each_three, begins}
use Rattle.qc_tiles.proofs.Sorting.{by_size-middle, by_size-sorted, by_size-words, insert-length}
use Rattle.qc_tiles.proofs.Fits.{first_fitting, best-fitting}

-- the parts of a tiling round one of its blocks
pub record Round (words : ℕ) (ts : List Tile) (k : ℕ) : Type 0 where
  pub split : ts ≡ take k ts ++ (tile_at ts k ∷ drop (k + 1) ts)
  pub start : (tile_at ts k).first ≡ 0 + region_words (take k ts)
  pub length : length (take k ts) ≡ k
  pub large_low : AreLarge (take k ts)
  pub large_high : AreLarge (drop (k + 1) ts)
  pub large : least_block ≤ (tile_at ts k).words
  pub apart : FreeApart (take k ts ++ (tile_at ts k ∷ drop (k + 1) ts))
  pub high : FreeApart (drop (k + 1) ts)
  pub fits : (tile_at ts k).first + (tile_at ts k).words ≤ words

pub take-length : (ts : List Tile) (k : ℕ) → k ≤ length ts → length (take k ts) ≡ k
take-length ts zero h = refl
take-length [] (suc k) h = absurd (omega arith)
take-length (t ∷ ts) (suc k) h = ap (λ n. suc n) (take-length ts k (omega arith))

pub round : (words : ℕ) (ts : List Tile) (k : ℕ) → IsTiling words ts → k < length ts → Round words ts k
round words ts k h within =
    let split = split_at ts k within in
    let apart : FreeApart (take k ts ++ (tile_at ts k ∷ drop (k + 1) ts)) = subst (λ (xs : List Tile). FreeApart xs) split h.apart in
    record {
      split = split;
      start = begins words ts k h.covers within;
      length = take-length ts k (omega arith);
      large_low = front_each (λ u. least_block ≤ u.words) ts k h.large;
      large_high = back_each (λ u. least_block ≤ u.words) ts (k + 1) h.large;
      large = large_at ts k h.large within;
      apart = apart;
      high = apart_tail (tile_at ts k) (drop (k + 1) ts) (apart_back (take k ts) (tile_at ts k ∷ drop (k + 1) ts) apart);
      fits = (place_bounds 0 words ts k h.covers within).1;
    }

-- other blocks cover what the block covered
pub round_covers : (words : ℕ) (ts : List Tile) (k : ℕ) (zs : List Tile) → IsTiling words ts → k < length ts → CoversFrom (tile_at ts k).first ((tile_at ts k).first + (tile_at ts k).words) zs → CoversFrom 0 words (take k ts ++ (zs ++ drop (k + 1) ts))
round_covers words ts k zs h within covers =
    let r = round words ts k h within in
    let t = tile_at ts k in
    let stop : t.first + t.words ≡ 0 + region_words (take k ts) + region_words (t ∷ []) = omega (arith, r.start) in
    swap_middle 0 words (take k ts) (t ∷ []) (drop (k + 1) ts) zs (subst (λ (xs : List Tile). CoversFrom 0 words xs) r.split h.covers)
    (subst (λ (m : ℕ). CoversFrom (0 + region_words (take k ts)) m zs) stop (subst (λ (m : ℕ). CoversFrom m (t.first + t.words) zs) r.start covers))

-- the front of a list of which a used or free block is the last
front_apart : (xs ys : List Tile) → FreeApart (xs ++ ys) → FreeApart xs
front_apart [] ys h = tt
front_apart (x ∷ []) ys h = tt
front_apart (x ∷ y ∷ xs) ys h = (h.0, front_apart (y ∷ xs) ys h.1)

front_is : (low zs : List Tile) → take (length low) (low ++ zs) ≡ low
front_is [] zs = refl
front_is (x ∷ low) zs = ap (λ xs. x ∷ xs) (front_is low zs)

middle_is : (low : List Tile) (z : Tile) (zs : List Tile) → tile_at (low ++ (z ∷ zs)) (length low) ≡ z
middle_is [] z zs = refl
middle_is (x ∷ low) z zs = middle_is low z zs

back_is : (low : List Tile) (z : Tile) (zs : List Tile) → drop (length low + 1) (low ++ (z ∷ zs)) ≡ zs
back_is [] z zs = refl
back_is (x ∷ low) z zs = let e : suc (length low) + 1 ≡ suc (length low + 1) = omega arith in rw e (back_is low z zs)

pub hole_between : (words : ℕ) (low high : List Tile) (free : Indexed) (block : Block) → free.blocks ≡ by_size (low ++ high) → words ≤ least_block * (length free.blocks + free.room) → CoversFrom 0 words (low ++ (free_tile block.first block.words ∷ high)) → AreLarge low → least_block ≤ block.words → AreLarge high
    → words ≤ 8388608 → FreeApart low → FreeApart high → IsHole words (low ++ (free_tile block.first block.words ∷ high)) free block (length low)
hole_between words low high free block sizes room covers large_low large large_high region apart_low apart_high =
    let t = free_tile block.first block.words in
    record {
      within = omega (arith, length-append low (t ∷ high));
      is = middle_is low t high;
      sizes = sizes ∙ sym (ap by_size (ap (λ xs. xs ++ drop (length low + 1) (low ++ (t ∷ high))) (front_is low (t ∷ high)) ∙ ap (λ xs. low ++ xs) (back_is low t high)));
      room = room;
      covers = covers;
      large = each_three (λ u. least_block ≤ u.words) low (t ∷ []) high large_low (large, tt) large_high;
      region = region;
      low = subst (λ (xs : List Tile). FreeApart xs) (sym (front_is low (t ∷ high))) apart_low;
      high = subst (λ (xs : List Tile). FreeApart xs) (sym (back_is low t high)) apart_high;
    }

added_used : (t : Tile) (bs : List Block) → t.free ≡ false → added t bs ≡ bs
added_used t bs e = rw e refl

added_free : (t : Tile) (bs : List Block) → t.free ≡ true → added t bs ≡ insert_block (block_of t) bs
added_free t bs e = rw e refl

-- a used block isn't in the index
pub without_used : (low : List Tile) (t : Tile) (high : List Tile) → t.free ≡ false → by_size (low ++ (t ∷ high)) ≡ by_size (low ++ high)
without_used low t high e = by_size-middle low t high ∙ added_used t (by_size (low ++ high)) e

pub with_free : (low : List Tile) (t : Tile) (high : List Tile) → t.free ≡ true → by_size (low ++ (t ∷ high)) ≡ insert_block (block_of t) (by_size (low ++ high))
with_free low t high e = by_size-middle low t high ∙ added_free t (by_size (low ++ high)) e

-- ---- a block that was handed out becomes free

pub hole_given : (words : ℕ) (ts : List Tile) (free : Indexed) (block : Block) (k : ℕ) → IsTiling words ts → words ≤ 8388608 → IsIndexed words ts free → InHand ts block k → IsHole words (set ts k (free_tile block.first block.words)) free block k
hole_given words ts free block k h region index hand =
    let r = round words ts k h hand.within in
    let t = free_tile block.first block.words in
    let made : set ts k t ≡ take k ts ++ (t ∷ drop (k + 1) ts) = set_is ts k t hand.within in
    let sizes : free.blocks ≡ by_size (take k ts ++ drop (k + 1) ts) = index.sizes ∙ (ap by_size r.split ∙ without_used (take k ts) (tile_at ts k) (drop (k + 1) ts) hand.used) in
    let stop : (tile_at ts k).first + block.words ≡ (tile_at ts k).first + (tile_at ts k).words = omega (arith, hand.words) in
    let hole = hole_between words (take k ts) (drop (k + 1) ts) free block sizes index.room (round_covers words ts k (t ∷ []) h hand.within (sym hand.first, stop)) r.large_low (omega (arith, r.large, hand.words)) r.large_high region (front_apart (take k ts) (tile_at ts k ∷ drop (k + 1) ts) r.apart) r.high in
    subst (λ (n : ℕ). IsHole words (set ts k t) free block n) r.length (subst (λ (xs : List Tile). IsHole words xs free block (length (take k ts))) (sym made) hole)

-- ---- the rest of a block that is cut

pub hole_behind : (words : ℕ) (ts : List Tile) (free : Indexed) (front back : Tile) (block : Block) (k : ℕ) → IsTiling words ts → words ≤ 8388608 → IsIndexed words ts free → k < length ts → (tile_at ts k).free ≡ false
    → front.free ≡ false → front.first ≡ (tile_at ts k).first → back ≡ free_tile block.first block.words → block.first ≡ front.first + front.words → front.words + block.words ≡ (tile_at ts k).words → least_block ≤ front.words → least_block ≤ block.words
    → IsHole words (take k ts ++ (front ∷ back ∷ drop (k + 1) ts)) free block (k + 1)
hole_behind words ts free front back block k h region index within used front_used first back_is behind sum front_large back_large =
    let r = round words ts k h within in
    let low = take k ts ++ (front ∷ []) in
    let high = drop (k + 1) ts in
    let t = free_tile block.first block.words in
    let shape : low ++ (t ∷ high) ≡ take k ts ++ (front ∷ back ∷ high) = append_assoc (take k ts) (front ∷ []) (t ∷ high) ∙ ap (λ (x : Tile). take k ts ++ (front ∷ x ∷ high)) (sym back_is) in
    let sizes : free.blocks ≡ by_size (low ++ high) = index.sizes ∙ (ap by_size r.split ∙ (without_used (take k ts) (tile_at ts k) high used
    ∙ (sym (without_used (take k ts) front high front_used) ∙ ap by_size (sym (append_assoc (take k ts) (front ∷ []) high))))) in
    let two : CoversFrom (tile_at ts k).first ((tile_at ts k).first + (tile_at ts k).words) (front ∷ t ∷ []) = (first, (omega (arith, behind, first), omega (arith, sum))) in
    let covers : CoversFrom 0 words (low ++ (t ∷ high)) = subst (λ (xs : List Tile). CoversFrom 0 words xs) (sym (append_assoc (take k ts) (front ∷ []) (t ∷ high))) (round_covers words ts k (front ∷ t ∷ []) h within two) in
    let large_low : AreLarge low = each_three (λ u. least_block ≤ u.words) (take k ts) (front ∷ []) [] r.large_low (front_large, tt) tt in
    let apart_low : FreeApart low = apart_front (take k ts) (tile_at ts k ∷ high) (front ∷ []) r.apart (λ _. front_used) tt in
    let hole = hole_between words low high free block sizes index.room covers large_low back_large r.large_high region apart_low r.high in
    let count : length low ≡ k + 1 = length-append (take k ts) (front ∷ []) ∙ ap (λ n. n + 1) r.length in
    subst (λ (n : ℕ). IsHole words (take k ts ++ (front ∷ back ∷ high)) free block n) count (subst (λ (xs : List Tile). IsHole words xs free block (length low)) shape hole)

-- ---- handing out

-- a free block of a tiling, as it stands in the index
pub free_indexed : (words : ℕ) (ts : List Tile) (free : Indexed) (block : Block) (k wanted : ℕ) → IsFree words ts free block k wanted → free.blocks ≡ insert_block block (by_size (take k ts ++ drop (k + 1) ts))
free_indexed words ts free block k wanted h =
    h.indexed.sizes ∙ (ap by_size (split_at ts k h.within) ∙ (ap (λ (t : Tile). by_size (take k ts ++ (t ∷ drop (k + 1) ts))) h.is ∙ with_free (take k ts) (free_tile block.first block.words) (drop (k + 1) ts) refl))

pub free_at : (words : ℕ) (ts : List Tile) (free : Indexed) (block : Block) (k wanted : ℕ) → IsFree words ts free block k wanted → IsAt ts k block.first block.words
free_at words ts free block k wanted h = record { within = h.within; first = ap (λ (t : Tile). t.first) h.is; words = ap (λ (t : Tile). t.words) h.is }

-- after it is taken out
pub record Out (words : ℕ) (ts : List Tile) (free : Indexed) (block : Block) (k : ℕ) : Type 0 where
  pub blocks : free.blocks ≡ by_size (take k ts ++ drop (k + 1) ts)
  pub room : words ≤ least_block * (length free.blocks + free.room)
  pub spare : 0 < free.room
  pub fits : block_words free.blocks + block.words ≤ words

pub taken_out : (words : ℕ) (ts : List Tile) (free out : Indexed) (block : Block) (k wanted : ℕ) → IsFree words ts free block k wanted → out ≡ record { blocks = by_size (take k ts ++ drop (k + 1) ts); room = free.room + 1 } → Out words ts out block k
taken_out words ts free out block k wanted h is =
    let low = take k ts in
    let high = drop (k + 1) ts in
    let blocks = ap (λ (i : Indexed). i.blocks) is in
    let more : length free.blocks ≡ length (by_size (low ++ high)) + 1 = ap length (free_indexed words ts free block k wanted h) ∙ insert-length block (by_size (low ++ high)) in
    let sum : region_words ts ≡ region_words low + ((tile_at ts k).words + region_words high) = ap region_words (split_at ts k h.within) ∙ words_append low (tile_at ts k ∷ high) in
    record {
      blocks = blocks;
      room = omega (arith, h.indexed.room, more, ap length blocks, ap (λ (i : Indexed). i.room) is);
      spare = omega (arith, ap (λ (i : Indexed). i.room) is);
      fits = omega (arith, ap block_words blocks, by_size-words (low ++ high), free_words-bound (low ++ high), words_append low high, sum, ap (λ (t : Tile). t.words) h.is, covers_words 0 words ts h.tiling.covers);
    }

whole_words : (wanted words : ℕ) → words < wanted + least_block → cut_words wanted words ≡ words
whole_words wanted words h = rw (lt-leb (wanted + least_block) words h) refl

front_words : (wanted words : ℕ) → wanted + least_block ≤ words → cut_words wanted words ≡ wanted
front_words wanted words h = rw (le-leb (wanted + least_block) words h) refl

cut_two : (wanted : ℕ) (pinned : Bool) (t : Tile) → wanted + least_block ≤ t.words → cut wanted pinned t ≡ tile t.first wanted false pinned ∷ free_tile (t.first + wanted) (t.words - wanted) ∷ []
cut_two wanted pinned t h = rw (le-leb (wanted + least_block) t.words h) refl

pub hands_whole : (words k wanted : ℕ) (ts new : List Tile) (free out : Indexed) (block : Block) → IsFree words ts free block k wanted → Out words ts out block k → block.words < wanted + least_block → new ≡ set ts k (tile block.first block.words false false) → HandsOut words k wanted ts new out block block
hands_whole words k wanted ts new free out block h o small made =
    let t = tile block.first block.words false false in
    let shape : new ≡ take k ts ++ (t ∷ drop (k + 1) ts) = made ∙ set_is ts k t h.within in
    let one : cut wanted false (tile_at ts k) ≡ t ∷ [] = ap (cut wanted false) h.is ∙ cut_whole wanted false (free_tile block.first block.words) small in
    let size : block ≡ record { first = block.first; words = cut_words wanted block.words } = rw (whole_words wanted block.words small) refl in
    record {
      tiles = shape ∙ ap (λ xs. take k ts ++ (xs ++ drop (k + 1) ts)) (sym one);
      indexed = record { sizes = o.blocks ∙ (sym (without_used (take k ts) t (drop (k + 1) ts) refl) ∙ ap by_size (sym shape)); room = o.room };
      block = size;
    }

pub hands_front : (words k wanted : ℕ) (ts new : List Tile) (free out index : Indexed) (block : Block) → IsFree words ts free block k wanted → Out words ts out block k → wanted + least_block ≤ block.words
    → new ≡ take k ts ++ (tile block.first wanted false false ∷ free_tile (block.first + wanted) (block.words - wanted) ∷ drop (k + 1) ts)
    → index ≡ record { blocks = insert_block (record { first = block.first + wanted; words = block.words - wanted }) out.blocks; room = out.room - 1 } → HandsOut words k wanted ts new index block (record { first = block.first; words = wanted })
hands_front words k wanted ts new free out index block h o large made is =
    let front = tile block.first wanted false false in
    let back = free_tile (block.first + wanted) (block.words - wanted) in
    let rest : Block = record { first = block.first + wanted; words = block.words - wanted } in
    let two : cut wanted false (tile_at ts k) ≡ front ∷ back ∷ [] = ap (cut wanted false) h.is ∙ cut_two wanted false (free_tile block.first block.words) large in
    let size : ◌≡◌ {A = Block} (record { first = block.first; words = wanted }) (record { first = block.first; words = cut_words wanted block.words }) = rw (front_words wanted block.words large) refl in
    let all : by_size new ≡ insert_block rest out.blocks = ap by_size made ∙ (without_used (take k ts) front (back ∷ drop (k + 1) ts) refl ∙ (with_free (take k ts) back (drop (k + 1) ts) refl ∙ ap (insert_block rest) (sym o.blocks))) in
    let more : length index.blocks ≡ length out.blocks + 1 = ap (λ (i : Indexed). length i.blocks) is ∙ insert-length rest out.blocks in
    record {
      tiles = made ∙ ap (λ xs. take k ts ++ (xs ++ drop (k + 1) ts)) (sym two);
      indexed = record { sizes = ap (λ (i : Indexed). i.blocks) is ∙ sym all; room = omega (arith, o.room, o.spare, more, ap (λ (i : Indexed). i.room) is) };
      block = size;
    }

-- ---- the block that is taken

unpinned_free : (t : Tile) → t.free ≡ true → t.pinned ≡ false → t ≡ free_tile t.first t.words
unpinned_free t e f = rw (← e, ← f) refl

pub record Picked (words need : ℕ) (ts : List Tile) (index : Indexed) (from : Block) : Type 0 where
  pub at : ℕ
  pub within : at < length ts
  pub best : IsBest need ts at
  pub is_free : IsFree words ts index from at need
  pub same : block_of (tile_at ts at) ≡ from

some_of : (o : Option Tile) (b : Block) → option_map block_of o ≡ Some b → (t : Tile) × (o ≡ Some t) × (block_of t ≡ b)
some_of None b h = absurd (cc h)
some_of (Some t) b h = (t, refl, cc h)

pub none_of : (o : Option Tile) → option_map block_of o ≡ None → o ≡ None
none_of None h = refl
none_of (Some t) h = absurd (cc h)

pub picked_is : (words need : ℕ) (ts : List Tile) (free : Indexed) (result : Option Block) → IsTiling words ts → IsIndexed words ts free → Parts 0 need free.blocks (λ low high. result ≡ first_of high) → result ≡ option_map block_of (best need ts)
picked_is words need ts free result h index parts =
    let own : Parts 0 need (by_size ts) (λ low high. result ≡ first_of high) = subst (λ (bs : List Block). Parts 0 need bs (λ low high. result ≡ first_of high)) index.sizes parts in
    first_fitting need (by_size ts) result (by_size-sorted ts) own ∙ sym (best-fitting need 0 words ts h.covers h.large)

pub picked : (words need : ℕ) (ts : List Tile) (free : Indexed) (block : Block) → IsTiling words ts → words ≤ 8388608 → IsIndexed words ts free → least_block ≤ need → option_map block_of (best need ts) ≡ Some block → Picked words need ts free block
picked words need ts free block h region index some is =
    let one = some_of (best need ts) block is in
    let p = best_at need ts one.0 one.1 in
    let at = p.0 in
    let is_best : IsBest need ts at = is_best need ts at (one.1 ∙ ap (λ t. Some t) (sym p.1.is)) in
    let same : block_of (tile_at ts at) ≡ block = ap block_of p.1.is ∙ one.2 in
    let unpinned = each_at (λ t. t.free ≡ true → t.pinned ≡ false) ts at h.unpinned p.1.within is_best.free in
    let tile_is : tile_at ts at ≡ free_tile block.first block.words = unpinned_free (tile_at ts at) is_best.free unpinned ∙ ap (λ (b : Block). free_tile b.first b.words) same in
    record {
      at = at;
      within = p.1.within;
      best = is_best;
      is_free = record { tiling = h; region = region; indexed = index; within = p.1.within; is = tile_is; some = some; holds = omega (arith, is_best.holds, ap (λ (b : Block). b.words) same) };
      same = same;
    }
