-- One side after the other, and the whole.
use Rattle.std.proofs.Common.{length-append, subst, ◌≡◌, ℕ, ◌+◌, ◌-◌, ◌<◌, ◌≤◌, true, false, List, [], ◌∷◌, ◌++◌, length, take, drop, refl, sym, ap, ◌∙◌, arith, zero, suc, Some, None, append_assoc}
use Rattle.qc_tiles.specs.declared.blocks.Block.{Block}
use Rattle.qc_tiles.specs.declared.blocks.Tile.{Tile}
use Rattle.qc_tiles.specs.Tiles.{free_tile, block_of, FreeApart, region_words, joined, joined_to}
use Rattle.qc_tiles.specs.Kept.{tile_at}
use Rattle.qc_tiles.specs.Cells.{IsAt, block_at, lower_of}
use Rattle.qc_tiles.specs.Sizes.{Indexed, by_size, insert_block, IsBySize, added, block_words}
use Rattle.qc_tiles.specs.Settled.{IsHole, WithUpper, WithLower, Settles, IsIndexed, joined_at, joined_below}
use Rattle.qc_tiles.proofs.Tilings.{covers_words, joined-apart, joined_apart, length_words, words_append}
use Rattle.qc_tiles.proofs.Walks.{split_at, drop_at, free_count-bound, free_words-bound}
use Rattle.qc_tiles.proofs.Keeps.{apart_front, apart_tail, head_free}
use Rattle.qc_tiles.proofs.PlaceCuts.{take_next}
use Rattle.qc_tiles.proofs.Sorting.{by_size-middle, by_size-sorted, by_size-count, by_size-words, insert-length}
use Rattle.qc_tiles.proofs.SettleSteps.{hole_at, upper_none, upper_some, take_made, tile_made, drop_made, IsPair, paired_hole, joined_pair, joined_at-upper, joined_at-last, joined_at-lower, joins_never}

-- ---- above

pub upper_alone : (words : ℕ) (ts : List Tile) (free : Indexed) (block : Block) (k : ℕ) → IsHole words ts free block k → block_at (block.first + block.words) ts ≡ None → WithUpper words k ts ts free block
upper_alone words ts free block k h none = record { hole = h; tiles = joined_at-last ts k (omega (arith, h.within)) (upper_none words ts free block k h none) }

pub upper_used : (words : ℕ) (ts : List Tile) (free : Indexed) (block : Block) (k : ℕ) (u : Tile) → IsHole words ts free block k → block_at (block.first + block.words) ts ≡ Some u → u.free ≡ false → WithUpper words k ts ts free block
upper_used words ts free block k u h some used =
    let one = upper_some words ts free block k u h some in
    record { hole = h; tiles = joined_at-upper ts k u one.0 one.1 used }

added_free : (t : Tile) (bs : List Block) → t.free ≡ true → added t bs ≡ insert_block (block_of t) bs
added_free t bs e = rw e refl

-- the next block is in the index
pub upper_indexed : (words : ℕ) (ts : List Tile) (free : Indexed) (block : Block) (k : ℕ) (u : Tile) → IsHole words ts free block k → block_at (block.first + block.words) ts ≡ Some u → u.free ≡ true → free.blocks ≡ insert_block (block_of u) (by_size (take k ts ++ drop (k + 2) ts))
upper_indexed words ts free block k u h some is_free =
    let one = upper_some words ts free block k u h some in
    let two : (k + 1) + 1 ≡ k + 2 = omega arith in
    let rest : drop (k + 1) ts ≡ u ∷ drop (k + 2) ts = rw (two, one.1) at (drop_at ts (k + 1) one.0) in
    h.sizes ∙ (ap (λ xs. by_size (take k ts ++ xs)) rest ∙ (by_size-middle (take k ts) u (drop (k + 2) ts) ∙ added_free u (by_size (take k ts ++ drop (k + 2) ts)) is_free))

pub upper_at : (words : ℕ) (ts : List Tile) (free : Indexed) (block : Block) (k : ℕ) (u : Tile) → IsHole words ts free block k → block_at (block.first + block.words) ts ≡ Some u → IsAt ts (k + 1) u.first u.words
upper_at words ts free block k u h some =
    let one = upper_some words ts free block k u h some in
    record { within = one.0; first = ap (λ (t : Tile). t.first) one.1; words = ap (λ (t : Tile). t.words) one.1 }

pub upper_joins : (words : ℕ) (ts new : List Tile) (free free_new : Indexed) (block : Block) (k : ℕ) (u : Tile) → IsHole words ts free block k → block_at (block.first + block.words) ts ≡ Some u → u.free ≡ true
    → new ≡ take k ts ++ (free_tile block.first (block.words + u.words) ∷ drop (k + 2) ts) → free_new ≡ record { blocks = by_size (take k ts ++ drop (k + 2) ts); room = free.room + 1 }
    → WithUpper words k ts new free_new (record { first = block.first; words = block.words + u.words })
upper_joins words ts new free free_new block k u h some is_free made index =
    let one = upper_some words ts free block k u h some in
    let at = hole_at words ts free block k h in
    let two : (k + 1) + 1 ≡ k + 2 = omega arith in
    let rest : drop (k + 1) ts ≡ u ∷ drop (k + 2) ts = rw (two, one.1) at (drop_at ts (k + 1) one.0) in
    let other : by_size (take k ts ++ drop (k + 2) ts) ≡ free_new.blocks = sym (ap (λ (i : Indexed). i.blocks) index) in
    let more : length free.blocks ≡ length (by_size (take k ts ++ drop (k + 2) ts)) + 1 = ap length (upper_indexed words ts free block k u h some is_free) ∙ insert-length (block_of u) (by_size (take k ts ++ drop (k + 2) ts)) in
    let pair : IsPair words ts k = record { within = one.0; covers = h.covers; large = h.large; region = h.region; low = h.low; high = apart_tail u (drop (k + 2) ts) (subst (λ (xs : List Tile). FreeApart xs) rest h.high) } in
    let hole = paired_hole words ts free_new k (record { first = block.first; words = block.words + u.words }) pair (sym at.first) (omega (arith, at.words, ap (λ (t : Tile). t.words) one.1)) (sym other)
    (omega (arith, h.room, more, ap length other, ap (λ (i : Indexed). i.room) index)) in
    let here : tile_at ts k ≡ free_tile block.first block.words = h.is in
    let whole : free_tile (tile_at ts k).first ((tile_at ts k).words + (tile_at ts (k + 1)).words) ≡ free_tile block.first (block.words + u.words) = rw (here, one.1) refl in
    let tiles = joined_pair ts k one.0 (ap (λ (t : Tile). t.free) here) (ap (λ (t : Tile). t.free) one.1 ∙ is_free) in
    record {
      hole = subst (λ (xs : List Tile). IsHole words xs free_new (record { first = block.first; words = block.words + u.words }) k) (sym made) hole;
      tiles = made ∙ sym (tiles ∙ ap (λ (t : Tile). take k ts ++ (t ∷ drop (k + 2) ts)) whole);
    }

none_lower : (k : ℕ) (ts : List Tile) → lower_of k ts ≡ None → k ≡ 0
none_lower zero ts h = refl
none_lower (suc j) ts h = absurd (cc h)

lower_first : (words k : ℕ) (ts : List Tile) (free : Indexed) (block : Block) → IsHole words ts free block k → k ≡ 0 → WithLower words k ts ts free block
lower_first words zero ts free block h e = record { at = 0; hole = h; tiles = refl; same = refl; rest = []; front = refl }
lower_first words (suc k) ts free block h e = absurd (omega (arith, e))

pub lower_none : (words k : ℕ) (ts : List Tile) (free : Indexed) (block : Block) → IsHole words ts free block k → lower_of k ts ≡ None → WithLower words k ts ts free block
lower_none words k ts free block h none = lower_first words k ts free block h (none_lower k ts none)

append_none : (xs : List Tile) → xs ≡ xs ++ []
append_none [] = refl
append_none (x ∷ xs) = ap (λ ys. x ∷ ys) (append_none xs)

pub lower_used : (words k : ℕ) (ts : List Tile) (free : Indexed) (block : Block) (l : Tile) → IsHole words ts free block k → lower_of k ts ≡ Some l → l.free ≡ false → WithLower words k ts ts free block
lower_used words zero ts free block l h some used = absurd (cc some)
lower_used words (suc j) ts free block l h some used =
    let is : tile_at ts j ≡ l = cc some in
    record { at = suc j; hole = h; tiles = joined_at-lower ts j (omega (arith, h.within)) (ap (λ (t : Tile). t.free) is ∙ used); same = refl; rest = []; front = append_none (take (suc j) ts) }

take_suc : (ts : List Tile) (j : ℕ) (l : Tile) → j < length ts → tile_at ts j ≡ l → take (suc j) ts ≡ take j ts ++ (l ∷ [])
take_suc ts j l within is = let e : j + 1 ≡ suc j = omega arith in rw (e, is) at (take_next ts j within)

drop_suc : (ts : List Tile) (j : ℕ) → drop (suc j + 1) ts ≡ drop (j + 2) ts
drop_suc ts j = let e : suc j + 1 ≡ j + 2 = omega arith in rw e refl

lower_indexed_by : (words j : ℕ) (ts : List Tile) (free : Indexed) (block : Block) (l : Tile) → IsHole words ts free block (suc j) → tile_at ts j ≡ l → l.free ≡ true → free.blocks ≡ insert_block (block_of l) (by_size (take j ts ++ drop (j + 2) ts))
lower_indexed_by words j ts free block l h is is_free =
    let front : take (suc j) ts ≡ take j ts ++ (l ∷ []) = take_suc ts j l (omega (arith, h.within)) is in
    h.sizes ∙ (ap (λ xs. by_size (take (suc j) ts ++ xs)) (drop_suc ts j) ∙ (ap (λ xs. by_size (xs ++ drop (j + 2) ts)) front
    ∙ (ap by_size (append_assoc (take j ts) (l ∷ []) (drop (j + 2) ts)) ∙ (by_size-middle (take j ts) l (drop (j + 2) ts) ∙ added_free l (by_size (take j ts ++ drop (j + 2) ts)) is_free))))

-- the block in front, by its index
pub record IsLower (words k : ℕ) (ts : List Tile) (free : Indexed) (block : Block) (l : Tile) : Type 0 where
  pub at : ℕ
  pub here : IsAt ts at l.first l.words
  pub next : IsAt ts (at + 1) block.first block.words
  pub indexed : l.free ≡ true → free.blocks ≡ insert_block (block_of l) (by_size (take at ts ++ drop (at + 2) ts))

pub is_lower : (words k : ℕ) (ts : List Tile) (free : Indexed) (block : Block) (l : Tile) → IsHole words ts free block k → lower_of k ts ≡ Some l → IsLower words k ts free block l
is_lower words zero ts free block l h some = absurd (cc some)
is_lower words (suc j) ts free block l h some =
    let is : tile_at ts j ≡ l = cc some in
    let e : suc j ≡ j + 1 = omega arith in
    record {
      at = j;
      here = record { within = omega (arith, h.within); first = ap (λ (t : Tile). t.first) is; words = ap (λ (t : Tile). t.words) is };
      next = subst (λ (n : ℕ). IsAt ts n block.first block.words) e (hole_at words ts free block (suc j) h);
      indexed = λ is_free. lower_indexed_by words j ts free block l h is is_free;
    }

front_apart : (xs ys : List Tile) → FreeApart (xs ++ ys) → FreeApart xs
front_apart [] ys h = tt
front_apart (x ∷ []) ys h = tt
front_apart (x ∷ y ∷ xs) ys h = (h.0, front_apart (y ∷ xs) ys h.1)

lower_joins_by : (words j : ℕ) (ts new : List Tile) (free free_new : Indexed) (block : Block) (l : Tile) → IsHole words ts free block (suc j) → tile_at ts j ≡ l → l.free ≡ true
    → new ≡ take j ts ++ (free_tile l.first (l.words + block.words) ∷ drop (j + 2) ts) → free_new ≡ record { blocks = by_size (take j ts ++ drop (j + 2) ts); room = free.room + 1 }
    → WithLower words (suc j) ts new free_new (record { first = l.first; words = l.words + block.words })
lower_joins_by words j ts new free free_new block l h is is_free made index =
    let e : suc j ≡ j + 1 = omega arith in
    let lt : j ≤ length ts = omega (arith, h.within) in
    let within : j + 1 < length ts = omega (arith, h.within) in
    let next : tile_at ts (j + 1) ≡ free_tile block.first block.words = subst (λ (n : ℕ). tile_at ts n ≡ free_tile block.first block.words) e h.is in
    let front : take (suc j) ts ≡ take j ts ++ (l ∷ []) = take_suc ts j l (omega (arith, h.within)) is in
    let whole : Block = record { first = l.first; words = l.words + block.words } in
    let other : by_size (take j ts ++ drop (j + 2) ts) ≡ free_new.blocks = sym (ap (λ (i : Indexed). i.blocks) index) in
    let more : length free.blocks ≡ length (by_size (take j ts ++ drop (j + 2) ts)) + 1 = ap length (lower_indexed_by words j ts free block l h is is_free) ∙ insert-length (block_of l) (by_size (take j ts ++ drop (j + 2) ts)) in
    let pair : IsPair words ts j = record {
      within = within;
      covers = h.covers;
      large = h.large;
      region = h.region;
      low = front_apart (take j ts) (l ∷ []) (subst (λ (xs : List Tile). FreeApart xs) front h.low);
      high = subst (λ (xs : List Tile). FreeApart xs) (drop_suc ts j) h.high;
    } in
    let hole = paired_hole words ts free_new j whole pair (sym (ap (λ (t : Tile). t.first) is)) (omega (arith, ap (λ (t : Tile). t.words) is, ap (λ (t : Tile). t.words) next)) (sym other)
    (omega (arith, h.room, more, ap length other, ap (λ (i : Indexed). i.room) index)) in
    let t = free_tile l.first (l.words + block.words) in
    let both : free_tile (tile_at ts j).first ((tile_at ts j).words + (tile_at ts (j + 1)).words) ≡ t = rw (is, next) refl in
    let tiles = joined_pair ts j within (ap (λ (u : Tile). u.free) is ∙ is_free) (ap (λ (u : Tile). u.free) next) in
    record {
      at = j;
      hole = subst (λ (xs : List Tile). IsHole words xs free_new whole j) (sym made) hole;
      tiles = made ∙ sym (tiles ∙ ap (λ (u : Tile). take j ts ++ (u ∷ drop (j + 2) ts)) both);
      same = ap (drop (j + 1)) made ∙ (drop_made ts j t (drop (j + 2) ts) lt ∙ sym (drop_suc ts j));
      rest = l ∷ [];
      front = front ∙ ap (λ xs. xs ++ (l ∷ [])) (sym (ap (take j) made ∙ take_made ts j (t ∷ drop (j + 2) ts) lt));
    }

pub lower_joins : (words k : ℕ) (ts new : List Tile) (free free_new : Indexed) (block : Block) (l : Tile) (h : IsHole words ts free block k) (some : lower_of k ts ≡ Some l) → l.free ≡ true
    → ((i : ℕ) → IsAt ts i l.first l.words → IsAt ts (i + 1) block.first block.words → new ≡ take i ts ++ (free_tile l.first (l.words + block.words) ∷ drop (i + 2) ts))
    → ((others : List Block) → free.blocks ≡ insert_block (block_of l) others → IsBySize others → free_new ≡ record { blocks = others; room = free.room + 1 })
    → WithLower words k ts new free_new (record { first = l.first; words = l.words + block.words })
unfolding is_lower
lower_joins words zero ts new free free_new block l h some is_free made index = absurd (cc some)
lower_joins words (suc j) ts new free free_new block l h some is_free made index =
    let is : tile_at ts j ≡ l = cc some in
    let p = is_lower words (suc j) ts free block l h some in
    let sorted = by_size-sorted (take j ts ++ drop (j + 2) ts) in
    lower_joins_by words j ts new free free_new block l h is is_free (made j p.here p.next) (index (by_size (take j ts ++ drop (j + 2) ts)) (p.indexed is_free) sorted)

-- ---- the whole

joined-below : (xs zs : List Tile) → FreeApart (xs ++ joined zs) → joined (xs ++ zs) ≡ xs ++ joined zs
joined-below [] zs h = refl
joined-below (x ∷ xs) zs h =
    ap (joined_to x) (joined-below xs zs (apart_tail x (xs ++ joined zs) h)) ∙ stays x (xs ++ joined zs) h
  where
    stays : (t : Tile) (us : List Tile) → FreeApart (t ∷ us) → joined_to t us ≡ t ∷ us
    stays t us g = keeps t us g
      where
        keeps : (t : Tile) (us : List Tile) → FreeApart (t ∷ us) → joined_to t us ≡ t ∷ us
        keeps t [] g = refl
        keeps t (u ∷ us) g = elim t.free as (λ b. t.free ≡ b → joined_to t (u ∷ us) ≡ t ∷ u ∷ us) [ true ↦ λ e. rw (e, g.0 e) refl | false ↦ λ e. rw e refl ] refl

head_joined : (l : Tile) (us : List Tile) → l.free ≡ false → head_free (joined_to l us) ≡ false
head_joined l us e = rw (joins_never l us e) e

joined_to-apart : (ts : List Tile) (t : Tile) → FreeApart ts → joined (t ∷ ts) ≡ joined_to t ts
joined_to-apart ts t h = ap (joined_to t) (joined_apart ts h)

-- joining upwards and then downwards joins all
both_sides : (xs : List Tile) (l : Tile) (t : Tile) (ys : List Tile) → FreeApart (xs ++ (l ∷ [])) → FreeApart ys → xs ++ joined_to l (joined_to t ys) ≡ joined (xs ++ (l ∷ t ∷ ys))
both_sides xs l t ys low high =
    let inner : joined (l ∷ t ∷ ys) ≡ joined_to l (joined_to t ys) = ap (joined_to l) (joined_to-apart ys t high) in
    let apart : FreeApart (joined (l ∷ t ∷ ys)) = joined-apart (l ∷ t ∷ ys) in
    let whole : FreeApart (xs ++ joined (l ∷ t ∷ ys)) = apart_front xs (l ∷ []) (joined (l ∷ t ∷ ys)) low (λ e. head_joined l (joined (t ∷ ys)) e) apart in
    ap (λ zs. xs ++ zs) (sym inner) ∙ sym (joined-below xs (l ∷ t ∷ ys) whole)

joined_at_first : (t : Tile) (ys : List Tile) → FreeApart ys → joined_to t ys ≡ joined (t ∷ ys)
joined_at_first t ys h = sym (joined_to-apart ys t h)

sides_by : (ts : List Tile) (k : ℕ) → k < length ts → FreeApart (take k ts) → FreeApart (drop (k + 1) ts) → joined_below k (joined_at k ts) ≡ joined ts
sides_by ts zero within low high = joined_at_first (tile_at ts 0) (drop (0 + 1) ts) high ∙ ap joined (sym (split_at ts 0 within))
sides_by ts (suc j) within low high =
    let xs = take j ts in
    let l = tile_at ts j in
    let t = tile_at ts (suc j) in
    let ys = drop (suc j + 1) ts in
    let front : take (suc j) ts ≡ xs ++ (l ∷ []) = take_suc ts j l (omega arith) refl in
    let one : joined_at (suc j) ts ≡ xs ++ (l ∷ joined_to t ys) = ap (λ zs. zs ++ joined_to t ys) front ∙ append_assoc xs (l ∷ []) (joined_to t ys) in
    let lt : j ≤ length ts = omega arith in
    let two : joined_at j (joined_at (suc j) ts) ≡ xs ++ joined_to l (joined_to t ys) =
    ap (joined_at j) one ∙ (ap (λ zs. zs ++ joined_to (tile_at (xs ++ (l ∷ joined_to t ys)) j) (drop (j + 1) (xs ++ (l ∷ joined_to t ys)))) (take_made ts j (l ∷ joined_to t ys) lt)
    ∙ (ap (λ (u : Tile). xs ++ joined_to u (drop (j + 1) (xs ++ (l ∷ joined_to t ys)))) (tile_made ts j l (joined_to t ys) lt)
    ∙ ap (λ zs. xs ++ joined_to l zs) (drop_made ts j l (joined_to t ys) lt))) in
    let whole : ts ≡ xs ++ (l ∷ t ∷ ys) = split_at ts (suc j) within ∙ (ap (λ zs. zs ++ (t ∷ ys)) front ∙ append_assoc xs (l ∷ []) (t ∷ ys)) in
    two ∙ (both_sides xs l t ys (subst (λ (zs : List Tile). FreeApart zs) front low) high ∙ ap joined (sym whole))

pub indexed_more : (words : ℕ) (ts : List Tile) (free free_new : Indexed) (block : Block) (k : ℕ) → IsHole words ts free block k → 0 < free.room → free_new ≡ record { blocks = insert_block block free.blocks; room = free.room - 1 } → IsIndexed words ts free_new
indexed_more words ts free free_new block k h room index =
    let low = take k ts in
    let high = drop (k + 1) ts in
    let split : ts ≡ low ++ (free_tile block.first block.words ∷ high) = split_at ts k (omega (arith, h.within)) ∙ ap (λ (t : Tile). low ++ (t ∷ high)) h.is in
    let all : by_size ts ≡ insert_block block free.blocks = ap by_size split ∙ (by_size-middle low (free_tile block.first block.words) high ∙ ap (insert_block block) (sym h.sizes)) in
    let more : length free_new.blocks ≡ length free.blocks + 1 = ap (λ (i : Indexed). length i.blocks) index ∙ insert-length block free.blocks in
    record {
      sizes = ap (λ (i : Indexed). i.blocks) index ∙ sym all;
      room = omega (arith, h.room, more, ap (λ (i : Indexed). i.room) index, room);
    }

-- there is a spare node, and the sum of the words fits
pub hole_room : (words : ℕ) (ts : List Tile) (free : Indexed) (block : Block) (k : ℕ) → IsHole words ts free block k → (0 < free.room) × (block_words free.blocks + block.words ≤ words)
hole_room words ts free block k h =
    let low = take k ts in
    let high = drop (k + 1) ts in
    let split : ts ≡ low ++ (tile_at ts k ∷ high) = split_at ts k (omega (arith, h.within)) in
    let count : length free.blocks ≤ length (low ++ high) = omega (arith, ap length h.sizes, by_size-count (low ++ high), free_count-bound (low ++ high)) in
    let all : length ts ≡ length low + (length high + 1) = omega (arith, ap length split, length-append low (tile_at ts k ∷ high)) in
    let sum : region_words ts ≡ region_words low + ((tile_at ts k).words + region_words high) = ap region_words split ∙ words_append low (tile_at ts k ∷ high) in
    let rest : block_words free.blocks ≤ region_words (low ++ high) = omega (arith, ap block_words h.sizes, by_size-words (low ++ high), free_words-bound (low ++ high)) in
    (omega (arith, h.room, count, all, length-append low high, length_words ts h.large, covers_words 0 words ts h.covers), omega (arith, rest, sum, words_append low high, ap (λ (t : Tile). t.words) h.is, covers_words 0 words ts h.covers))

pub settled : (words k : ℕ) (ts mid new : List Tile) (free free_mid free_low free_new : Indexed) (one block : Block) → IsHole words ts free block k → ((w i : ℕ) → IsHole w ts free block i → WithUpper w i ts mid free_mid one)
    → (whole : Block) → ((w i : ℕ) → IsHole w mid free_mid one i → WithLower w i mid new free_low whole) → free_new ≡ record { blocks = insert_block whole free_low.blocks; room = free_low.room - 1 } → Settles words k ts new free_new whole
settled words k ts mid new free free_mid free_low free_new one block h upper whole lower index =
    let up = upper words k h in
    let down = lower words k up.hole in
    let room = hole_room words new free_low whole down.at down.hole in
    let lt : k ≤ length ts = omega (arith, h.within) in
    record {
      tiles = down.tiles ∙ (ap (joined_below k) up.tiles ∙ sides_by ts k (omega (arith, h.within)) h.low h.high);
      indexed = indexed_more words new free_low free_new whole down.at down.hole room.0 index;
      low = take down.at new;
      rest = down.rest;
      high = drop (down.at + 1) new;
      front = sym (ap (take k) up.tiles ∙ take_made ts k (joined_to (tile_at ts k) (drop (k + 1) ts)) lt) ∙ down.front;
      made = split_at new down.at (omega (arith, down.hole.within)) ∙ ap (λ (t : Tile). take down.at new ++ (t ∷ drop (down.at + 1) new)) down.hole.is;
    }
