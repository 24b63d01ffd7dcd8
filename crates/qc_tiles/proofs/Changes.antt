-- What each call leaves: the definition's list, and a region that is ready for the next.
use Rattle.std.proofs.Common.{length-append, subst, ◌≡◌, ℕ, ◌+◌, ◌-◌, ◌<◌, ◌≤◌, Bool, true, false, cond, List, [], ◌∷◌, ◌++◌, length, take, drop, set, nat_le, min, refl, sym, ap, ◌∙◌, arith, zero, suc, Option, Some, None, append_assoc}
use Rattle.std.specs.List.{AllByRecursion}
use Rattle.std.specs.Prelude.{Contains}
use Rattle.std.proofs.lemmas.Bool.{le-leb}
use Rattle.qc_tiles.specs.declared.blocks.Block.{Block}
use Rattle.qc_tiles.specs.declared.blocks.Tile.{Tile}
use Rattle.qc_types.specs.Blocks.{least_block, raised}
use Rattle.qc_tiles.specs.Tiles.{tile, free_tile, block_of, CoversFrom, FreeApart, IsTiling, region_words, joined, replaced, cut, cut_words, taken, after_take, may_move, after_trim, after_give_back, after_pin, movable, swapped, after_move_down, handed_out}
use Rattle.qc_tiles.specs.Kept.{tile_at, InHand, IsMovable}
use Rattle.qc_tiles.specs.Cells.{IsAt, lower_of, block_at}
use Rattle.qc_tiles.specs.Sizes.{Indexed, by_size, insert_block}
use Rattle.qc_tiles.specs.Settled.{IsHole, Settles, HandsOut}
use Rattle.qc_tiles.specs.Ready.{NoneBelow, IsReady}
use Rattle.qc_tiles.proofs.Tilings.{covers_back, joined_apart}
use Rattle.qc_tiles.proofs.Walks.{split_at, drop_at, swap_of, move_of}
use Rattle.qc_tiles.proofs.Edits.{set_is, cut_whole}
use Rattle.qc_tiles.proofs.Keeps.{apart_front, apart_tail, after_take-tiling, after_trim-tiling, after_give_back-tiling, after_pin-tiling, after_move_down-tiling, swapped-covers}
use Rattle.qc_tiles.proofs.Standing.{in_hand, hand_contains, replaced_at, place_bounds, large_at}
use Rattle.qc_tiles.proofs.Calls.{given_back, pinned_as, trimmed_as, taken_block}
use Rattle.qc_tiles.proofs.PlaceSteps.{covers_from, back_each, each_three}
use Rattle.qc_tiles.proofs.PlaceCuts.{split_two, take_next, next_first}
use Rattle.qc_tiles.proofs.PlaceReads.{block_at_is, block_at_some}
use Rattle.qc_tiles.proofs.Sorting.{insert-length}
use Rattle.qc_tiles.proofs.SettleSteps.{take_made, tile_made, drop_made, length_made}
use Rattle.qc_tiles.proofs.Holes.{round, round_covers, hole_between, hole_behind, without_used, with_free, Picked}
use Rattle.qc_tiles.proofs.Quiet.{NotOnto, quiet_front, quiet_from, seam_free, seam_was_free, seam_same, seam_pinned, all_behind, settled_quiet, quiet_until}

pub record Done (words : ℕ) (after new : List Tile) (free : Indexed) (lowest : ℕ) : Type 0 where
  pub tiles : new ≡ after
  pub ready : IsReady words new free lowest

hand_at : (ts : List Tile) (b : Block) (k : ℕ) → InHand ts b k → IsAt ts k b.first b.words
hand_at ts b k h = record { within = h.within; first = h.first; words = h.words }

-- a block that is handed out, by its index
pub stands_at : (ts : List Tile) (b : Block) → Contains (handed_out ts) b → (k : ℕ) × IsAt ts k b.first b.words × InHand ts b k
stands_at ts b h = let one = in_hand ts b h in (one.0, hand_at ts b one.0 one.1, one.1)

-- quiet below a block that is replaced
quiet_behind : (words c d k : ℕ) (ts : List Tile) (z : Tile) (zs : List Tile) → IsTiling words ts → k < length ts → NoneBelow c ts → d ≤ c → d ≤ z.first → CoversFrom 0 words (take k ts ++ (z ∷ zs))
    → ((x : Tile) → (x.first < c → NotOnto x (tile_at ts k ∷ drop (k + 1) ts)) → (x.free ≡ true → (tile_at ts k).free ≡ false) → x.first < d → NotOnto x (z ∷ zs)) → NoneBelow d (take k ts ++ (z ∷ zs))
quiet_behind words c d k ts z zs h within quiet less below covers seam =
    let r = round words ts k h within in
    quiet_front c d (take k ts) (tile_at ts k ∷ drop (k + 1) ts) (z ∷ zs) (subst (λ (xs : List Tile). NoneBelow c xs) r.split quiet) r.apart less (all_behind words (take k ts) z zs d covers below) seam

-- ---- giving back

pub gives_back : (words lowest low k : ℕ) (ts mid new : List Tile) (free out : Indexed) (block whole : Block) → IsReady words ts free lowest → InHand ts block k → mid ≡ set ts k (free_tile block.first block.words) → Settles words k mid new out whole → low ≡ min (min lowest block.first) whole.first
    → Done words (after_give_back block.first ts) new out low
gives_back words lowest low k ts mid new free out block whole ready hand mid_is s low_is =
    let z = free_tile block.first block.words in
    let r = round words ts k ready.tiling hand.within in
    let shape : mid ≡ take k ts ++ (z ∷ drop (k + 1) ts) = mid_is ∙ set_is ts k z hand.within in
    let tiles : new ≡ after_give_back block.first ts = s.tiles ∙ ap joined (mid_is ∙ given_back words ts block k ready.tiling hand) in
    let tiling : IsTiling words new = subst (λ (xs : List Tile). IsTiling words xs) (sym tiles) (after_give_back-tiling words block.first ts ready.tiling) in
    let stop : (tile_at ts k).first + block.words ≡ (tile_at ts k).first + (tile_at ts k).words = omega (arith, hand.words) in
    let covers : CoversFrom 0 words (take k ts ++ (z ∷ drop (k + 1) ts)) = round_covers words ts k (z ∷ []) ready.tiling hand.within (sym hand.first, stop) in
    let quiet_mid : NoneBelow (min lowest block.first) mid = subst (λ (xs : List Tile). NoneBelow (min lowest block.first) xs) (sym shape)
    (quiet_behind words lowest (min lowest block.first) k ts z (drop (k + 1) ts) ready.tiling hand.within ready.quiet (omega arith) (omega arith) covers (seam_free lowest (min lowest block.first) (tile_at ts k ∷ drop (k + 1) ts) (drop (k + 1) ts) z refl)) in
    let apart : FreeApart (take k mid) = subst (λ (xs : List Tile). FreeApart xs) (sym (ap (take k) shape ∙ take_made ts k (z ∷ drop (k + 1) ts) (omega (arith, hand.within)))) (front_apart (take k ts) (tile_at ts k ∷ drop (k + 1) ts) r.apart) in
    record {
      tiles = tiles;
      ready = record { tiling = tiling; region = ready.region; indexed = s.indexed; quiet = settled_quiet words k (min lowest block.first) low mid new out whole s quiet_mid apart (omega (arith, low_is)) (omega (arith, low_is)) tiling.covers };
    }
  where
    front_apart : (xs ys : List Tile) → FreeApart (xs ++ ys) → FreeApart xs
    front_apart [] ys h = tt
    front_apart (x ∷ []) ys h = tt
    front_apart (x ∷ y ∷ xs) ys h = (h.0, front_apart (y ∷ xs) ys h.1)

-- ---- cutting

cut_two : (wanted : ℕ) (pinned : Bool) (t : Tile) → wanted + least_block ≤ t.words → cut wanted pinned t ≡ tile t.first wanted false pinned ∷ free_tile (t.first + wanted) (t.words - wanted) ∷ []
cut_two wanted pinned t h = rw (le-leb (wanted + least_block) t.words h) refl

-- the two blocks that a cut leaves, and the list with them
pub record Cut (words k used : ℕ) (ts mid : List Tile) (free : Indexed) (block : Block) : Type 0 where
  pub shape : mid ≡ replaced block.first (λ t. cut (raised used) t.pinned t) ts
  pub hole : IsHole words mid free (record { first = block.first + raised used; words = block.words - raised used }) (k + 1)
  pub covers : CoversFrom 0 words mid

pub cuts : (words lowest k used : ℕ) (ts mid : List Tile) (free : Indexed) (block : Block) → IsReady words ts free lowest → InHand ts block k → raised used + least_block ≤ block.words
    → mid ≡ take k ts ++ (tile block.first (raised used) false (tile_at ts k).pinned ∷ free_tile (block.first + raised used) (block.words - raised used) ∷ drop (k + 1) ts) → Cut words k used ts mid free block
cuts words lowest k used ts mid free block ready hand large mid_is =
    let t = tile_at ts k in
    let w = raised used in
    let front = tile block.first w false t.pinned in
    let rest : Block = record { first = block.first + w; words = block.words - w } in
    let back = free_tile (block.first + w) (block.words - w) in
    let two : cut w t.pinned t ≡ front ∷ back ∷ [] = cut_two w t.pinned t (omega (arith, hand.words, large)) ∙ rw (hand.first, hand.words) refl in
    let shape : mid ≡ replaced block.first (λ t. cut w t.pinned t) ts = mid_is ∙ (ap (λ xs. take k ts ++ (xs ++ drop (k + 1) ts)) (sym two) ∙ trimmed_as words used ts block k ready.tiling hand) in
    let hole = hole_behind words ts free front back rest k ready.tiling ready.region ready.indexed hand.within hand.used refl (sym hand.first) refl refl (omega (arith, hand.words, large)) (omega arith) (omega (arith, large)) in
    record { shape = shape; hole = subst (λ (xs : List Tile). IsHole words xs free rest (k + 1)) (sym mid_is) hole; covers = subst (λ (xs : List Tile). CoversFrom 0 words xs) (sym mid_is) hole.covers }

pub trims : (words lowest low k used : ℕ) (ts mid new : List Tile) (free out : Indexed) (block whole : Block) → IsReady words ts free lowest → InHand ts block k → Cut words k used ts mid free block
    → mid ≡ take k ts ++ (tile block.first (raised used) false (tile_at ts k).pinned ∷ free_tile (block.first + raised used) (block.words - raised used) ∷ drop (k + 1) ts)
    → Settles words (k + 1) mid new out whole → low ≡ min (min lowest block.first) whole.first → Done words (after_trim block.first used ts) new out low
trims words lowest low k used ts mid new free out block whole ready hand c mid_is s low_is =
    let z = tile block.first (raised used) false (tile_at ts k).pinned in
    let zs = free_tile (block.first + raised used) (block.words - raised used) ∷ drop (k + 1) ts in
    let tiles : new ≡ after_trim block.first used ts = s.tiles ∙ ap joined c.shape in
    let tiling : IsTiling words new = subst (λ (xs : List Tile). IsTiling words xs) (sym tiles) (after_trim-tiling words block.first used ts ready.tiling) in
    let d = min lowest block.first in
    let quiet_mid : NoneBelow d mid = subst (λ (xs : List Tile). NoneBelow d xs) (sym mid_is)
    (quiet_behind words lowest d k ts z zs ready.tiling hand.within ready.quiet (omega arith) (omega arith) (subst (λ (xs : List Tile). CoversFrom 0 words xs) mid_is c.covers) (seam_same lowest d (drop (k + 1) ts) zs (tile_at ts k) z (omega arith) (sym hand.used) refl)) in
    record {
      tiles = tiles;
      ready = record { tiling = tiling; region = ready.region; indexed = s.indexed; quiet = settled_quiet words (k + 1) d low mid new out whole s quiet_mid c.hole.low (omega (arith, low_is)) (omega (arith, low_is)) tiling.covers };
    }

-- a block that can't be cut stays
whole_is : (wanted : ℕ) (t : Tile) → t.words < wanted + least_block → t.free ≡ false → cut wanted t.pinned t ≡ t ∷ []
whole_is wanted t h used = cut_whole wanted t.pinned t h ∙ same t used
  where
    same : (u : Tile) → u.free ≡ false → tile u.first u.words false u.pinned ∷ [] ≡ u ∷ []
    same u e = rw (← e) refl

pub stays_whole : (words k used : ℕ) (ts : List Tile) (block : Block) → IsTiling words ts → InHand ts block k → block.words < raised used + least_block → ts ≡ after_trim block.first used ts
stays_whole words k used ts block h hand small =
    let t = tile_at ts k in
    let one : cut (raised used) t.pinned t ≡ t ∷ [] = whole_is (raised used) t (omega (arith, hand.words, small)) hand.used in
    let same : ts ≡ replaced block.first (λ u. cut (raised used) u.pinned u) ts = split_at ts k hand.within ∙ (ap (λ xs. take k ts ++ (xs ++ drop (k + 1) ts)) (sym one) ∙ trimmed_as words used ts block k h hand) in
    sym (joined_apart ts h.apart) ∙ ap joined same

-- ---- pinning

-- the list with a used block in the place of a used one
used_shape : (words k : ℕ) (ts : List Tile) (block : Block) (p : Bool) → IsTiling words ts → InHand ts block k → after_pin p block.first ts ≡ take k ts ++ (tile block.first block.words false p ∷ drop (k + 1) ts)
used_shape words k ts block p h hand = sym (pinned_as words ts block k p h hand) ∙ set_is ts k (tile block.first block.words false p) hand.within

pins_by : (words lowest low k : ℕ) (ts new : List Tile) (free : Indexed) (block : Block) (p : Bool) → IsReady words ts free lowest → InHand ts block k → new ≡ set ts k (tile block.first block.words false p) → NoneBelow low (take k ts ++ (tile block.first block.words false p ∷ drop (k + 1) ts))
    → Done words (after_pin p block.first ts) new free low
pins_by words lowest low k ts new free block p ready hand is quiet =
    let z = tile block.first block.words false p in
    let tiles : new ≡ after_pin p block.first ts = is ∙ pinned_as words ts block k p ready.tiling hand in
    let shape : new ≡ take k ts ++ (z ∷ drop (k + 1) ts) = tiles ∙ used_shape words k ts block p ready.tiling hand in
    let same : by_size ts ≡ by_size new = ap by_size (split_at ts k hand.within) ∙ (without_used (take k ts) (tile_at ts k) (drop (k + 1) ts) hand.used ∙ (sym (without_used (take k ts) z (drop (k + 1) ts) refl) ∙ ap by_size (sym shape))) in
    record {
      tiles = tiles;
      ready = record {
        tiling = subst (λ (xs : List Tile). IsTiling words xs) (sym tiles) (after_pin-tiling words block.first p ts ready.tiling);
        region = ready.region;
        indexed = record { sizes = ready.indexed.sizes ∙ same; room = ready.indexed.room };
        quiet = subst (λ (xs : List Tile). NoneBelow low xs) (sym shape) quiet;
      };
    }

used_covers : (words k : ℕ) (ts : List Tile) (block : Block) (p : Bool) → IsTiling words ts → InHand ts block k → CoversFrom 0 words (take k ts ++ (tile block.first block.words false p ∷ drop (k + 1) ts))
used_covers words k ts block p h hand = subst (λ (xs : List Tile). CoversFrom 0 words xs) (used_shape words k ts block p h hand) (after_pin-tiling words block.first p ts h).covers

pub pins : (words lowest low k : ℕ) (ts new : List Tile) (free : Indexed) (block : Block) → IsReady words ts free lowest → InHand ts block k → new ≡ set ts k (tile block.first block.words false true) → low ≡ min lowest block.first → Done words (after_pin true block.first ts) new free low
pins words lowest low k ts new free block ready hand is low_is =
    let z = tile block.first block.words false true in
    pins_by words lowest low k ts new free block true ready hand is
    (quiet_behind words lowest low k ts z (drop (k + 1) ts) ready.tiling hand.within ready.quiet (omega (arith, low_is)) (omega (arith, low_is)) (used_covers words k ts block true ready.tiling hand) (seam_pinned lowest low (tile_at ts k ∷ drop (k + 1) ts) (drop (k + 1) ts) z refl))

-- a block that may be moved again, behind the one in front of it
quiet_unpinned : (words lowest low k : ℕ) (ts : List Tile) (free : Indexed) (block : Block) (o : Option Tile) (from : ℕ) → IsReady words ts free lowest → InHand ts block k → o ≡ lower_of k ts → (o ≡ None → from ≡ block.first) → ((t : Tile) → o ≡ Some t → from ≡ t.first) → low ≡ min lowest from
    → NoneBelow low (take k ts ++ (tile block.first block.words false false ∷ drop (k + 1) ts))
quiet_unpinned words lowest low zero ts free block o from ready hand is none some low_is =
    let z = tile block.first block.words false false in
    let at : from ≡ block.first = none is in
    quiet_from low (z ∷ drop (0 + 1) ts) (covers_from 0 words low (z ∷ drop (0 + 1) ts) (used_covers words 0 ts block false ready.tiling hand) (omega (arith, low_is, at, hand.first, first_0 ts hand.within ready.tiling.covers)))
  where
    first_0 : (us : List Tile) → 0 < length us → CoversFrom 0 words us → (tile_at us 0).first ≡ 0
    first_0 [] within h = absurd (omega arith)
    first_0 (u ∷ us) within h = h.0
quiet_unpinned words lowest low (suc j) ts free block o from ready hand is none some low_is =
    let z = tile block.first block.words false false in
    let l = tile_at ts j in
    let high = drop (suc j + 1) ts in
    let lt : j < length ts = omega (arith, hand.within) in
    let at : from ≡ l.first = some l is in
    let e : j + 1 ≡ suc j = omega arith in
    let front : take (suc j) ts ≡ take j ts ++ (l ∷ []) = subst (λ (n : ℕ). take n ts ≡ take j ts ++ (l ∷ [])) e (take_next ts j lt) in
    let shape : (ys : List Tile) → take (suc j) ts ++ ys ≡ take j ts ++ (l ∷ ys) = (λ ys. ap (λ xs. xs ++ ys) front ∙ append_assoc (take j ts) (l ∷ []) ys) in
    let covers : CoversFrom 0 words (take j ts ++ (l ∷ z ∷ high)) = subst (λ (xs : List Tile). CoversFrom 0 words xs) (shape (z ∷ high)) (used_covers words (suc j) ts block false ready.tiling hand) in
    subst (λ (xs : List Tile). NoneBelow low xs) (sym (shape (z ∷ high)))
    (quiet_behind words lowest low j ts l (z ∷ high) ready.tiling lt ready.quiet (omega (arith, low_is)) (omega (arith, low_is, at)) covers (seam_same lowest low (drop (j + 1) ts) (z ∷ high) l l (omega (arith, low_is)) refl refl))

pub unpins : (words lowest low k : ℕ) (ts new : List Tile) (free : Indexed) (block : Block) (o : Option Tile) (from : ℕ) → IsReady words ts free lowest → InHand ts block k → new ≡ set ts k (tile block.first block.words false false)
    → o ≡ lower_of k ts → (o ≡ None → from ≡ block.first) → ((t : Tile) → o ≡ Some t → from ≡ t.first) → low ≡ min lowest from → Done words (after_pin false block.first ts) new free low
unpins words lowest low k ts new free block o from ready hand is lower none some low_is =
    pins_by words lowest low k ts new free block false ready hand is (quiet_unpinned words lowest low k ts free block o from ready hand lower none some low_is)

-- ---- taking

-- what a cut of a free block leaves
cut_seam : (x t : Tile) (wanted : ℕ) (high : List Tile) (b : Bool) → t.free ≡ true → (x.free ≡ true → t.free ≡ false)
    → NotOnto x (cond b (tile t.first wanted false false ∷ free_tile (t.first + wanted) (t.words - wanted) ∷ []) (tile t.first t.words false false ∷ []) ++ high)
cut_seam x t wanted high true e apart = seam_was_free 0 (suc x.first) [] [] t (tile t.first wanted false false) e x (λ low. absurd (omega arith)) apart (omega arith)
cut_seam x t wanted high false e apart = seam_was_free 0 (suc x.first) [] [] t (tile t.first t.words false false) e x (λ low. absurd (omega arith)) apart (omega arith)

pub takes : (words lowest low need : ℕ) (ts new : List Tile) (free out : Indexed) (block result : Block) → IsReady words ts free lowest → (p : Picked words (raised need) ts free block) → HandsOut words p.at (raised need) ts new out block result → low ≡ min lowest block.first
    → Done words (after_take need ts) new out low × (Some result ≡ taken need ts)
takes words lowest low need ts new free out block result ready p o low_is =
    let k = p.at in
    let t = tile_at ts k in
    let w = raised need in
    let r = round words ts k ready.tiling p.within in
    let zs = cut w false t ++ drop (k + 1) ts in
    let tiles : new ≡ after_take need ts = o.tiles ∙ rw p.best.best (sym (replaced_at 0 words (cut w false) ts k ready.tiling.covers ready.tiling.large p.within)) in
    let tiling : IsTiling words new = subst (λ (xs : List Tile). IsTiling words xs) (sym tiles) (after_take-tiling words need ts ready.tiling) in
    let covers : CoversFrom 0 words (take k ts ++ zs) = subst (λ (xs : List Tile). CoversFrom 0 words xs) o.tiles tiling.covers in
    let first : t.first ≡ block.first = ap (λ (b : Block). b.first) p.same in
    let behind : AllByRecursion (λ u. low ≤ u.first) zs = covers_from (0 + region_words (take k ts)) words low zs (covers_back 0 words (take k ts) zs covers) (omega (arith, low_is, r.start, first)) in
    let quiet : NoneBelow low (take k ts ++ zs) = quiet_front lowest low (take k ts) (t ∷ drop (k + 1) ts) zs (subst (λ (xs : List Tile). NoneBelow lowest xs) r.split ready.quiet) r.apart (omega (arith, low_is)) behind
    (λ x was apart below. cut_seam x t w (drop (k + 1) ts) (nat_le (w + least_block) t.words) p.best.free apart) in
    let answer : Some result ≡ taken need ts = ap (λ b. Some b) o.block ∙ (ap (λ (b : Block). Some (record { first = b.first; words = cut_words w b.words })) (sym p.same) ∙ sym (taken_block need ts k p.best)) in (
      record {
        tiles = tiles;
        ready = record { tiling = tiling; region = ready.region; indexed = o.indexed; quiet = subst (λ (xs : List Tile). NoneBelow low xs) (sym o.tiles) quiet };
      },
      answer,
    )

-- ---- moving down

-- a free block and the one above it, which moves
pub record Moves (words k : ℕ) (ts : List Tile) (free : Indexed) (lower upper : Block) : Type 0 where
  pub here : IsAt ts k lower.first lower.words
  pub next : IsAt ts (k + 1) upper.first upper.words
  pub near : upper.first ≡ lower.first + lower.words
  pub fits : upper.first + upper.words ≤ words
  pub some : least_block ≤ lower.words
  pub more : least_block ≤ upper.words
  pub indexed : free.blocks ≡ insert_block lower (by_size (take k ts ++ drop (k + 2) ts))
  pub swap : swapped ts ≡ take k ts ++ (tile lower.first upper.words false false ∷ free_tile (lower.first + upper.words) lower.words ∷ drop (k + 2) ts)
  pub free_below : (tile_at ts k).free ≡ true

move_parts : (t u : Tile) → may_move t u ≡ true → (t.free ≡ true) × (u.free ≡ false)
move_parts t u h = (grind (arith, h), grind (arith, h))

pub moves_at : (words lowest k : ℕ) (ts : List Tile) (free : Indexed) (lower upper : Block) (t u : Tile) → IsReady words ts free lowest → IsMovable ts k → tile_at ts k ≡ t → tile_at ts (k + 1) ≡ u → lower ≡ block_of t → upper ≡ block_of u → Moves words k ts free lower upper
moves_at words lowest k ts free lower upper t u ready m is is_next low_is up_is =
    let lt : k < length ts = omega (arith, m.within) in
    let state = move_parts (tile_at ts k) (tile_at ts (k + 1)) m.moves in
    let a : block_of (tile_at ts k) ≡ lower = ap block_of is ∙ sym low_is in
    let b : block_of (tile_at ts (k + 1)) ≡ upper = ap block_of is_next ∙ sym up_is in
    let a_first = ap (λ (x : Block). x.first) a in
    let a_words = ap (λ (x : Block). x.words) a in
    let b_first = ap (λ (x : Block). x.first) b in
    let b_words = ap (λ (x : Block). x.words) b in
    let high = drop (k + 2) ts in
    let split = split_two ts k m.within in
    let index : free.blocks ≡ insert_block lower (by_size (take k ts ++ high)) = ready.indexed.sizes ∙ (ap by_size split ∙ (with_free (take k ts) (tile_at ts k) (tile_at ts (k + 1) ∷ high) state.0
    ∙ (ap (insert_block (block_of (tile_at ts k))) (without_used (take k ts) (tile_at ts (k + 1)) high state.1) ∙ ap (λ (x : Block). insert_block x (by_size (take k ts ++ high))) a))) in
    record {
      here = record { within = lt; first = a_first; words = a_words };
      next = record { within = m.within; first = b_first; words = b_words };
      near = omega (arith, next_first 0 words ts k ready.tiling.covers m.within, a_first, a_words, b_first);
      fits = omega (arith, (place_bounds 0 words ts (k + 1) ready.tiling.covers m.within).1, b_first, b_words);
      some = omega (arith, large_at ts k ready.tiling.large lt, a_words);
      more = omega (arith, large_at ts (k + 1) ready.tiling.large m.within, b_words);
      indexed = index;
      swap = swap_of ts k m ∙ rw (a_first, a_words, b_words) refl;
      free_below = state.0;
    }

-- the two as one block
pub joined_fits : (words k : ℕ) (ts mid : List Tile) (free : Indexed) (lower upper : Block) → Moves words k ts free lower upper → mid ≡ take k ts ++ (free_tile lower.first (lower.words + upper.words) ∷ drop (k + 2) ts) → IsAt mid k lower.first (upper.words + lower.words)
joined_fits words k ts mid free lower upper m is =
    let z = free_tile lower.first (lower.words + upper.words) in
    let lt : k ≤ length ts = omega (arith, m.here.within) in
    let at : tile_at mid k ≡ z = ap (λ (xs : List Tile). tile_at xs k) is ∙ tile_made ts k z (drop (k + 2) ts) lt in
    record {
      within = omega (arith, ap length is, length_made ts k z (drop (k + 2) ts) lt);
      first = ap (λ (t : Tile). t.first) at;
      words = ap (λ (t : Tile). t.words) at ∙ omega arith;
    }

-- and as two blocks again, the other way round
pub swapped_is : (words k : ℕ) (ts mid new : List Tile) (free : Indexed) (lower upper : Block) → Moves words k ts free lower upper → mid ≡ take k ts ++ (free_tile lower.first (lower.words + upper.words) ∷ drop (k + 2) ts)
    → new ≡ take k mid ++ (tile lower.first upper.words false false ∷ free_tile (lower.first + upper.words) lower.words ∷ drop (k + 1) mid) → new ≡ swapped ts
swapped_is words k ts mid new free lower upper m is made =
    let z = free_tile lower.first (lower.words + upper.words) in
    let lt : k ≤ length ts = omega (arith, m.here.within) in
    let low : take k mid ≡ take k ts = ap (take k) is ∙ take_made ts k (z ∷ drop (k + 2) ts) lt in
    let high : drop (k + 1) mid ≡ drop (k + 2) ts = ap (drop (k + 1)) is ∙ drop_made ts k z (drop (k + 2) ts) lt in
    made ∙ (ap (λ xs. xs ++ (tile lower.first upper.words false false ∷ free_tile (lower.first + upper.words) lower.words ∷ drop (k + 1) mid)) low
    ∙ (ap (λ xs. take k ts ++ (tile lower.first upper.words false false ∷ free_tile (lower.first + upper.words) lower.words ∷ xs)) high ∙ sym m.swap))

pub move_hole : (words lowest k : ℕ) (ts mid : List Tile) (free out : Indexed) (lower upper : Block) → IsReady words ts free lowest → Moves words k ts free lower upper → mid ≡ swapped ts → out ≡ record { blocks = by_size (take k ts ++ drop (k + 2) ts); room = free.room + 1 }
    → IsHole words mid out (record { first = lower.first + upper.words; words = lower.words }) (k + 1)
move_hole words lowest k ts mid free out lower upper ready m is index =
    let r = round words ts k ready.tiling m.here.within in
    let front = tile lower.first upper.words false false in
    let rest : Block = record { first = lower.first + upper.words; words = lower.words } in
    let low = take k ts ++ (front ∷ []) in
    let high = drop (k + 2) ts in
    let back = free_tile rest.first rest.words in
    let two : (k + 1) + 1 ≡ k + 2 = omega arith in
    let shape : low ++ (back ∷ high) ≡ mid = append_assoc (take k ts) (front ∷ []) (back ∷ high) ∙ (sym m.swap ∙ sym is) in
    let blocks = ap (λ (i : Indexed). i.blocks) index in
    let sizes : out.blocks ≡ by_size (low ++ high) = blocks ∙ (sym (without_used (take k ts) front high refl) ∙ ap by_size (sym (append_assoc (take k ts) (front ∷ []) high))) in
    let more : length free.blocks ≡ length (by_size (take k ts ++ high)) + 1 = ap length m.indexed ∙ insert-length lower (by_size (take k ts ++ high)) in
    let covers : CoversFrom 0 words (low ++ (back ∷ high)) = subst (λ (xs : List Tile). CoversFrom 0 words xs) (sym (shape ∙ is)) (swapped-covers 0 words ts ready.tiling.covers) in
    let rest_apart : FreeApart (tile_at ts (k + 1) ∷ high) = subst (λ (xs : List Tile). FreeApart xs) (rw two at (drop_at ts (k + 1) m.next.within)) r.high in
    let hole = hole_between words low high out rest sizes (omega (arith, ready.indexed.room, more, ap length blocks, ap (λ (i : Indexed). i.room) index)) covers
    (each_three (λ u. least_block ≤ u.words) (take k ts) (front ∷ []) [] r.large_low (m.more, tt) tt) m.some (back_each (λ u. least_block ≤ u.words) ts (k + 2) ready.tiling.large) ready.region
    (apart_front (take k ts) (tile_at ts k ∷ drop (k + 1) ts) (front ∷ []) r.apart (λ _. refl) tt) (apart_tail (tile_at ts (k + 1)) high rest_apart) in
    let count : length low ≡ k + 1 = length-append (take k ts) (front ∷ []) ∙ ap (λ n. n + 1) r.length in
    subst (λ (n : ℕ). IsHole words mid out rest n) count (subst (λ (xs : List Tile). IsHole words xs out rest (length low)) shape hole)

pub moves_down : (words lowest low k : ℕ) (ts mid new : List Tile) (free index out : Indexed) (lower upper whole : Block) → IsReady words ts free lowest → IsMovable ts k → Moves words k ts free lower upper → mid ≡ swapped ts
    → IsHole words mid index (record { first = lower.first + upper.words; words = lower.words }) (k + 1) → Settles words (k + 1) mid new out whole → low ≡ min lower.first whole.first → Done words (after_move_down ts) new out low
moves_down words lowest low k ts mid new free index out lower upper whole ready movable m is hole s low_is =
    let front = tile lower.first upper.words false false in
    let zs = free_tile (lower.first + upper.words) lower.words ∷ drop (k + 2) ts in
    let tiles : new ≡ after_move_down ts = s.tiles ∙ ap joined is in
    let tiling : IsTiling words new = subst (λ (xs : List Tile). IsTiling words xs) (sym tiles) (after_move_down-tiling words ts ready.tiling) in
    let shape : mid ≡ take k ts ++ (front ∷ zs) = is ∙ m.swap in
    let c = lower.first in
    let quiet : NoneBelow c ts = subst (λ (n : ℕ). NoneBelow n ts) m.here.first (quiet_until 0 words ts k ready.tiling.covers m.here.within movable.lowest) in
    let quiet_mid : NoneBelow c mid = subst (λ (xs : List Tile). NoneBelow c xs) (sym shape)
    (quiet_behind words c c k ts front zs ready.tiling m.here.within quiet (omega arith) (omega arith) (subst (λ (xs : List Tile). CoversFrom 0 words xs) shape hole.covers) (seam_was_free c c (drop (k + 1) ts) zs (tile_at ts k) front m.free_below)) in
    record {
      tiles = tiles;
      ready = record { tiling = tiling; region = ready.region; indexed = s.indexed; quiet = settled_quiet words (k + 1) c low mid new out whole s quiet_mid hole.low (omega (arith, low_is)) (omega (arith, low_is)) tiling.covers };
    }

-- ---- whether a block is handed out

-- a block that is handed out is found at its place
pub found_at : (words : ℕ) (ts : List Tile) (b : Block) → IsTiling words ts → Contains (handed_out ts) b → (t : Tile) × (block_at b.first ts ≡ Some t) × (t.words ≡ b.words) × (t.free ≡ false)
found_at words ts b h contains =
    let one = in_hand ts b contains in
    let k = one.0 in
    (tile_at ts k, ap (λ n. block_at n ts) (sym one.1.first) ∙ block_at_is 0 words ts k h.covers h.large one.1.within, one.1.words, one.1.used)

pub held : (ts : List Tile) (b : Block) (t : Tile) → block_at b.first ts ≡ Some t → t.words ≡ b.words → t.free ≡ false → Contains (handed_out ts) b
held ts b t some words used =
    let one = block_at_some b.first ts t some in
    hand_contains ts b one.0 (record { within = one.1; first = ap (λ (x : Tile). x.first) one.2 ∙ one.3; words = ap (λ (x : Tile). x.words) one.2 ∙ words; used = ap (λ (x : Tile). x.free) one.2 ∙ used })

pub same_some : (t u : Tile) → ◌≡◌ {A = Option Tile} (Some t) (Some u) → t ≡ u
same_some t u h = cc h

pub held_only : (words : ℕ) (ts : List Tile) (b : Block) (t : Tile) → IsTiling words ts → block_at b.first ts ≡ Some t → Contains (handed_out ts) b → (t.words ≡ b.words) × (t.free ≡ false)
held_only words ts b t h some contains =
    let f = found_at words ts b h contains in
    let same : f.0 ≡ t = same_some f.0 t (sym f.1 ∙ some) in
    (ap (λ (x : Tile). x.words) (sym same) ∙ f.2, ap (λ (x : Tile). x.free) (sym same) ∙ f.3)

pub never_held : (words : ℕ) (ts : List Tile) (b : Block) → IsTiling words ts → block_at b.first ts ≡ None → Contains (handed_out ts) b → ⊥
never_held words ts b h none contains = let f = found_at words ts b h contains in absurd (cc (sym f.1 ∙ none))

-- what moved
pub move_is : (k : ℕ) (ts : List Tile) (lower upper : Block) (t u : Tile) → IsMovable ts k → tile_at ts k ≡ t → tile_at ts (k + 1) ≡ u → lower ≡ block_of t → upper ≡ block_of u
    → Some (record { from = upper.first; to = lower.first; words = upper.words }) ≡ movable ts
move_is k ts lower upper t u m is is_next low up = sym (move_of ts k m ∙ rw (is, is_next, low, up) refl)
