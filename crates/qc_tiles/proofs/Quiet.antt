-- Below which place no block may move.
use Rattle.std.proofs.Common.{subst, ◌≡◌, ℕ, ◌+◌, ◌<◌, ◌≤◌, true, false, List, [], ◌∷◌, ◌++◌, length, take, drop, refl, sym, arith, zero, suc}
use Rattle.std.specs.List.{AllByRecursion}
use Rattle.std.proofs.lemmas.List.{take-append-drop}
use Rattle.qc_tiles.specs.declared.blocks.Block.{Block}
use Rattle.qc_tiles.specs.declared.blocks.Tile.{Tile}
use Rattle.qc_tiles.specs.Tiles.{free_tile, CoversFrom, FreeApart, may_move, region_words}
use Rattle.qc_tiles.specs.Kept.{tile_at}
use Rattle.qc_tiles.specs.Sizes.{Indexed}
use Rattle.qc_tiles.specs.Settled.{Settles}
use Rattle.qc_tiles.specs.Ready.{NoneBelow}
use Rattle.qc_tiles.proofs.Tilings.{covers_back}
use Rattle.qc_tiles.proofs.Keeps.{head_free, apart_head}
use Rattle.qc_tiles.proofs.PlaceSteps.{covers_from}

-- a block doesn't move down onto another that is in front of a list
abbrev pub NotOnto : Tile → List Tile → Type 0
NotOnto x [] = Unit {0}
NotOnto x (z ∷ zs) = may_move x z ≡ false

pub quiet_cons : (c : ℕ) (x : Tile) (zs : List Tile) → (x.first < c → NotOnto x zs) → NoneBelow c zs → NoneBelow c (x ∷ zs)
quiet_cons c x [] h k = tt
quiet_cons c x (z ∷ zs) h k = (h, k)

pub quiet_head : (c : ℕ) (x : Tile) (zs : List Tile) → NoneBelow c (x ∷ zs) → x.first < c → NotOnto x zs
quiet_head c x [] h k = tt
quiet_head c x (z ∷ zs) h k = h.0 k

pub quiet_from : (c : ℕ) (zs : List Tile) → AllByRecursion (λ t. c ≤ t.first) zs → NoneBelow c zs
quiet_from c [] h = tt
quiet_from c (z ∷ zs) h = quiet_cons c z zs (λ low. absurd (omega (arith, h.0))) (quiet_from c zs h.1)

-- other blocks behind the front of a list, none of them below the place
pub quiet_front : (c d : ℕ) (low rest zs : List Tile) → NoneBelow c (low ++ rest) → FreeApart (low ++ rest) → d ≤ c → AllByRecursion (λ t. d ≤ t.first) zs
    → ((x : Tile) → (x.first < c → NotOnto x rest) → (x.free ≡ true → head_free rest ≡ false) → x.first < d → NotOnto x zs) → NoneBelow d (low ++ zs)
quiet_front c d [] rest zs h apart less from seam = quiet_from d zs from
quiet_front c d (x ∷ []) rest zs h apart less from seam =
    quiet_cons d x zs (λ low. seam x (quiet_head c x rest h) (apart_head x rest apart) low) (quiet_from d zs from)
quiet_front c d (x ∷ y ∷ low) rest zs h apart less from seam =
    ((λ below. h.0 (omega arith)), quiet_front c d (y ∷ low) rest zs h.1 apart.1 less from seam)

move_onto_free : (x z : Tile) → z.free ≡ true → may_move x z ≡ false
move_onto_free x z e = elim x.free as (λ b. x.free ≡ b → may_move x z ≡ false) [ true ↦ λ f. rw (f, e) refl | false ↦ λ f. rw f refl ] refl

pub move_from_used : (x z : Tile) → x.free ≡ false → may_move x z ≡ false
move_from_used x z e = rw e refl

-- a free block comes
pub seam_free : (c d : ℕ) (rest zs : List Tile) (z : Tile) → z.free ≡ true → (x : Tile) → (x.first < c → NotOnto x rest) → (x.free ≡ true → head_free rest ≡ false) → x.first < d → NotOnto x (z ∷ zs)
seam_free c d rest zs z e x h apart low = move_onto_free x z e

-- any block comes where a free one was
pub seam_was_free : (c d : ℕ) (rest zs : List Tile) (t z : Tile) → t.free ≡ true → (x : Tile) → (x.first < c → NotOnto x (t ∷ rest)) → (x.free ≡ true → t.free ≡ false) → x.first < d → NotOnto x (z ∷ zs)
seam_was_free c d rest zs t z e x h apart low =
    elim x.free as (λ b. x.free ≡ b → may_move x z ≡ false) [ true ↦ λ f. absurd (cc (apart f, e)) | false ↦ λ f. move_from_used x z f ] refl

same_move : (x t z : Tile) → z.free ≡ t.free → z.pinned ≡ t.pinned → may_move x t ≡ false → may_move x z ≡ false
same_move x t z e f h = rw (e, f) h

-- a block in the same state comes
pub seam_same : (c d : ℕ) (rest zs : List Tile) (t z : Tile) → d ≤ c → z.free ≡ t.free → z.pinned ≡ t.pinned → (x : Tile) → (x.first < c → NotOnto x (t ∷ rest)) → (x.free ≡ true → t.free ≡ false) → x.first < d → NotOnto x (z ∷ zs)
seam_same c d rest zs t z less e f x h apart low = same_move x t z e f (h (omega arith))

move_onto_pinned : (x z : Tile) → z.pinned ≡ true → may_move x z ≡ false
move_onto_pinned x z e = elim x.free as (λ b. x.free ≡ b → may_move x z ≡ false) [
  | true ↦ λ f. elim z.free as (λ b. z.free ≡ b → may_move x z ≡ false) [ true ↦ λ g. rw (f, g) refl | false ↦ λ g. rw (f, g, e) refl ] refl
  | false ↦ λ f. rw f refl
] refl

-- a pinned block comes
pub seam_pinned : (c d : ℕ) (rest zs : List Tile) (z : Tile) → z.pinned ≡ true → (x : Tile) → (x.first < c → NotOnto x rest) → (x.free ≡ true → head_free rest ≡ false) → x.first < d → NotOnto x (z ∷ zs)
seam_pinned c d rest zs z e x h apart low = move_onto_pinned x z e

pub all_behind : (words : ℕ) (low : List Tile) (t : Tile) (zs : List Tile) (d : ℕ) → CoversFrom 0 words (low ++ (t ∷ zs)) → d ≤ t.first → AllByRecursion (λ u. d ≤ u.first) (t ∷ zs)
all_behind words low t zs d h below =
    let back = covers_back 0 words low (t ∷ zs) h in
    covers_from (0 + region_words low) words d (t ∷ zs) back (omega (arith, back.0))

-- what is settled is quiet below what became free
pub settled_quiet : (words k c d : ℕ) (ts new : List Tile) (free : Indexed) (block : Block) → Settles words k ts new free block → NoneBelow c ts → FreeApart (take k ts) → d ≤ c → d ≤ block.first → CoversFrom 0 words new → NoneBelow d new
settled_quiet words k c d ts new free block s quiet apart less below covers =
    let t = free_tile block.first block.words in
    let front : take k ts ≡ s.low ++ s.rest = s.front in
    subst (λ (xs : List Tile). NoneBelow d xs) (sym s.made)
    (quiet_front c d s.low s.rest (t ∷ s.high) (subst (λ (xs : List Tile). NoneBelow c xs) front (front_quiet c (take k ts) (drop k ts) (subst (λ (xs : List Tile). NoneBelow c xs) (sym (take-append-drop k ts)) quiet))) (subst (λ (xs : List Tile). FreeApart xs) front apart) less
    (all_behind words s.low t s.high d (subst (λ (xs : List Tile). CoversFrom 0 words xs) s.made covers) below) (seam_free c d s.rest s.high t refl))
  where
    front_quiet : (m : ℕ) (xs ys : List Tile) → NoneBelow m (xs ++ ys) → NoneBelow m xs
    front_quiet m [] ys h = tt
    front_quiet m (x ∷ []) ys h = tt
    front_quiet m (x ∷ y ∷ xs) ys h = (h.0, front_quiet m (y ∷ xs) ys h.1)

-- ---- by index

pub quiet_at : (c : ℕ) (ts : List Tile) (j : ℕ) → NoneBelow c ts → j + 1 < length ts → (tile_at ts j).first < c → may_move (tile_at ts j) (tile_at ts (j + 1)) ≡ false
quiet_at c [] j h within low = absurd (omega arith)
quiet_at c (t ∷ []) j h within low = absurd (omega arith)
quiet_at c (t ∷ u ∷ us) zero h within low = h.0 low
quiet_at c (t ∷ u ∷ us) (suc j) h within low = let e : suc j + 1 ≡ suc (j + 1) = omega arith in rw e (quiet_at c (u ∷ us) j h.1 (omega arith) low)

pub quiet_until : (first end : ℕ) (ts : List Tile) (k : ℕ) → CoversFrom first end ts → k < length ts → ((j : ℕ) → j < k → may_move (tile_at ts j) (tile_at ts (j + 1)) ≡ false) → NoneBelow (tile_at ts k).first ts
quiet_until first end [] k h within none = tt
quiet_until first end (t ∷ ts) zero h within none = quiet_from t.first (t ∷ ts) (covers_from first end t.first (t ∷ ts) h (omega (arith, h.0)))
quiet_until first end (t ∷ []) (suc k) h within none = tt
quiet_until first end (t ∷ u ∷ us) (suc k) h within none =
    ((λ low. none 0 (omega arith)), quiet_until (first + t.words) end (u ∷ us) k h.1 (omega arith) (λ j below. next j (none (suc j) (omega arith))))
  where
    next : (j : ℕ) → may_move (tile_at (t ∷ u ∷ us) (suc j)) (tile_at (t ∷ u ∷ us) (suc j + 1)) ≡ false → may_move (tile_at (u ∷ us) j) (tile_at (u ∷ us) (j + 1)) ≡ false
    next j g = let e : suc j + 1 ≡ suc (j + 1) = omega arith in rw e at g
