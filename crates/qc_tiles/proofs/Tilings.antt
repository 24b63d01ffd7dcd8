-- Tilings: what their parts are, and what joining makes of them.
use Rattle.std.proofs.Common.{◌≡◌, ℕ, ◌+◌, ◌*◌, ◌≤◌, Bool, true, false, cond, List, [], ◌∷◌, ◌++◌, length, refl, arith}
use Rattle.std.specs.Prelude.{◌&&◌}
use Rattle.std.specs.List.{AllByRecursion}
use Rattle.qc_tiles.specs.declared.blocks.Tile.{Tile}
use Rattle.qc_types.specs.Blocks.{least_block}
use Rattle.qc_tiles.specs.Tiles.{free_tile, CoversFrom, FreeApart, IsTiling, region_words, joined_to, joined}

pub covers_words : (first end : ℕ) (ts : List Tile) → CoversFrom first end ts → end ≡ first + region_words ts
covers_words first end [] h = omega (arith, h)
covers_words first end (t ∷ ts) h = omega (arith, covers_words (first + t.words) end ts h.1)

pub tiling_words : (words : ℕ) (ts : List Tile) → IsTiling words ts → words ≡ region_words ts
tiling_words words ts h = omega (arith, covers_words 0 words ts h.covers)

abbrev pub AreLarge : List Tile → Type 0
AreLarge ts = AllByRecursion (λ t. least_block ≤ t.words) ts

abbrev pub AreUnpinned : List Tile → Type 0
AreUnpinned ts = AllByRecursion (λ t. t.free ≡ true → t.pinned ≡ false) ts

pub length_words : (ts : List Tile) → AreLarge ts → least_block * length ts ≤ region_words ts
length_words [] h = omega arith
length_words (t ∷ ts) h = omega (arith, h.0, length_words ts h.1)

-- ---- a list in two parts

pub words_append : (xs ys : List Tile) → region_words (xs ++ ys) ≡ region_words xs + region_words ys
words_append [] ys = omega arith
words_append (x ∷ xs) ys = omega (arith, words_append xs ys)

pub covers_back : (first end : ℕ) (xs ys : List Tile) → CoversFrom first end (xs ++ ys) → CoversFrom (first + region_words xs) end ys
covers_back first end [] ys h = let same : first ≡ first + 0 = omega arith in rw (← same) h
covers_back first end (x ∷ xs) ys h =
    let same : (first + x.words) + region_words xs ≡ first + (x.words + region_words xs) = omega arith in
    rw (← same) (covers_back (first + x.words) end xs ys h.1)

pub covers_both : (first end : ℕ) (xs ys zs : List Tile) → CoversFrom first end (xs ++ ys) → CoversFrom (first + region_words xs) end zs → CoversFrom first end (xs ++ zs)
covers_both first end [] ys zs h k = let same : first + 0 ≡ first = omega arith in rw same at k
covers_both first end (x ∷ xs) ys zs h k =
    let same : (first + x.words) + region_words xs ≡ first + (x.words + region_words xs) = omega arith in
    (h.0, covers_both (first + x.words) end xs ys zs h.1 (rw same k))

pub each_both : {X : Type 0} (P : X → Type 0) (xs ys : List X) → AllByRecursion P xs → AllByRecursion P ys → AllByRecursion P (xs ++ ys)
each_both P [] ys h k = k
each_both P (x ∷ xs) ys h k = (h.0, each_both P xs ys h.1 k)

to_covers : (first end : ℕ) (t u : Tile) (us : List Tile) (a b : Bool) → CoversFrom first end (t ∷ u ∷ us) → CoversFrom first end (cond (a && b) (free_tile t.first (t.words + u.words) ∷ us) (t ∷ u ∷ us))
to_covers first end t u us true true h =
    let same : (first + t.words) + u.words ≡ first + (t.words + u.words) = omega arith in
    (h.0, rw (← same) h.1.1)
to_covers first end t u us true false h = h
to_covers first end t u us false b h = h

joined_to-covers : (first end : ℕ) (t : Tile) (us : List Tile) → CoversFrom first end (t ∷ us) → CoversFrom first end (joined_to t us)
joined_to-covers first end t [] h = h
joined_to-covers first end t (u ∷ us) h = to_covers first end t u us t.free u.free h

pub joined-covers : (first end : ℕ) (ts : List Tile) → CoversFrom first end ts → CoversFrom first end (joined ts)
joined-covers first end [] h = h
joined-covers first end (t ∷ ts) h = joined_to-covers first end t (joined ts) (h.0, joined-covers (first + t.words) end ts h.1)

to_large : (t u : Tile) (us : List Tile) (a b : Bool) → AreLarge (t ∷ u ∷ us) → AreLarge (cond (a && b) (free_tile t.first (t.words + u.words) ∷ us) (t ∷ u ∷ us))
to_large t u us true true h = (omega (arith, h.0), h.1.1)
to_large t u us true false h = h
to_large t u us false b h = h

joined_to-large : (t : Tile) (us : List Tile) → AreLarge (t ∷ us) → AreLarge (joined_to t us)
joined_to-large t [] h = h
joined_to-large t (u ∷ us) h = to_large t u us t.free u.free h

pub joined-large : (ts : List Tile) → AreLarge ts → AreLarge (joined ts)
joined-large [] h = h
joined-large (t ∷ ts) h = joined_to-large t (joined ts) (h.0, joined-large ts h.1)

to_unpinned : (t u : Tile) (us : List Tile) (a b : Bool) → AreUnpinned (t ∷ u ∷ us) → AreUnpinned (cond (a && b) (free_tile t.first (t.words + u.words) ∷ us) (t ∷ u ∷ us))
to_unpinned t u us true true h = (λ _. refl, h.1.1)
to_unpinned t u us true false h = h
to_unpinned t u us false b h = h

joined_to-unpinned : (t : Tile) (us : List Tile) → AreUnpinned (t ∷ us) → AreUnpinned (joined_to t us)
joined_to-unpinned t [] h = h
joined_to-unpinned t (u ∷ us) h = to_unpinned t u us t.free u.free h

pub joined-unpinned : (ts : List Tile) → AreUnpinned ts → AreUnpinned (joined ts)
joined-unpinned [] h = h
joined-unpinned (t ∷ ts) h = joined_to-unpinned t (joined ts) (h.0, joined-unpinned ts h.1)

-- a free block behind a list whose head may follow a free block
apart_free : (first words : ℕ) (u : Tile) (us : List Tile) → u.free ≡ true → FreeApart (u ∷ us) → FreeApart (free_tile first words ∷ us)
apart_free first words u [] e h = tt
apart_free first words u (v ∷ vs) e h = (λ _. h.0 e, h.1)

to_apart : (t u : Tile) (us : List Tile) (a b : Bool) → t.free ≡ a → u.free ≡ b → FreeApart (u ∷ us) → FreeApart (cond (a && b) (free_tile t.first (t.words + u.words) ∷ us) (t ∷ u ∷ us))
to_apart t u us true true e f h = apart_free t.first (t.words + u.words) u us f h
to_apart t u us true false e f h = (λ _. f, h)
to_apart t u us false b e f h = (λ g. absurd (cc (e, g)), h)

joined_to-apart : (t : Tile) (us : List Tile) → FreeApart us → FreeApart (joined_to t us)
joined_to-apart t [] h = tt
joined_to-apart t (u ∷ us) h = to_apart t u us t.free u.free refl refl h

pub joined-apart : (ts : List Tile) → FreeApart (joined ts)
joined-apart [] = tt
joined-apart (t ∷ ts) = joined_to-apart t (joined ts) (joined-apart ts)

-- a list of large blocks that covers the words is a tiling once its neighbours are joined
pub joined-tiling : (words : ℕ) (ts : List Tile) → CoversFrom 0 words ts → AreLarge ts → AreUnpinned ts → IsTiling words (joined ts)
joined-tiling words ts covers large unpinned = record {
  covers = joined-covers 0 words ts covers;
  large = joined-large ts large;
  apart = joined-apart ts;
  unpinned = joined-unpinned ts unpinned;
}

-- where free blocks are apart, joining changes nothing
stays_to : (t u : Tile) (us : List Tile) (a b : Bool) → (a ≡ true → b ≡ false) → cond (a && b) (free_tile t.first (t.words + u.words) ∷ us) (t ∷ u ∷ us) ≡ t ∷ u ∷ us
stays_to t u us true true h = absurd (cc (h refl))
stays_to t u us true false h = refl
stays_to t u us false b h = refl

pub joined_apart : (ts : List Tile) → FreeApart ts → joined ts ≡ ts
joined_apart [] h = refl
joined_apart (t ∷ []) h = refl
joined_apart (t ∷ u ∷ us) h = rw (joined_apart (u ∷ us) h.1) (stays_to t u us t.free u.free h.0)
