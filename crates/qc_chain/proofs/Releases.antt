-- Blocks given back one after another.
use Rattle.std.proofs.Common.{subst, ◌≡◌, ℕ, ◌+◌, Bool, true, false, cond, List, [], ◌∷◌, refl, sym, ap, ◌∙◌, arith, zero, suc, inl, inr, ◌⊎◌, Some}
use Rattle.std.specs.Prelude.{Contains, ◌&&◌, ◌==◌, slice_get}
use Rattle.std.specs.List.{AllByRecursion}
use Rattle.std.proofs.lemmas.Bool.{eqb-true}
use Rattle.qc_tiles.specs.declared.blocks.Tile.{Tile}
use Rattle.qc_tiles.specs.declared.blocks.Block.{Block}
use Rattle.qc_tiles.specs.Tiles.{block_of, free_tile, IsTiling, region_words, handed_out, joined_to, joined, replaced, after_give_back}
use Rattle.qc_tiles.specs.Kept.{tile_at}
use Rattle.qc_tiles.proofs.Tilings.{tiling_words}
use Rattle.qc_tiles.proofs.Standing.{in_hand, same_index}
use Rattle.qc_chain.specs.Chains.{AreHandedOut}

-- ---- the blocks that are handed out

used-free : (t : Tile) (ts : List Tile) → t.free ≡ true → handed_out (t ∷ ts) ≡ handed_out ts
used-free t ts e = rw e refl

used-used : (t : Tile) (ts : List Tile) → t.free ≡ false → handed_out (t ∷ ts) ≡ block_of t ∷ handed_out ts
used-used t ts e = rw e refl

pub in_front : (b c : Block) (bs : List Block) → Contains (c ∷ bs) b → (c ≡ b) ⊎ Contains bs b
in_front b c bs (zero, within, same) = inl same
in_front b c bs (suc k, within, same) = inr (k, omega arith, same)

pub behind : (b c : Block) (bs : List Block) → Contains bs b → Contains (c ∷ bs) b
behind b c bs (k, within, same) = (suc k, omega arith, same)

pub in_first : (b : Block) (bs : List Block) → Contains (b ∷ bs) b
in_first b bs = (0, omega arith, refl)

to_used : (t u : Tile) (us : List Tile) (a b : Bool) → t.free ≡ a → u.free ≡ b → handed_out (cond (a && b) (free_tile t.first (t.words + u.words) ∷ us) (t ∷ u ∷ us)) ≡ handed_out (t ∷ u ∷ us)
to_used t u us true true e f = sym (used-free t (u ∷ us) e ∙ used-free u us f)
to_used t u us true false e f = refl
to_used t u us false b e f = refl

joined_to-used : (t : Tile) (us : List Tile) → handed_out (joined_to t us) ≡ handed_out (t ∷ us)
joined_to-used t [] = refl
joined_to-used t (u ∷ us) = to_used t u us t.free u.free refl refl

used-cons : (t : Tile) (us vs : List Tile) → handed_out us ≡ handed_out vs → handed_out (t ∷ us) ≡ handed_out (t ∷ vs)
used-cons t us vs h =
    elim t.free as (λ v. t.free ≡ v → handed_out (t ∷ us) ≡ handed_out (t ∷ vs)) [
      | true ↦ λ e. used-free t us e ∙ (h ∙ sym (used-free t vs e))
      | false ↦ λ e. used-used t us e ∙ (ap (λ bs. block_of t ∷ bs) h ∙ sym (used-used t vs e))
    ] refl

-- joining makes no block another
pub joined-used : (ts : List Tile) → handed_out (joined ts) ≡ handed_out ts
joined-used [] = refl
joined-used (t ∷ ts) = joined_to-used t (joined ts) ∙ used-cons t (joined ts) ts (joined-used ts)

-- ---- one block given back

stays : (t : Tile) (ts us : List Tile) (c : Block) → (Contains (handed_out ts) c → Contains (handed_out us) c) → Contains (handed_out (t ∷ ts)) c → Contains (handed_out (t ∷ us)) c
stays t ts us c rest h =
    elim t.free as (λ v. t.free ≡ v → Contains (handed_out (t ∷ us)) c) [
      | true ↦ λ e. rw (used-free t us e) (rest (rw (used-free t ts e) at h))
      | false ↦ λ e. rw (used-used t us e) (elim (in_front c (block_of t) (handed_out ts) (rw (used-used t ts e) at h)) [
        | inl same ↦ rw same (in_first c (handed_out us))
        | inr later ↦ behind c (block_of t) (handed_out us) (rest later)
      ])
    ] refl

passes : (t : Tile) (ts us : List Tile) (c : Block) → (t.first ≡ c.first → ⊥) → (Contains (handed_out ts) c → Contains (handed_out us) c) → Contains (handed_out (t ∷ ts)) c → Contains (handed_out us) c
passes t ts us c other rest h =
    elim t.free as (λ v. t.free ≡ v → Contains (handed_out us) c) [
      | true ↦ λ e. rest (rw (used-free t ts e) at h)
      | false ↦ λ e. elim (in_front c (block_of t) (handed_out ts) (rw (used-used t ts e) at h)) [
        | inl same ↦ absurd (other (ap (λ (b : Block). b.first) same))
        | inr later ↦ rest later
      ]
    ] refl

pub stays_in_hand : (first : ℕ) (ts : List Tile) (c : Block) → (c.first ≡ first → ⊥) → Contains (handed_out ts) c → Contains (handed_out (replaced first (λ t. free_tile t.first t.words ∷ []) ts)) c
stays_in_hand first [] c other h = h
stays_in_hand first (t ∷ ts) c other h =
    let us = replaced first (λ t. free_tile t.first t.words ∷ []) ts in
    elim (t.first == first) as (λ v. (t.first == first) ≡ v → Contains (handed_out (cond v (free_tile t.first t.words ∷ us) (t ∷ us))) c) [
      | true ↦ λ e. passes t ts us c (λ same. other (sym same ∙ eqb-true t.first first e)) (stays_in_hand first ts c other) h
      | false ↦ λ e. stays t ts us c (stays_in_hand first ts c other) h
    ] refl

-- two handed-out blocks of a tiling with one place are one block
pub same_place : (words : ℕ) (ts : List Tile) (b c : Block) → IsTiling words ts → Contains (handed_out ts) b → Contains (handed_out ts) c → b.first ≡ c.first → b ≡ c
same_place words ts b c tiling here there same =
    let x = in_hand ts b here in
    let y = in_hand ts c there in
    let index : x.0 ≡ y.0 = same_index 0 words ts x.0 y.0 tiling.covers tiling.large x.1.within y.1.within (x.1.first ∙ (same ∙ sym y.1.first)) in
    let long : b.words ≡ c.words = sym x.1.words ∙ (ap (λ k. (tile_at ts k).words) index ∙ y.1.words) in
    rw (same, long) refl

pub still_in_hand : (words : ℕ) (ts : List Tile) (b c : Block) → IsTiling words ts → Contains (handed_out ts) b → Contains (handed_out ts) c → (b ≡ c → ⊥) → Contains (handed_out (after_give_back b.first ts)) c
still_in_hand words ts b c tiling here there other =
    rw (joined-used (replaced b.first (λ t. free_tile t.first t.words ∷ []) ts)) (stays_in_hand b.first ts c (λ same. other (same_place words ts b c tiling here there (sym same))) there)

others_stay : (words : ℕ) (ts : List Tile) (b : Block) (bs : List Block) → IsTiling words ts → Contains (handed_out ts) b → (Contains bs b → ⊥) → AllByRecursion (Contains (handed_out ts)) bs → AllByRecursion (Contains (handed_out (after_give_back b.first ts))) bs
others_stay words ts b [] tiling here once h = tt
others_stay words ts b (c ∷ bs) tiling here once h = (
  still_in_hand words ts b c tiling here h.0 (λ same. once (rw same (in_first c bs))),
  others_stay words ts b bs tiling here (λ later. once (behind b c bs later)) h.1,
)

-- where blocks are handed out, and the first one is given back, the others are still handed out
pub rest_handed_out : (words : ℕ) (ts : List Tile) (b : Block) (bs : List Block) → IsTiling words ts → AreHandedOut ts (b ∷ bs) → AreHandedOut (after_give_back b.first ts) bs
rest_handed_out words ts b bs tiling h = record { each = others_stay words ts b bs tiling h.each.0 h.once.0 h.each.1; once = h.once.1 }

-- a tiling told by the words of another one
pub told_by : (words : ℕ) (ts us : List Tile) → IsTiling words ts → IsTiling (region_words ts) us → IsTiling words us
told_by words ts us h k = subst (λ (n : ℕ). IsTiling n us) (sym (tiling_words words ts h)) k

pub first_handed_out : (ts : List Tile) (bs : List Block) (b : Block) → AreHandedOut ts bs → slice_get bs 0 ≡ Some b → Contains (handed_out ts) b
first_handed_out ts [] b h first = absurd (cc first)
first_handed_out ts (x ∷ bs) b h first = let same : x ≡ b = cc first in rw (← same) h.each.0
