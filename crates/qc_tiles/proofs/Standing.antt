-- Where a block stands in a tiling.
use Rattle.std.proofs.Common.{◌≡◌, ℕ, ◌+◌, ◌<◌, ◌≤◌, Bool, true, false, cond, List, [], ◌∷◌, ◌++◌, length, take, drop, nat_le, refl, ap, ◌∙◌, arith, zero, suc, Option, Some, None, ◌⊎◌, inl, inr}
use Rattle.std.specs.Prelude.{◌&&◌, ◌==◌, Contains}
use Rattle.std.specs.List.{AllByRecursion}
use Rattle.std.proofs.lemmas.Bool.{leb-true}
use Rattle.std.proofs.Common.{eq-eqb}
use Rattle.qc_tiles.specs.declared.blocks.Tile.{Tile}
use Rattle.qc_tiles.specs.declared.blocks.Block.{Block}
use Rattle.qc_types.specs.Blocks.{least_block}
use Rattle.qc_tiles.specs.Tiles.{block_of, CoversFrom, replaced, handed_out, best, holds, smaller}
use Rattle.qc_tiles.specs.Kept.{tile_at, InHand}
use Rattle.qc_tiles.proofs.Tilings.{AreLarge, covers_words}

-- a block stands between the ends
pub place_bounds : (first end : ℕ) (ts : List Tile) (k : ℕ) → CoversFrom first end ts → k < length ts → (first ≤ (tile_at ts k).first) × ((tile_at ts k).first + (tile_at ts k).words ≤ end)
place_bounds first end [] k h within = absurd (omega arith)
place_bounds first end (t ∷ ts) zero h within = (omega (arith, h.0), omega (arith, h.0, covers_words (first + t.words) end ts h.1))
place_bounds first end (t ∷ ts) (suc k) h within =
    let rest = place_bounds (first + t.words) end ts k h.1 (omega arith) in
    (omega (arith, rest.0), rest.1)

pub large_at : (ts : List Tile) (k : ℕ) → AreLarge ts → k < length ts → least_block ≤ (tile_at ts k).words
large_at [] k h within = absurd (omega arith)
large_at (t ∷ ts) zero h within = h.0
large_at (t ∷ ts) (suc k) h within = large_at ts k h.1 (omega arith)

pub each_at : (P : Tile → Type 0) (ts : List Tile) (k : ℕ) → AllByRecursion P ts → k < length ts → P (tile_at ts k)
each_at P [] k h within = absurd (omega arith)
each_at P (t ∷ ts) zero h within = h.0
each_at P (t ∷ ts) (suc k) h within = each_at P ts k h.1 (omega arith)

-- blocks behind a place aren't there
pub later_first : (first end : ℕ) (t : Tile) (ts : List Tile) (k : ℕ) → CoversFrom first end (t ∷ ts) → least_block ≤ t.words → k < length ts → t.first < (tile_at ts k).first
later_first first end t ts k h large within = omega (arith, h.0, (place_bounds (first + t.words) end ts k h.1 within).0)

-- two blocks at one place are one
pub same_index : (first end : ℕ) (ts : List Tile) (j k : ℕ) → CoversFrom first end ts → AreLarge ts → j < length ts → k < length ts → (tile_at ts j).first ≡ (tile_at ts k).first → j ≡ k
same_index first end [] j k h large j_in k_in same = absurd (omega arith)
same_index first end (t ∷ ts) zero zero h large j_in k_in same = refl
same_index first end (t ∷ ts) zero (suc k) h large j_in k_in same = absurd (omega (arith, same, later_first first end t ts k h large.0 (omega arith)))
same_index first end (t ∷ ts) (suc j) zero h large j_in k_in same = absurd (omega (arith, same, later_first first end t ts j h large.0 (omega arith)))
same_index first end (t ∷ ts) (suc j) (suc k) h large j_in k_in same = ap (λ n. suc n) (same_index (first + t.words) end ts j k h.1 large.1 (omega arith) (omega arith) same)

-- ---- what is replaced

replaced_here : (first : ℕ) (f : Tile → List Tile) (t : Tile) (ts : List Tile) → t.first ≡ first → replaced first f (t ∷ ts) ≡ f t ++ replaced first f ts
replaced_here first f t ts e = rw (eq-eqb t.first first e) refl

differs : (m n : ℕ) → (m ≡ n → ⊥) → (m == n) ≡ false
differs m n h =
    elim (m == n) as (λ b. (m == n) ≡ b → b ≡ false) [
      | true ↦ λ e. absurd (h (same m n e))
      | false ↦ λ e. refl
    ] refl
  where
    same : (a b : ℕ) → (a == b) ≡ true → a ≡ b
    same a b e = grind (arith, e)

replaced_there : (first : ℕ) (f : Tile → List Tile) (t : Tile) (ts : List Tile) → (t.first ≡ first → ⊥) → replaced first f (t ∷ ts) ≡ t ∷ replaced first f ts
replaced_there first f t ts e = rw (differs t.first first e) refl

replaced_none : (place first end : ℕ) (f : Tile → List Tile) (ts : List Tile) → CoversFrom first end ts → place < first → replaced place f ts ≡ ts
replaced_none place first end f [] h below = refl
replaced_none place first end f (t ∷ ts) h below =
    replaced_there place f t ts (λ e. omega (arith, e, h.0)) ∙ ap (λ rest. t ∷ rest) (replaced_none place (first + t.words) end f ts h.1 (omega arith))

pub replaced_at : (first end : ℕ) (f : Tile → List Tile) (ts : List Tile) (k : ℕ) → CoversFrom first end ts → AreLarge ts → k < length ts
    → replaced (tile_at ts k).first f ts ≡ take k ts ++ (f (tile_at ts k) ++ drop (k + 1) ts)
replaced_at first end f [] k h large within = absurd (omega arith)
replaced_at first end f (t ∷ ts) zero h large within =
    replaced_here t.first f t ts refl ∙ ap (λ rest. f t ++ rest) (replaced_none t.first (first + t.words) end f ts h.1 (omega (arith, h.0, large.0)))
replaced_at first end f (t ∷ ts) (suc k) h large within =
    let later : t.first < (tile_at ts k).first = later_first first end t ts k h large.0 (omega arith) in
    let e : suc k + 1 ≡ suc (k + 1) = omega arith in
    rw e
    (replaced_there (tile_at ts k).first f t ts (λ g. omega (arith, g, later))
    ∙ ap (λ rest. t ∷ rest) (replaced_at (first + t.words) end f ts k h.1 large.1 (omega arith)))

-- ---- blocks that are handed out

next_in_hand : (t : Tile) (ts : List Tile) (b : Block) (k : ℕ) → InHand ts b k → InHand (t ∷ ts) b (suc k)
next_in_hand t ts b k h = record { within = omega (arith, h.within); first = h.first; words = h.words; used = h.used }

used-free : (t : Tile) (ts : List Tile) → t.free ≡ true → handed_out (t ∷ ts) ≡ handed_out ts
used-free t ts e = rw e refl

used-used : (t : Tile) (ts : List Tile) → t.free ≡ false → handed_out (t ∷ ts) ≡ block_of t ∷ handed_out ts
used-used t ts e = rw e refl

contains_cons : (b c : Block) (bs : List Block) → Contains (c ∷ bs) b → (c ≡ b) ⊎ Contains bs b
contains_cons b c bs (zero, within, same) = inl same
contains_cons b c bs (suc k, within, same) = inr (k, omega arith, same)

later_in_hand : (t : Tile) (ts : List Tile) (b : Block) → (k : ℕ) × InHand ts b k → (k : ℕ) × InHand (t ∷ ts) b k
later_in_hand t ts b p = (suc p.0, next_in_hand t ts b p.0 p.1)

front_in_hand : (t : Tile) (ts : List Tile) (b : Block) → t.free ≡ false → (Contains (handed_out ts) b → (k : ℕ) × InHand ts b k) → (block_of t ≡ b) ⊎ Contains (handed_out ts) b → (k : ℕ) × InHand (t ∷ ts) b k
front_in_hand t ts b e rest (inl same) = (0, record { within = omega arith; first = ap (λ c. c.first) same; words = ap (λ c. c.words) same; used = e })
front_in_hand t ts b e rest (inr h) = later_in_hand t ts b (rest h)

pub in_hand : (ts : List Tile) (b : Block) → Contains (handed_out ts) b → (k : ℕ) × InHand ts b k
in_hand [] b h = absurd (omega (arith, h.1))
in_hand (t ∷ ts) b h =
    elim t.free as (λ v. t.free ≡ v → (k : ℕ) × InHand (t ∷ ts) b k) [
      | true ↦ λ e. later_in_hand t ts b (in_hand ts b (rw (used-free t ts e) at h))
      | false ↦ λ e. front_in_hand t ts b e (in_hand ts b) (contains_cons b (block_of t) (handed_out ts) (rw (used-used t ts e) at h))
    ] refl

contains_later : (b c : Block) (bs : List Block) → Contains bs b → Contains (c ∷ bs) b
contains_later b c bs (k, within, same) = (suc k, omega arith, same)

pub hand_contains : (ts : List Tile) (b : Block) (k : ℕ) → InHand ts b k → Contains (handed_out ts) b
hand_contains [] b k h = absurd (omega (arith, h.within))
hand_contains (t ∷ ts) b zero h =
    let same : block_of t ≡ b = rw (h.first, h.words) refl in
    rw (used-used t ts h.used) (0, omega arith, same)
hand_contains (t ∷ ts) b (suc k) h =
    let rest = hand_contains ts b k (record { within = omega (arith, h.within); first = h.first; words = h.words; used = h.used }) in
    elim t.free as (λ v. t.free ≡ v → Contains (handed_out (t ∷ ts)) b) [
      | true ↦ λ e. rw (used-free t ts e) rest
      | false ↦ λ e. rw (used-used t ts e) (contains_later b (block_of t) (handed_out ts) rest)
    ] refl

-- ---- the smallest block that holds a need

-- a free block that holds a need, by its index
pub record HoldsAt (need : ℕ) (ts : List Tile) (t : Tile) (k : ℕ) : Type 0 where
  pub within : k < length ts
  pub is : tile_at ts k ≡ t
  pub free : t.free ≡ true
  pub large : need ≤ t.words

both : (a b : Bool) → (a && b) ≡ true → (a ≡ true) × (b ≡ true)
both true b h = (refl, h)
both false b h = absurd cc

smaller_of : (t : Tile) (o : Option Tile) (u : Tile) → smaller t o ≡ u → (t ≡ u) ⊎ (o ≡ Some u)
smaller_of t None u h = inl h
smaller_of t (Some v) u h =
    elim (nat_le t.words v.words) as (λ b. cond b t v ≡ u → (t ≡ u) ⊎ (Some v ≡ Some u)) [
      | true ↦ λ e. inl e
      | false ↦ λ e. inr (ap (λ x. Some x) e)
    ] h

later_holds : (need : ℕ) (u : Tile) (us : List Tile) (t : Tile) → (k : ℕ) × HoldsAt need us t k → (k : ℕ) × HoldsAt need (u ∷ us) t k
later_holds need u us t p = (suc p.0, record { within = omega (arith, p.1.within); is = p.1.is; free = p.1.free; large = p.1.large })

front_holds : (need : ℕ) (u : Tile) (us : List Tile) (t : Tile) → holds need u ≡ true → (best need us ≡ Some t → (k : ℕ) × HoldsAt need us t k) → (u ≡ t) ⊎ (best need us ≡ Some t) → (k : ℕ) × HoldsAt need (u ∷ us) t k
front_holds need u us t e rest (inl same) =
    let parts = both u.free (nat_le need u.words) e in
    (0, record { within = omega arith; is = same; free = rw same at parts.0; large = rw same at (leb-true need u.words parts.1) })
front_holds need u us t e rest (inr h) = later_holds need u us t (rest h)

pub best_at : (need : ℕ) (ts : List Tile) (t : Tile) → best need ts ≡ Some t → (k : ℕ) × HoldsAt need ts t k
best_at need [] t h = absurd (cc h)
best_at need (u ∷ us) t h =
    elim (holds need u) as (λ v. holds need u ≡ v → cond v (Some (smaller u (best need us))) (best need us) ≡ Some t → (k : ℕ) × HoldsAt need (u ∷ us) t k) [
      | true ↦ λ e g. front_holds need u us t e (best_at need us t) (smaller_of u (best need us) t (cc g))
      | false ↦ λ e g. later_holds need u us t (best_at need us t g)
    ] refl h
