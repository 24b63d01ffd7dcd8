-- Reading cells and marks.
use Rattle.std.proofs.Common.{◌≡◌, ℕ, ◌+◌, ◌*◌, ◌-◌, ◌/◌, ◌<◌, ◌≤◌, true, false, cond, List, [], ◌∷◌, ◌++◌, length, get_or, refl, sym, ap, ◌∙◌, arith, zero, suc, Option, Some, None}
use Rattle.std.specs.Prelude.{◌==◌, slice_index}
use Rattle.std.proofs.lemmas.Bool.Decides.{nat_tests}
use Rattle.std.proofs.lemmas.List.{get_or_default, get_or_past}
use Rattle.qc_tiles.specs.declared.blocks.Tile.{Tile}
use Rattle.qc_tiles.specs.Tiles.{CoversFrom}
use Rattle.qc_tiles.specs.Kept.{tile_at}
use Rattle.qc_tiles.specs.Cells.{begun, PlacedFrom, IsMarked, IsPlaced, IsAt, block_at, lower_of}
use Rattle.qc_tiles.proofs.Tilings.{AreLarge}
use Rattle.qc_tiles.proofs.Standing.{large_at, each_at, later_first, same_index}
use Rattle.qc_tiles.proofs.CellWalks.{get_is}
use Rattle.qc_tiles.proofs.PlaceCuts.{next_first}

differs : (m n : ℕ) → (m ≡ n → ⊥) → (m == n) ≡ false
differs m n h = grind (arith, nat_tests)

same_test : (m n : ℕ) → m ≡ n → (m == n) ≡ true
same_test m n h = grind (arith, nat_tests)

pub no_cell : (s : List (Option Tile)) (first k : ℕ) → PlacedFrom 0 s → 64 * k ≤ first → first < 64 * k + 64 → length s ≤ k → None ≡ block_at first (begun s)
no_cell s first k h low high past = sym (get_is 0 k first s h (omega arith) (omega arith) ∙ rw (get_or_past s k None past) refl)

pub empty_cell : (s : List (Option Tile)) (first k : ℕ) (o : Option Tile) → PlacedFrom 0 s → 64 * k ≤ first → first < 64 * k + 64 → k < length s → o ≡ get_or s k o → o ≡ None → None ≡ block_at first (begun s)
empty_cell s first k o h low high within read none =
    let is : get_or s k None ≡ None = get_or_default s k None o within ∙ (sym read ∙ none) in
    sym (get_is 0 k first s h (omega arith) (omega arith) ∙ rw is refl)

pub other_cell : (s : List (Option Tile)) (first k : ℕ) (o : Option Tile) (t : Tile) → PlacedFrom 0 s → 64 * k ≤ first → first < 64 * k + 64 → k < length s → o ≡ get_or s k o → o ≡ Some t → (t.first ≡ first → ⊥) → None ≡ block_at first (begun s)
other_cell s first k o t h low high within read some other =
    let is : get_or s k None ≡ Some t = get_or_default s k None o within ∙ (sym read ∙ some) in
    sym (get_is 0 k first s h (omega arith) (omega arith) ∙ rw (is, differs t.first first other) refl)

pub full_cell : (s : List (Option Tile)) (first k : ℕ) (o : Option Tile) (t : Tile) → PlacedFrom 0 s → 64 * k ≤ first → first < 64 * k + 64 → k < length s → o ≡ get_or s k o → o ≡ Some t → t.first ≡ first → Some t ≡ block_at first (begun s)
full_cell s first k o t h low high within read some same =
    let is : get_or s k None ≡ Some t = get_or_default s k None o within ∙ (sym read ∙ some) in
    sym (get_is 0 k first s h (omega arith) (omega arith) ∙ rw (is, same_test t.first first same) refl)

-- a block that is there is found
pub block_at_is : (first end : ℕ) (ts : List Tile) (k : ℕ) → CoversFrom first end ts → AreLarge ts → k < length ts → block_at (tile_at ts k).first ts ≡ Some (tile_at ts k)
block_at_is first end [] k h large within = absurd (omega arith)
block_at_is first end (t ∷ ts) zero h large within = rw (same_test t.first t.first refl) refl
block_at_is first end (t ∷ ts) (suc k) h large within =
    let later : t.first < (tile_at ts k).first = later_first first end t ts k h large.0 (omega arith) in
    rw (differs t.first (tile_at ts k).first (λ e. omega (arith, e, later))) (block_at_is (first + t.words) end ts k h.1 large.1 (omega arith))

-- what is found at a word is there
pub block_at_some : (first : ℕ) (ts : List Tile) (t : Tile) → block_at first ts ≡ Some t → (k : ℕ) × (k < length ts) × (tile_at ts k ≡ t) × (t.first ≡ first)
block_at_some first [] t h = absurd (cc h)
block_at_some first (u ∷ us) t h =
    elim (u.first == first) as (λ v. (u.first == first) ≡ v → cond v (Some u) (block_at first us) ≡ Some t → (k : ℕ) × (k < length (u ∷ us)) × (tile_at (u ∷ us) k ≡ t) × (t.first ≡ first)) [
      | true ↦ λ e g. (0, omega arith, cc g, here u t (cc g) (number u.first first e))
      | false ↦ λ e g. later u us (block_at_some first us t g)
    ] refl h
  where
    number : (a b : ℕ) → (a == b) ≡ true → a ≡ b
    number a b e = grind (arith, nat_tests)

    here : (x y : Tile) → x ≡ y → x.first ≡ first → y.first ≡ first
    here x y e g = rw e at g

    later : (x : Tile) (xs : List Tile) → (k : ℕ) × (k < length xs) × (tile_at xs k ≡ t) × (t.first ≡ first) → (k : ℕ) × (k < length (x ∷ xs)) × (tile_at (x ∷ xs) k ≡ t) × (t.first ≡ first)
    later x xs p = (suc p.0, omega (arith, p.1), p.2, p.3)

-- ---- the block in front

starts_at_0 : (end : ℕ) (ts : List Tile) → CoversFrom 0 end ts → 0 < length ts → (tile_at ts 0).first ≡ 0
starts_at_0 end [] h some = absurd (omega arith)
starts_at_0 end (t ∷ ts) h some = h.0

pub none_before : (s : List (Option Tile)) (e : List ℕ) (n k first words : ℕ) → IsPlaced s e n → IsAt (begun s) k first words → first ≡ 0 → None ≡ lower_of k (begun s)
none_before s e n zero first words h at zero_is = refl
none_before s e n (suc k) first words h at zero_is =
    let some : 0 < length (begun s) = omega (arith, at.within) in
    let same : 0 ≡ suc k = same_index 0 (64 * length s) (begun s) 0 (suc k) h.covers h.large some at.within (starts_at_0 (64 * length s) (begun s) h.covers some ∙ sym (at.first ∙ zero_is)) in
    absurd (omega (arith, same))

pub found_before : (s : List (Option Tile)) (e : List ℕ) (n k first words below : ℕ) → IsPlaced s e n → IsAt (begun s) k first words → (first ≡ 0 → ⊥) → below ≡ slice_index e ((first - 1) / 64) → block_at below (begun s) ≡ lower_of k (begun s)
found_before s e n zero first words below h at some mark = absurd (some (sym at.first ∙ starts_at_0 (64 * length s) (begun s) h.covers at.within))
found_before s e n (suc k) first words below h at some mark =
    let ts = begun s in
    let lt : k < length ts = omega (arith, at.within) in
    let next : suc k ≡ k + 1 = omega arith in
    let within : k + 1 < length ts = omega (arith, at.within) in
    let near : first ≡ (tile_at ts k).first + (tile_at ts k).words = sym at.first ∙ (ap (λ j. (tile_at ts j).first) next ∙ next_first 0 (64 * length s) ts k h.covers within) in
    let large = large_at ts k h.large lt in
    let last : first - 1 ≡ (tile_at ts k).first + ((tile_at ts k).words - 1) = omega (arith, near, large) in
    let is : below ≡ (tile_at ts k).first = mark ∙ (ap (λ m. slice_index e (m / 64)) last ∙ each_at (IsMarked e) ts k h.marked lt) in
    rw is (block_at_is 0 (64 * length s) ts k h.covers h.large lt)

-- ---- a new table of cells

pub begun_push : (s : List (Option Tile)) → begun (s ++ (None ∷ [])) ≡ begun s
begun_push [] = refl
begun_push (None ∷ s) = begun_push s
begun_push (Some t ∷ s) = ap (λ ts. t ∷ ts) (begun_push s)

pub placed_push : (n : ℕ) (s : List (Option Tile)) → PlacedFrom n s → PlacedFrom n (s ++ (None ∷ []))
placed_push n [] h = tt
placed_push n (None ∷ s) h = placed_push (n + 64) s h
placed_push n (Some t ∷ s) h = (h.0, h.1, placed_push (n + 64) s h.2)

-- the marks of a new table are all 0
pub zeros : (e : List ℕ) → ((k : ℕ) → slice_index e k ≡ 0) → (k : ℕ) → slice_index (e ++ (0 ∷ [])) k ≡ 0
zeros [] h zero = refl
zeros [] h (suc k) = refl
zeros (x ∷ e) h zero = h 0
zeros (x ∷ e) h (suc k) = zeros e (λ j. h (suc j)) k
