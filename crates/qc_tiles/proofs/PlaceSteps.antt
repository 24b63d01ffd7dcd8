-- What writing cells and marks makes of the blocks.
use Rattle.std.proofs.Common.{length-append, subst, ◌≡◌, ◌≢◌, ℕ, ◌+◌, ◌*◌, ◌-◌, ◌/◌, ◌<◌, ◌≤◌, List, [], ◌∷◌, ◌++◌, length, take, drop, set, refl, sym, ap, ◌∙◌, arith, zero, suc, Option, Some, get_or-set_other, get_or-set_same}
use Rattle.std.proofs.Math.ListN.{length-set}
use Rattle.std.proofs.lemmas.List.{take-append-drop}
use Rattle.std.specs.List.{AllByRecursion}
use Rattle.std.specs.Prelude.{slice_index}
use Rattle.qc_tiles.specs.declared.blocks.Tile.{Tile}
use Rattle.qc_types.specs.Blocks.{least_block}
use Rattle.qc_tiles.specs.Tiles.{CoversFrom, region_words}
use Rattle.qc_tiles.specs.Kept.{tile_at}
use Rattle.qc_tiles.specs.Cells.{begun, IsMarked, IsPlaced, IsAt}
use Rattle.qc_tiles.proofs.Tilings.{AreLarge, covers_back, covers_both, each_both}
use Rattle.qc_tiles.proofs.Points.{each_front, each_back}
use Rattle.qc_tiles.proofs.Walks.{split_at}
use Rattle.qc_tiles.proofs.Keeps.{covers_then}
use Rattle.qc_tiles.proofs.Standing.{place_bounds, large_at, each_at}
use Rattle.qc_tiles.proofs.CellWalks.{AllBelow, AllFrom, Around, around_one, put_around, placed_set}

-- ---- the blocks before and behind one

pub low_ends : (first end : ℕ) (ts : List Tile) (k : ℕ) → CoversFrom first end ts → k < length ts → AllByRecursion (λ u. u.first + u.words ≤ (tile_at ts k).first) (take k ts)
low_ends first end [] k h within = absurd (omega arith)
low_ends first end (t ∷ ts) zero h within = tt
low_ends first end (t ∷ ts) (suc k) h within =
    (omega (arith, h.0, (place_bounds (first + t.words) end ts k h.1 (omega arith)).0), low_ends (first + t.words) end ts k h.1 (omega arith))

pub covers_from : (first end m : ℕ) (ts : List Tile) → CoversFrom first end ts → m ≤ first → AllByRecursion (λ u. m ≤ u.first) ts
covers_from first end m [] h low = tt
covers_from first end m (t ∷ ts) h low = (omega (arith, h.0), covers_from (first + t.words) end m ts h.1 (omega arith))

pub high_starts : (first end : ℕ) (ts : List Tile) (k : ℕ) → CoversFrom first end ts → k < length ts → AllByRecursion (λ u. (tile_at ts k).first + (tile_at ts k).words ≤ u.first) (drop (k + 1) ts)
high_starts first end [] k h within = absurd (omega arith)
high_starts first end (t ∷ ts) zero h within = covers_from (first + t.words) end (t.first + t.words) ts h.1 (omega (arith, h.0))
high_starts first end (t ∷ ts) (suc k) h within =
    let e : suc k + 1 ≡ suc (k + 1) = omega arith in
    rw e (high_starts (first + t.words) end ts k h.1 (omega arith))

pub front_each : (P : Tile → Type 0) (ts : List Tile) (k : ℕ) → AllByRecursion P ts → AllByRecursion P (take k ts)
front_each P ts k h = each_front P (take k ts) (drop k ts) (rw (take-append-drop k ts) h)

pub back_each : (P : Tile → Type 0) (ts : List Tile) (k : ℕ) → AllByRecursion P ts → AllByRecursion P (drop k ts)
back_each P ts k h = each_back P (take k ts) (drop k ts) (rw (take-append-drop k ts) h)

pub ends_below : (m n : ℕ) (ts : List Tile) → AreLarge ts → AllByRecursion (λ u. u.first + u.words ≤ m) ts → m < n + 64 → AllBelow n ts
ends_below m n [] large h low = tt
ends_below m n (t ∷ ts) large h low = (omega (arith, large.0, h.0), ends_below m n ts large.1 h.1 low)

pub starts_from : (m n : ℕ) (ts : List Tile) → AllByRecursion (λ u. m ≤ u.first) ts → n ≤ m → AllFrom n ts
starts_from m n [] h low = tt
starts_from m n (t ∷ ts) h low = (omega (arith, h.0), starts_from m n ts h.1 low)

-- ---- the cell of a block

pub cell_within : (s : List (Option Tile)) (e : List ℕ) (n k first words i : ℕ) → IsPlaced s e n → IsAt (begun s) k first words → 64 * i ≤ first + (words - 1) → i < length s
cell_within s e n k first words i h at low =
    omega (arith, (place_bounds 0 (64 * length s) (begun s) k h.covers at.within).1, large_at (begun s) k h.large at.within, at.first, at.words)

pub around_of : (s : List (Option Tile)) (e : List ℕ) (n k first words i : ℕ) → IsPlaced s e n → IsAt (begun s) k first words → 64 * i ≤ first → first < 64 * i + 64 → Around s i (take k (begun s)) (drop (k + 1) (begun s))
around_of s e n k first words i h at low high =
    let t = tile_at (begun s) k in
    let large = large_at (begun s) k h.large at.within in
    around_one s i (take k (begun s)) t (drop (k + 1) (begun s)) h.placed (cell_within s e n k first words i h at (omega arith)) (split_at (begun s) k at.within)
    (ends_below t.first (64 * i) (take k (begun s)) (front_each (λ u. least_block ≤ u.words) (begun s) k h.large) (low_ends 0 (64 * length s) (begun s) k h.covers at.within) (omega (arith, at.first)))
    (omega (arith, at.first)) (omega (arith, at.first))
    (starts_from (t.first + t.words) (64 * i + 64) (drop (k + 1) (begun s)) (high_starts 0 (64 * length s) (begun s) k h.covers at.within) (omega (arith, at.first, large)))

-- ---- other blocks in the middle

pub swap_middle : (first end : ℕ) (low mid high zs : List Tile) → CoversFrom first end (low ++ (mid ++ high)) → CoversFrom (first + region_words low) (first + region_words low + region_words mid) zs → CoversFrom first end (low ++ (zs ++ high))
swap_middle first end low mid high zs h k =
    let a = first + region_words low in
    let back = covers_back first end low (mid ++ high) h in
    covers_both first end low (mid ++ high) (zs ++ high) h (covers_then a (a + region_words mid) end zs high k (covers_back a end mid high back))

-- where the block at an index begins
pub begins : (end : ℕ) (ts : List Tile) (k : ℕ) → CoversFrom 0 end ts → k < length ts → (tile_at ts k).first ≡ 0 + region_words (take k ts)
begins end ts k h within = (covers_back 0 end (take k ts) (tile_at ts k ∷ drop (k + 1) ts) (subst (λ (xs : List Tile). CoversFrom 0 end xs) (split_at ts k within) h)).0

-- ---- marks

other_cell : (p q : ℕ) → p + 64 ≤ q → p / 64 ≢ q / 64
other_cell p q h e = omega (arith, e, h)

pub marked_low : (ends : List ℕ) (p q v : ℕ) (ts : List Tile) → AreLarge ts → AllByRecursion (λ u. u.first + u.words ≤ p) ts → p + 63 ≤ q → AllByRecursion (IsMarked ends) ts → AllByRecursion (IsMarked (set ends (q / 64) v)) ts
marked_low ends p q v [] large low far h = tt
marked_low ends p q v (t ∷ ts) large low far h =
    let apart : (t.first + (t.words - 1)) / 64 ≢ q / 64 = other_cell (t.first + (t.words - 1)) q (omega (arith, large.0, low.0)) in
    (get_or-set_other ends (q / 64) ((t.first + (t.words - 1)) / 64) v 0 apart ∙ h.0, marked_low ends p q v ts large.1 low.1 far h.1)

pub marked_high : (ends : List ℕ) (p q v : ℕ) (ts : List Tile) → AreLarge ts → AllByRecursion (λ u. p ≤ u.first) ts → q < p → AllByRecursion (IsMarked ends) ts → AllByRecursion (IsMarked (set ends (q / 64) v)) ts
marked_high ends p q v [] large high far h = tt
marked_high ends p q v (t ∷ ts) large high far h =
    let apart : (t.first + (t.words - 1)) / 64 ≢ q / 64 = (λ e. other_cell q (t.first + (t.words - 1)) (omega (arith, large.0, high.0)) (sym e)) in
    (get_or-set_other ends (q / 64) ((t.first + (t.words - 1)) / 64) v 0 apart ∙ h.0, marked_high ends p q v ts large.1 high.1 far h.1)

pub marked_here : (ends : List ℕ) (q : ℕ) (t : Tile) → t.first + (t.words - 1) ≡ q → q / 64 < length ends → IsMarked (set ends (q / 64) t.first) t
marked_here ends q t e within = rw e (get_or-set_same ends (q / 64) t.first 0 within)

-- ---- the writes

pub each_three : (P : Tile → Type 0) (low zs high : List Tile) → AllByRecursion P low → AllByRecursion P zs → AllByRecursion P high → AllByRecursion P (low ++ (zs ++ high))
each_three P low zs high a b c = each_both P low (zs ++ high) a (each_both P zs high b c)

-- the parts of a list round one of its blocks
pub record PartsAt (s : List (Option Tile)) (e : List ℕ) (k first words : ℕ) : Type 0 where
  pub large_low : AreLarge (take k (begun s))
  pub large_high : AreLarge (drop (k + 1) (begun s))
  pub low : AllByRecursion (λ u. u.first + u.words ≤ first) (take k (begun s))
  pub high : AllByRecursion (λ u. first + words ≤ u.first) (drop (k + 1) (begun s))
  pub marked_low : AllByRecursion (IsMarked e) (take k (begun s))
  pub marked_high : AllByRecursion (IsMarked e) (drop (k + 1) (begun s))
  pub fits : first + words ≤ 64 * length s
  pub some : least_block ≤ words
  pub begins : first ≡ 0 + region_words (take k (begun s))
  pub split : begun s ≡ take k (begun s) ++ (tile_at (begun s) k ∷ drop (k + 1) (begun s))

pub parts_at : (s : List (Option Tile)) (e : List ℕ) (n k first words : ℕ) → IsPlaced s e n → IsAt (begun s) k first words → PartsAt s e k first words
parts_at s e n k first words h at =
    let ts = begun s in
    record {
      large_low = front_each (λ u. least_block ≤ u.words) ts k h.large;
      large_high = back_each (λ u. least_block ≤ u.words) ts (k + 1) h.large;
      low = subst (λ (m : ℕ). AllByRecursion (λ u. u.first + u.words ≤ m) (take k ts)) at.first (low_ends 0 (64 * length s) ts k h.covers at.within);
      high = subst (λ (m : ℕ). AllByRecursion (λ u. m ≤ u.first) (drop (k + 1) ts)) (ap (λ m. m + (tile_at ts k).words) at.first ∙ ap (λ m. first + m) at.words) (high_starts 0 (64 * length s) ts k h.covers at.within);
      marked_low = front_each (IsMarked e) ts k h.marked;
      marked_high = back_each (IsMarked e) ts (k + 1) h.marked;
      fits = omega (arith, (place_bounds 0 (64 * length s) ts k h.covers at.within).1, at.first, at.words);
      some = omega (arith, large_at ts k h.large at.within, at.words);
      begins = sym at.first ∙ begins (64 * length s) ts k h.covers at.within;
      split = split_at ts k at.within;
    }

-- other blocks in the place of one
pub replaced_covers : (s : List (Option Tile)) (e : List ℕ) (n k first words : ℕ) (zs : List Tile) → IsPlaced s e n → IsAt (begun s) k first words → CoversFrom first (first + words) zs → CoversFrom 0 (64 * length s) (take k (begun s) ++ (zs ++ drop (k + 1) (begun s)))
replaced_covers s e n k first words zs h at covers =
    let ts = begun s in
    let t = tile_at ts k in
    let p = parts_at s e n k first words h at in
    let start : first ≡ 0 + region_words (take k ts) = p.begins in
    let stop : first + words ≡ 0 + region_words (take k ts) + region_words (t ∷ []) = omega (arith, p.begins, at.words) in
    swap_middle 0 (64 * length s) (take k ts) (t ∷ []) (drop (k + 1) ts) zs (subst (λ (xs : List Tile). CoversFrom 0 (64 * length s) xs) p.split h.covers)
    (subst (λ (m : ℕ). CoversFrom (0 + region_words (take k ts)) m zs) stop (subst (λ (m : ℕ). CoversFrom m (first + words) zs) start covers))

pub change_view : (s : List (Option Tile)) (e : List ℕ) (n k i : ℕ) (t : Tile) → IsPlaced s e n → IsAt (begun s) k t.first t.words → 64 * i ≤ t.first → t.first < 64 * i + 64 → begun (set s i (Some t)) ≡ take k (begun s) ++ (t ∷ drop (k + 1) (begun s))
change_view s e n k i t h at low high = put_around s i (take k (begun s)) (drop (k + 1) (begun s)) t (around_of s e n k t.first t.words i h at low high)

pub last_cell : (ends : List ℕ) (cells q : ℕ) → length ends ≡ cells → q < 64 * cells → q / 64 < length ends
last_cell ends cells q e h = omega (arith, e, h)

count_three : (low high : List Tile) (t : Tile) (ts : List Tile) → ts ≡ low ++ (t ∷ high) → length ts ≡ length low + (length high + 1)
count_three low high t ts e = omega (arith, ap length e, length-append low (t ∷ high))

pub change_placed : (s : List (Option Tile)) (e : List ℕ) (n k i : ℕ) (t : Tile) → IsPlaced s e n → IsAt (begun s) k t.first t.words → 64 * i ≤ t.first → t.first < 64 * i + 64 → IsPlaced (set s i (Some t)) e n
change_placed s e n k i t h at low high =
    let ts = begun s in
    let p = parts_at s e n k t.first t.words h at in
    let made = change_view s e n k i t h at low high in
    let same : length (set s i (Some t)) ≡ length s = length-set s i (Some t) in
    let marked : IsMarked e t = subst (λ (m : ℕ). slice_index e ((m + (t.words - 1)) / 64) ≡ m) at.first (subst (λ (m : ℕ). slice_index e (((tile_at ts k).first + (m - 1)) / 64) ≡ (tile_at ts k).first) at.words (each_at (IsMarked e) ts k h.marked at.within)) in
    record {
      covers = rw (made, same) (replaced_covers s e n k t.first t.words (t ∷ []) h at (refl, refl));
      large = rw made (each_three (λ u. least_block ≤ u.words) (take k ts) (t ∷ []) (drop (k + 1) ts) p.large_low (p.some, tt) p.large_high);
      placed = placed_set 0 i s t h.placed (omega arith) (omega arith);
      marks = h.marks ∙ sym same;
      marked = rw made (each_three (IsMarked e) (take k ts) (t ∷ []) (drop (k + 1) ts) p.marked_low (marked, tt) p.marked_high);
      counted = omega (arith, h.counted, count_three (take k ts) (drop (k + 1) ts) (tile_at ts k) ts p.split, count_three (take k ts) (drop (k + 1) ts) t (begun (set s i (Some t))) made);
      few = omega (arith, same, h.few);
    }
