-- What cutting a block in two and making two blocks one does to cells and marks.
use Rattle.std.proofs.Common.{length-append, subst, ◌≡◌, ℕ, ◌+◌, ◌*◌, ◌-◌, ◌/◌, ◌<◌, ◌≤◌, List, [], ◌∷◌, ◌++◌, length, take, drop, set, refl, sym, ap, ◌∙◌, arith, zero, suc, Option, Some, None, append_assoc}
use Rattle.std.proofs.Math.ListN.{length-set}
use Rattle.std.specs.List.{AllByRecursion}
use Rattle.qc_tiles.specs.declared.blocks.Tile.{Tile}
use Rattle.qc_types.specs.Blocks.{least_block}
use Rattle.qc_tiles.specs.Tiles.{CoversFrom, region_words}
use Rattle.qc_tiles.specs.Kept.{tile_at}
use Rattle.qc_tiles.specs.Cells.{begun, IsMarked, IsPlaced, IsAt}
use Rattle.qc_tiles.proofs.Tilings.{AreLarge, each_both}
use Rattle.qc_tiles.proofs.Walks.{split_at, drop_at}
use Rattle.qc_tiles.proofs.CellWalks.{Around, around_one, around_none, put_around, clear_around, placed_set, placed_clear}
use Rattle.qc_tiles.proofs.PlaceSteps.{parts_at, around_of, replaced_covers, swap_middle, marked_low, marked_high, marked_here, ends_below, starts_from, each_three, last_cell, back_each}

each_push : (P : Tile → Type 0) (low : List Tile) (t : Tile) → AllByRecursion P low → P t → AllByRecursion P (low ++ (t ∷ []))
each_push P low t h k = each_both P low (t ∷ []) h (k, tt)

-- ---- one block in two

pub cut_view : (s : List (Option Tile)) (e : List ℕ) (n k i j : ℕ) (front back : Tile) → IsPlaced s e n → IsAt (begun s) k front.first (front.words + back.words) → back.first ≡ front.first + front.words → least_block ≤ front.words → least_block ≤ back.words
    → 64 * i ≤ front.first → front.first < 64 * i + 64 → 64 * j ≤ back.first → back.first < 64 * j + 64
    → begun (set (set s i (Some front)) j (Some back)) ≡ take k (begun s) ++ (front ∷ back ∷ drop (k + 1) (begun s))
cut_view s e n k i j front back h at behind fl bl i_low i_high j_low j_high =
    let ts = begun s in
    let low = take k ts in
    let high = drop (k + 1) ts in
    let p = parts_at s e n k front.first (front.words + back.words) h at in
    let one = put_around s i low high front (around_of s e n k front.first (front.words + back.words) i h at i_low i_high) in
    let s1 = set s i (Some front) in
    let same : length s1 ≡ length s = length-set s i (Some front) in
    let within : j < length s1 = omega (arith, same, p.fits, behind, bl, j_low) in
    let around : Around s1 j (low ++ (front ∷ [])) high =
    around_none s1 j (low ++ (front ∷ [])) high (placed_set 0 i s front h.placed (omega arith) (omega arith)) within (one ∙ sym (append_assoc low (front ∷ []) high))
    (each_push (λ u. u.first < 64 * j) low front (ends_below front.first (64 * j) low p.large_low p.low (omega (arith, behind, fl, j_high))) (omega (arith, behind, fl, j_high)))
    (starts_from (front.first + (front.words + back.words)) (64 * j + 64) high p.high (omega (arith, behind, bl, j_low))) in
    put_around s1 j (low ++ (front ∷ [])) high back around ∙ append_assoc low (front ∷ []) (back ∷ high)

count_four : (low high us vs : List Tile) (t a b : Tile) → us ≡ low ++ (t ∷ high) → vs ≡ low ++ (a ∷ b ∷ high) → length vs ≡ length us + 1
count_four low high us vs t a b e f = omega (arith, ap length e, ap length f, length-append low (t ∷ high), length-append low (a ∷ b ∷ high))

pub cut_placed : (s : List (Option Tile)) (e : List ℕ) (n k i j p q : ℕ) (front back : Tile) → IsPlaced s e n → IsAt (begun s) k front.first (front.words + back.words) → back.first ≡ front.first + front.words → least_block ≤ front.words → least_block ≤ back.words
    → 64 * i ≤ front.first → front.first < 64 * i + 64 → 64 * j ≤ back.first → back.first < 64 * j + 64 → p + 1 ≡ back.first → q ≡ back.first + (back.words - 1)
    → IsPlaced (set (set s i (Some front)) j (Some back)) (set (set e (p / 64) front.first) (q / 64) back.first) (n + 1)
cut_placed s e n k i j p q front back h at behind fl bl i_low i_high j_low j_high p_is q_is =
    let ts = begun s in
    let low = take k ts in
    let high = drop (k + 1) ts in
    let parts = parts_at s e n k front.first (front.words + back.words) h at in
    let s1 = set s i (Some front) in
    let s2 = set s1 j (Some back) in
    let e1 = set e (p / 64) front.first in
    let e2 = set e1 (q / 64) back.first in
    let same : length s2 ≡ length s = length-set s1 j (Some back) ∙ length-set s i (Some front) in
    let same_e1 : length e1 ≡ length e = length-set e (p / 64) front.first in
    let same_e : length e2 ≡ length e = length-set e1 (q / 64) back.first ∙ same_e1 in
    let made = cut_view s e n k i j front back h at behind fl bl i_low i_high j_low j_high in
    let stop : (front.first + front.words) + back.words ≡ front.first + (front.words + back.words) = omega arith in
    let low1 = marked_low e front.first p front.first low parts.large_low parts.low (omega (arith, p_is, behind, fl)) parts.marked_low in
    let high1 = marked_high e (front.first + (front.words + back.words)) p front.first high parts.large_high parts.high (omega (arith, p_is, behind, bl)) parts.marked_high in
    let low2 = marked_low e1 front.first q back.first low parts.large_low parts.low (omega (arith, q_is, behind, fl, bl)) low1 in
    let high2 = marked_high e1 (front.first + (front.words + back.words)) q back.first high parts.large_high parts.high (omega (arith, q_is, behind, bl)) high1 in
    let front1 : IsMarked e1 front = marked_here e p front (omega (arith, p_is, behind, fl)) (last_cell e (length s) p h.marks (omega (arith, parts.fits, p_is, behind, bl))) in
    let front2 = (marked_low e1 (front.first + front.words) q back.first (front ∷ []) (fl, tt) (omega arith, tt) (omega (arith, q_is, behind, bl)) (front1, tt)).0 in
    let back2 : IsMarked e2 back = marked_here e1 q back (sym q_is) (last_cell e1 (length s) q (same_e1 ∙ h.marks) (omega (arith, parts.fits, q_is, behind, bl))) in
    record {
      covers = rw (made, same) (replaced_covers s e n k front.first (front.words + back.words) (front ∷ back ∷ []) h at (refl, (behind, stop)));
      large = rw made (each_three (λ u. least_block ≤ u.words) low (front ∷ back ∷ []) high parts.large_low (fl, (bl, tt)) parts.large_high);
      placed = placed_set 0 j s1 back (placed_set 0 i s front h.placed (omega arith) (omega arith)) (omega arith) (omega arith);
      marks = same_e ∙ (h.marks ∙ sym same);
      marked = rw made (each_three (IsMarked e2) low (front ∷ back ∷ []) high low2 (front2, (back2, tt)) high2);
      counted = omega (arith, h.counted, count_four low high ts (begun s2) (tile_at ts k) front back parts.split made);
      few = omega (arith, same, h.few);
    }

-- ---- two blocks as one

pub next_first : (first end : ℕ) (ts : List Tile) (k : ℕ) → CoversFrom first end ts → k + 1 < length ts → (tile_at ts (k + 1)).first ≡ (tile_at ts k).first + (tile_at ts k).words
next_first first end [] k h within = absurd (omega arith)
next_first first end (t ∷ []) k h within = absurd (omega arith)
next_first first end (t ∷ u ∷ us) zero h within = omega (arith, h.0, h.1.0)
next_first first end (t ∷ u ∷ us) (suc k) h within =
    let e : suc k + 1 ≡ suc (k + 1) = omega arith in
    rw e (next_first (first + t.words) end (u ∷ us) k h.1 (omega arith))

pub take_next : (ts : List Tile) (k : ℕ) → k < length ts → take (k + 1) ts ≡ take k ts ++ (tile_at ts k ∷ [])
take_next [] k within = absurd (omega arith)
take_next (t ∷ ts) zero within = refl
take_next (t ∷ ts) (suc k) within =
    let e : suc k + 1 ≡ suc (k + 1) = omega arith in
    rw e (ap (λ xs. t ∷ xs) (take_next ts k (omega arith)))

pub join_view : (s : List (Option Tile)) (e : List ℕ) (n k i j first words upper size : ℕ) (t : Tile) → IsPlaced s e n → IsAt (begun s) k first words → IsAt (begun s) (k + 1) upper size
    → 64 * i ≤ first → first < 64 * i + 64 → 64 * j ≤ upper → upper < 64 * j + 64
    → begun (set (set s j None) i (Some t)) ≡ take k (begun s) ++ (t ∷ drop (k + 2) (begun s))
join_view s e n k i j first words upper size t h at next i_low i_high j_low j_high =
    let ts = begun s in
    let low = take k ts in
    let two : (k + 1) + 1 ≡ k + 2 = omega arith in
    let p = parts_at s e n k first words h at in
    let q = parts_at s e n (k + 1) upper size h next in
    let near : upper ≡ first + words = omega (arith, next_first 0 (64 * length s) ts k h.covers next.within, at.first, at.words, next.first) in
    let s1 = set s j None in
    let same : length s1 ≡ length s = length-set s j None in
    let one : begun s1 ≡ low ++ (tile_at ts k ∷ drop (k + 2) ts) =
    clear_around s j (take (k + 1) ts) (drop ((k + 1) + 1) ts) (around_of s e n (k + 1) upper size j h next j_low j_high)
    ∙ rw (take_next ts k at.within, two) (append_assoc low (tile_at ts k ∷ []) (drop (k + 2) ts)) in
    let within : i < length s1 = omega (arith, same, p.fits, p.some, i_low) in
    let high : AllByRecursion (λ u. upper + size ≤ u.first) (drop (k + 2) ts) = rw two at q.high in
    put_around s1 i low (drop (k + 2) ts) t
    (around_one s1 i low (tile_at ts k) (drop (k + 2) ts) (placed_clear 0 j s h.placed) within one (ends_below first (64 * i) low p.large_low p.low (omega (arith, i_high))) (omega (arith, at.first)) (omega (arith, at.first))
    (starts_from (upper + size) (64 * i + 64) (drop (k + 2) ts) high (omega (arith, near, p.some, q.some, i_low))))

pub split_two : (ts : List Tile) (k : ℕ) → k + 1 < length ts → ts ≡ take k ts ++ ((tile_at ts k ∷ tile_at ts (k + 1) ∷ []) ++ drop (k + 2) ts)
split_two ts k within =
    let lt : k < length ts = omega arith in
    let two : (k + 1) + 1 ≡ k + 2 = omega arith in
    split_at ts k lt ∙ ap (λ xs. take k ts ++ (tile_at ts k ∷ xs)) (rw two at (drop_at ts (k + 1) within))

count_two : (low high us vs : List Tile) (t a b : Tile) → us ≡ low ++ ((a ∷ b ∷ []) ++ high) → vs ≡ low ++ (t ∷ high) → length us ≡ length vs + 1
count_two low high us vs t a b e f = omega (arith, ap length e, ap length f, length-append low (t ∷ high), length-append low (a ∷ b ∷ high))

pub join_placed : (s : List (Option Tile)) (e : List ℕ) (n k i j first words upper size q : ℕ) (t : Tile) → IsPlaced s e n → IsAt (begun s) k first words → IsAt (begun s) (k + 1) upper size → t.first ≡ first → t.words ≡ words + size
    → 64 * i ≤ first → first < 64 * i + 64 → 64 * j ≤ upper → upper < 64 * j + 64 → q ≡ upper + (size - 1)
    → IsPlaced (set (set s j None) i (Some t)) (set e (q / 64) first) (n - 1)
join_placed s e n k i j first words upper size q t h at next t_first t_words i_low i_high j_low j_high q_is =
    let ts = begun s in
    let low = take k ts in
    let high = drop (k + 2) ts in
    let two : (k + 1) + 1 ≡ k + 2 = omega arith in
    let p = parts_at s e n k first words h at in
    let u = parts_at s e n (k + 1) upper size h next in
    let near : upper ≡ first + words = omega (arith, next_first 0 (64 * length s) ts k h.covers next.within, at.first, at.words, next.first) in
    let s1 = set s j None in
    let s2 = set s1 i (Some t) in
    let e1 = set e (q / 64) first in
    let same : length s2 ≡ length s = length-set s1 i (Some t) ∙ length-set s j None in
    let same_e : length e1 ≡ length e = length-set e (q / 64) first in
    let made = join_view s e n k i j first words upper size t h at next i_low i_high j_low j_high in
    let split = split_two ts k next.within in
    let large_high : AreLarge high = back_each (λ v. least_block ≤ v.words) ts (k + 2) h.large in
    let starts : AllByRecursion (λ v. upper + size ≤ v.first) high = rw two at u.high in
    let a : first ≡ 0 + region_words low = p.begins in
    let stop : first + (words + size) ≡ 0 + region_words low + region_words (tile_at ts k ∷ tile_at ts (k + 1) ∷ []) = omega (arith, p.begins, at.words, next.words) in
    let covers : CoversFrom (0 + region_words low) (0 + region_words low + region_words (tile_at ts k ∷ tile_at ts (k + 1) ∷ [])) (t ∷ []) = (omega (arith, t_first, a), omega (arith, t_words, stop, a)) in
    let low1 = marked_low e first q first low p.large_low p.low (omega (arith, q_is, near, p.some, u.some)) p.marked_low in
    let high1 = marked_high e (upper + size) q first high large_high starts (omega (arith, q_is, u.some)) (back_each (IsMarked e) ts (k + 2) h.marked) in
    let here : IsMarked e1 t = subst (λ (m : ℕ). IsMarked (set e (q / 64) m) t) t_first (marked_here e q t (omega (arith, q_is, near, t_first, t_words, u.some)) (last_cell e (length s) q h.marks (omega (arith, u.fits, q_is, u.some)))) in
    record {
      covers = rw (made, same) (swap_middle 0 (64 * length s) low (tile_at ts k ∷ tile_at ts (k + 1) ∷ []) high (t ∷ []) (subst (λ (xs : List Tile). CoversFrom 0 (64 * length s) xs) split h.covers) covers);
      large = rw made (each_three (λ v. least_block ≤ v.words) low (t ∷ []) high p.large_low (omega (arith, t_words, p.some), tt) large_high);
      placed = placed_set 0 i s1 t (placed_clear 0 j s h.placed) (omega (arith, t_first)) (omega (arith, t_first));
      marks = same_e ∙ (h.marks ∙ sym same);
      marked = rw made (each_three (IsMarked e1) low (t ∷ []) high low1 (here, tt) high1);
      counted = omega (arith, h.counted, count_two low high ts (begun s2) t (tile_at ts k) (tile_at ts (k + 1)) split made);
      few = omega (arith, same, h.few);
    }
