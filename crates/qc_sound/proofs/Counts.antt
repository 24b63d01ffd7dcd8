-- How often a word stands in lists of words and of blocks.
use Rattle.std.proofs.Common.{◌≡◌, ℕ, zero, suc, ◌+◌, ◌<◌, ◌≤◌, eqb, eq-eqb, ne_eqb, Bool, true, false, cond, List, [], ◌∷◌, ◌++◌, map, length, get_or, refl, sym, ap, subst, ◌∙◌, arith, append_assoc}
use Rattle.std.specs.Prelude.{not, IsPermutation, sum_by}
use Rattle.std.specs.List.{filter}
use Rattle.std.proofs.lemmas.List.Recursion.{is_sum_by}
use Rattle.std.proofs.lemmas.List.Sorted.{sum_by-IsPermutation}
use mathlib.Core.Logic.{dite}
use native.Mathlib.Decide.{ℕ_discrete}
use Rattle.qc_tiles.specs.declared.blocks.Block.{Block}
use Rattle.qc_turn.specs.Blocks.{counted, places, Misses, IsDistinct}
use Rattle.qc_tiles.specs.declared.blocks.Tile.{Tile}
use Rattle.qc_tiles.specs.Tiles.{CoversFrom}
use Rattle.qc_tiles.specs.Tiles.{block_of}

abbrev pub occurs : ℕ → List ℕ → ℕ
occurs k [] = 0
occurs k (x ∷ xs) = cond (eqb x k) 1 0 + occurs k xs

pub occurs_append : (k : ℕ) (xs ys : List ℕ) → occurs k (xs ++ ys) ≡ occurs k xs + occurs k ys
occurs_append k [] ys = omega arith
occurs_append k (x ∷ xs) ys = omega (arith, occurs_append k xs ys)

pub places_append : (bs cs : List Block) → places (bs ++ cs) ≡ places bs ++ places cs
places_append [] cs = refl
places_append (b ∷ bs) cs = ap (λ l. counted b.first b.words ++ l) (places_append bs cs) ∙ sym (append_assoc (counted b.first b.words) (places bs) (places cs))

pub occurs_places : (k : ℕ) (bs cs : List Block) → occurs k (places (bs ++ cs)) ≡ occurs k (places bs) + occurs k (places cs)
occurs_places k bs cs = ap (occurs k) (places_append bs cs) ∙ occurs_append k (places bs) (places cs)

pub occurs_misses : (k : ℕ) (xs : List ℕ) → occurs k xs ≡ 0 → Misses k xs
occurs_misses k [] h = tt
occurs_misses k (x ∷ xs) h = (λ (e : k ≡ x). let one : ◌≡◌ {A = ℕ} (cond (eqb x k) 1 0) 1 = ap (λ b. cond b 1 0) (eq-eqb x k (sym e)) in absurd (omega (arith, h)), occurs_misses k xs (omega (arith, h)))

pub misses_occurs : (k : ℕ) (xs : List ℕ) → Misses k xs → occurs k xs ≡ 0
misses_occurs k [] h = refl
misses_occurs k (x ∷ xs) h =
    let none : ◌≡◌ {A = ℕ} (cond (eqb x k) 1 0) 0 = ap (λ b. cond b 1 0) (ne_eqb x k (λ e. h.0 (sym e))) in
    omega (arith, misses_occurs k xs h.1)

-- a word that isn't missed occurs
pub met_occurs : (k : ℕ) (xs : List ℕ) → (Misses k xs → ⊥) → 0 < occurs k xs
met_occurs k xs h = by (occurs k xs) refl
  where
    by : (n : ℕ) → occurs k xs ≡ n → 0 < n
    by zero e = absurd (h (occurs_misses k xs e))
    by (suc n) e = omega arith

pub occurs_at : (xs : List ℕ) (i : ℕ) → i < length xs → 0 < occurs (get_or xs i 0) xs
occurs_at [] i h = absurd (omega arith)
occurs_at (x ∷ xs) zero h = let one : ◌≡◌ {A = ℕ} (cond (eqb x x) 1 0) 1 = ap (λ b. cond b 1 0) (eq-eqb x x refl) in omega (arith, one)
occurs_at (x ∷ xs) (suc i) h = omega (arith, occurs_at xs i (omega arith))

pub occurs_distinct : (xs : List ℕ) → ((k : ℕ) → occurs k xs ≤ 1) → IsDistinct xs
occurs_distinct [] h = tt
occurs_distinct (x ∷ xs) h =
    let one : ◌≡◌ {A = ℕ} (cond (eqb x x) 1 0) 1 = ap (λ b. cond b 1 0) (eq-eqb x x refl) in
    (occurs_misses x xs (omega (arith, h x, one)), occurs_distinct xs (λ k. omega (arith, h k)))

-- ---- words in a row

pub counted_append : (a m n : ℕ) → counted a (m + n) ≡ counted a m ++ counted (a + m) n
counted_append a zero n = let e : a ≡ a + 0 = omega arith in let z : 0 + n ≡ n = omega arith in ap (λ i. counted a i) z ∙ ap (λ i. counted i n) e
counted_append a (suc m) n =
    let e : suc m + n ≡ suc (m + n) = omega arith in
    let f : suc a + m ≡ a + suc m = omega arith in
    ap (λ i. counted a i) e ∙ ap (λ l. a ∷ l) (counted_append (suc a) m n ∙ ap (λ i. counted (suc a) m ++ counted i n) f)

-- a word of a row stands in it once, and within it
counted_low : (k a n : ℕ) → k < a → occurs k (counted a n) ≡ 0
counted_low k a zero h = refl
counted_low k a (suc n) h =
    let none : ◌≡◌ {A = ℕ} (cond (eqb a k) 1 0) 0 = ap (λ b. cond b 1 0) (ne_eqb a k (λ e. absurd (omega arith))) in
    omega (arith, counted_low k (suc a) n (omega arith), none)

counted_once : (k a n : ℕ) → occurs k (counted a n) ≤ 1
counted_once k a zero = omega arith
counted_once k a (suc n) = dite (ℕ_discrete a k)
    (λ e. let one : ◌≡◌ {A = ℕ} (cond (eqb a k) 1 0) 1 = ap (λ b. cond b 1 0) (eq-eqb a k e) in omega (arith, counted_low k (suc a) n (omega arith), one))
    (λ ne. let none : ◌≡◌ {A = ℕ} (cond (eqb a k) 1 0) 0 = ap (λ b. cond b 1 0) (ne_eqb a k ne) in omega (arith, counted_once k (suc a) n, none))

pub counted_here : (k a n : ℕ) → a ≤ k → k < a + n → 0 < occurs k (counted a n)
counted_here k a zero low high = absurd (omega arith)
counted_here k a (suc n) low high = dite (ℕ_discrete a k)
    (λ e. let one : ◌≡◌ {A = ℕ} (cond (eqb a k) 1 0) 1 = ap (λ b. cond b 1 0) (eq-eqb a k e) in omega (arith, one))
    (λ ne. omega (arith, counted_here k (suc a) n (omega (arith, ne)) (omega arith)))

counted_in : (k a n : ℕ) → 0 < occurs k (counted a n) → k < a + n
counted_in k a zero h = absurd (omega arith)
counted_in k a (suc n) h = dite (ℕ_discrete a k)
    (λ e. omega arith)
    (λ ne. let none : ◌≡◌ {A = ℕ} (cond (eqb a k) 1 0) 0 = ap (λ b. cond b 1 0) (ne_eqb a k ne) in omega (arith, counted_in k (suc a) n (omega (arith, h, none))))

-- ---- tilings

abbrev pub all_blocks : List Tile → List Block
all_blocks tiles = map block_of tiles

places_covers : (first end : ℕ) (ts : List Tile) → CoversFrom first end ts → (n : ℕ) × (first + n ≡ end) × (places (all_blocks ts) ≡ counted first n)
places_covers first end [] h = (0, omega (arith, h), refl)
places_covers first end (t ∷ ts) h =
    let r = places_covers (first + t.words) end ts h.1 in
    (t.words + r.0, omega (arith, r.1), ap (λ l. counted t.first t.words ++ l) r.2 ∙ (ap (λ i. counted i t.words ++ counted (first + t.words) r.0) h.0 ∙ sym (counted_append first t.words r.0)))

pub tiled_once : (W k : ℕ) (ts : List Tile) → CoversFrom 0 W ts → occurs k (places (all_blocks ts)) ≤ 1
tiled_once W k ts h = let r = places_covers 0 W ts h in subst (λ l. occurs k l ≤ 1) (sym r.2) (counted_once k 0 r.0)

pub tiled_in : (W k : ℕ) (ts : List Tile) → CoversFrom 0 W ts → 0 < occurs k (places (all_blocks ts)) → k < W
tiled_in W k ts h o = let r = places_covers 0 W ts h in let l = counted_in k 0 r.0 (subst (λ l. 0 < occurs k l) r.2 o) in omega (arith, l, r.1)

-- those that pass and those that don't
pub parted : (k : ℕ) (p : Tile → Bool) (ts : List Tile) → occurs k (places (all_blocks (filter p ts))) + occurs k (places (all_blocks (filter (λ t. not (p t)) ts))) ≡ occurs k (places (all_blocks ts))
parted k p [] = refl
parted k p (t ∷ ts) =
    let r = parted k p ts in
    let here = occurs_append k (counted t.first t.words) (places (all_blocks ts)) in
    elim (p t) as (λ b. occurs k (places (all_blocks (cond b (t ∷ filter p ts) (filter p ts)))) + occurs k (places (all_blocks (cond (not b) (t ∷ filter (λ t. not (p t)) ts) (filter (λ t. not (p t)) ts)))) ≡ occurs k (places (all_blocks (t ∷ ts)))) [
      | true ↦ omega (arith, r, here, occurs_append k (counted t.first t.words) (places (all_blocks (filter p ts))))
      | false ↦ omega (arith, r, here, occurs_append k (counted t.first t.words) (places (all_blocks (filter (λ t. not (p t)) ts))))
    ]

-- ---- the same blocks in another order

words_at : ℕ → Block → ℕ
words_at k b = occurs k (counted b.first b.words)

occurs_sum : (k : ℕ) (bs : List Block) → occurs k (places bs) ≡ sum_by (words_at k) bs
unfolding words_at
occurs_sum k bs = is_sum_by (λ l. occurs k (places l)) (words_at k) refl (λ b l. occurs_append k (counted b.first b.words) (places l)) bs

pub occurs_permuted : (k : ℕ) (bs cs : List Block) → IsPermutation bs cs → occurs k (places cs) ≡ occurs k (places bs)
occurs_permuted k bs cs h = occurs_sum k cs ∙ (sum_by-IsPermutation (words_at k) bs cs h ∙ sym (occurs_sum k bs))
