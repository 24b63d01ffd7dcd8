-- Blocks in cells: which cells hold the blocks before and behind a place.
use Rattle.std.proofs.Common.{◌≡◌, ℕ, ◌+◌, ◌*◌, ◌<◌, ◌≤◌, Bool, true, false, cond, List, [], ◌∷◌, ◌++◌, length, take, drop, set, get_or, nat_lt, refl, sym, ap, ◌∙◌, arith, zero, suc, Option, Some, None, append_assoc}
use Rattle.std.specs.Prelude.{◌==◌}
use Rattle.std.specs.List.{AllByRecursion}
use Rattle.std.proofs.lemmas.Bool.Decides.{nat_tests}
use Rattle.std.proofs.lemmas.List.{set_split, take-append-drop}
use Rattle.qc_tiles.specs.declared.blocks.Tile.{Tile}
use Rattle.qc_tiles.specs.Cells.{begun, PlacedFrom, block_at}
use Rattle.qc_tiles.proofs.Halves.{same_halves}

pub begun-append : (xs ys : List (Option Tile)) → begun (xs ++ ys) ≡ begun xs ++ begun ys
begun-append [] ys = refl
begun-append (None ∷ xs) ys = begun-append xs ys
begun-append (Some t ∷ xs) ys = ap (λ ts. t ∷ ts) (begun-append xs ys)

-- ---- each block in its cell

abbrev pub AllBelow : ℕ → List Tile → Type 0
AllBelow n ts = AllByRecursion (λ t. t.first < n) ts

abbrev pub AllFrom : ℕ → List Tile → Type 0
AllFrom n ts = AllByRecursion (λ t. n ≤ t.first) ts

below_more : (m n : ℕ) (ts : List Tile) → m ≤ n → AllBelow m ts → AllBelow n ts
below_more m n [] h k = tt
below_more m n (t ∷ ts) h k = (omega (arith, k.0), below_more m n ts h k.1)

from_less : (m n : ℕ) (ts : List Tile) → m ≤ n → AllFrom n ts → AllFrom m ts
from_less m n [] h k = tt
from_less m n (t ∷ ts) h k = (omega (arith, k.0), from_less m n ts h k.1)

pub begun_from : (n : ℕ) (cs : List (Option Tile)) → PlacedFrom n cs → AllFrom n (begun cs)
begun_from n [] h = tt
begun_from n (None ∷ cs) h = from_less n (n + 64) (begun cs) (omega arith) (begun_from (n + 64) cs h)
begun_from n (Some t ∷ cs) h = (h.0, from_less n (n + 64) (begun cs) (omega arith) (begun_from (n + 64) cs h.2))

pub begun_below : (n : ℕ) (cs : List (Option Tile)) → PlacedFrom n cs → AllBelow (n + 64 * length cs) (begun cs)
begun_below n [] h = tt
begun_below n (None ∷ cs) h = below_more (n + 64 + 64 * length cs) (n + 64 * suc (length cs)) (begun cs) (omega arith) (begun_below (n + 64) cs h)
begun_below n (Some t ∷ cs) h = (omega (arith, h.1), below_more (n + 64 + 64 * length cs) (n + 64 * suc (length cs)) (begun cs) (omega arith) (begun_below (n + 64) cs h.2))

pub placed_front : (n i : ℕ) (cs : List (Option Tile)) → PlacedFrom n cs → PlacedFrom n (take i cs)
placed_front n zero cs h = tt
placed_front n (suc i) [] h = tt
placed_front n (suc i) (None ∷ cs) h = placed_front (n + 64) i cs h
placed_front n (suc i) (Some t ∷ cs) h = (h.0, h.1, placed_front (n + 64) i cs h.2)

pub placed_back : (n i : ℕ) (cs : List (Option Tile)) → PlacedFrom n cs → PlacedFrom (n + 64 * i) (drop i cs)
placed_back n zero cs h = let e : n + 64 * 0 ≡ n = omega arith in rw e h
placed_back n (suc i) [] h = tt
placed_back n (suc i) (None ∷ cs) h = let e : (n + 64) + 64 * i ≡ n + 64 * suc i = omega arith in rw (← e) (placed_back (n + 64) i cs h)
placed_back n (suc i) (Some t ∷ cs) h = let e : (n + 64) + 64 * i ≡ n + 64 * suc i = omega arith in rw (← e) (placed_back (n + 64) i cs h.2)

pub placed_set : (n i : ℕ) (cs : List (Option Tile)) (t : Tile) → PlacedFrom n cs → n + 64 * i ≤ t.first → t.first < n + 64 * i + 64 → PlacedFrom n (set cs i (Some t))
placed_set n i [] t h low high = tt
placed_set n zero (None ∷ cs) t h low high = (omega arith, omega arith, h)
placed_set n zero (Some u ∷ cs) t h low high = (omega arith, omega arith, h.2)
placed_set n (suc i) (None ∷ cs) t h low high = placed_set (n + 64) i cs t h (omega arith) (omega arith)
placed_set n (suc i) (Some u ∷ cs) t h low high = (h.0, h.1, placed_set (n + 64) i cs t h.2 (omega arith) (omega arith))

pub placed_clear : (n i : ℕ) (cs : List (Option Tile)) → PlacedFrom n cs → PlacedFrom n (set cs i None)
placed_clear n i [] h = tt
placed_clear n zero (None ∷ cs) h = h
placed_clear n zero (Some u ∷ cs) h = h.2
placed_clear n (suc i) (None ∷ cs) h = placed_clear (n + 64) i cs h
placed_clear n (suc i) (Some u ∷ cs) h = (h.0, h.1, placed_clear (n + 64) i cs h.2)

-- ---- the cells in front of a place, and those from it on

tests_below : (n : ℕ) (ts : List Tile) → AllBelow n ts → AllByRecursion (λ t. nat_lt t.first n ≡ true) ts
tests_below n [] h = tt
tests_below n (t ∷ ts) h = (one h.0, tests_below n ts h.1)
  where
    one : t.first < n → nat_lt t.first n ≡ true
    one k = grind (arith, nat_tests)

tests_from : (n : ℕ) (ts : List Tile) → AllFrom n ts → AllByRecursion (λ t. nat_lt t.first n ≡ false) ts
tests_from n [] h = tt
tests_from n (t ∷ ts) h = (one h.0, tests_from n ts h.1)
  where
    one : n ≤ t.first → nat_lt t.first n ≡ false
    one k = grind (arith, nat_tests)

take_length : (i : ℕ) (cs : List (Option Tile)) → i ≤ length cs → length (take i cs) ≡ i
take_length zero cs h = refl
take_length (suc i) [] h = absurd (omega arith)
take_length (suc i) (c ∷ cs) h = ap (λ n. suc n) (take_length i cs (omega arith))

-- cells that are cut at the same place as their blocks
pub cells_cut : (cs : List (Option Tile)) (i : ℕ) (low high : List Tile) → PlacedFrom 0 cs → i ≤ length cs → begun cs ≡ low ++ high → AllBelow (64 * i) low → AllFrom (64 * i) high → (begun (take i cs) ≡ low) × (begun (drop i cs) ≡ high)
cells_cut cs i low high placed within is below from =
    let whole : begun (take i cs) ++ begun (drop i cs) ≡ low ++ high = sym (begun-append (take i cs) (drop i cs)) ∙ (ap begun (take-append-drop i cs) ∙ is) in
    let front = below_more (0 + 64 * length (take i cs)) (64 * i) (begun (take i cs)) (omega (arith, take_length i cs within)) (begun_below 0 (take i cs) (placed_front 0 i cs placed)) in
    let back = from_less (64 * i) (0 + 64 * i) (begun (drop i cs)) (omega arith) (begun_from (0 + 64 * i) (drop i cs) (placed_back 0 i cs placed)) in
    same_halves (λ t. nat_lt t.first (64 * i)) (begun (take i cs)) (begun (drop i cs)) low high whole (tests_below (64 * i) (begun (take i cs)) front) (tests_from (64 * i) (begun (drop i cs)) back) (tests_below (64 * i) low below) (tests_from (64 * i) high from)

-- ---- writing one cell

pub begun-put : (cs : List (Option Tile)) (i : ℕ) (t : Tile) → i < length cs → begun (set cs i (Some t)) ≡ begun (take i cs) ++ (t ∷ begun (drop (suc i) cs))
begun-put cs i t within = ap begun (set_split cs i (Some t) within) ∙ begun-append (take i cs) (Some t ∷ drop (suc i) cs)

pub begun-clear : (cs : List (Option Tile)) (i : ℕ) → i < length cs → begun (set cs i None) ≡ begun (take i cs) ++ begun (drop (suc i) cs)
begun-clear cs i within = ap begun (set_split cs i None within) ∙ begun-append (take i cs) (None ∷ drop (suc i) cs)

-- a cell with a block, or with none, among the blocks in front of it and behind it
pub record Around (cs : List (Option Tile)) (i : ℕ) (low high : List Tile) : Type 0 where
  pub within : i < length cs
  pub front : begun (take i cs) ≡ low
  pub back : begun (drop (suc i) cs) ≡ high

pub put_around : (cs : List (Option Tile)) (i : ℕ) (low high : List Tile) (t : Tile) → Around cs i low high → begun (set cs i (Some t)) ≡ low ++ (t ∷ high)
put_around cs i low high t h = begun-put cs i t h.within ∙ (ap (λ xs. xs ++ (t ∷ begun (drop (suc i) cs))) h.front ∙ ap (λ xs. low ++ (t ∷ xs)) h.back)

pub clear_around : (cs : List (Option Tile)) (i : ℕ) (low high : List Tile) → Around cs i low high → begun (set cs i None) ≡ low ++ high
clear_around cs i low high h = begun-clear cs i h.within ∙ (ap (λ xs. xs ++ begun (drop (suc i) cs)) h.front ∙ ap (λ xs. low ++ xs) h.back)

-- a cell in which a block begins
pub around_one : (cs : List (Option Tile)) (i : ℕ) (low : List Tile) (t : Tile) (high : List Tile) → PlacedFrom 0 cs → i < length cs → begun cs ≡ low ++ (t ∷ high)
    → AllBelow (64 * i) low → 64 * i ≤ t.first → t.first < 64 * i + 64 → AllFrom (64 * i + 64) high → Around cs i low high
around_one cs i low t high placed within is below at_least at_most from =
    let first = cells_cut cs i low (t ∷ high) placed (omega arith) is below (at_least, from_less (64 * i) (64 * i + 64) high (omega arith) from) in
    let low_one = below_more (64 * i) (64 * suc i) low (omega arith) below in
    let second = cells_cut cs (suc i) (low ++ (t ∷ [])) high placed (omega arith) (is ∙ sym (append_assoc low (t ∷ []) high)) (below_then low low_one (omega arith, tt)) (from_less (64 * suc i) (64 * i + 64) high (omega arith) from) in
    record { within = within; front = first.0; back = second.1 }
  where
    below_then : (xs : List Tile) → AllBelow (64 * suc i) xs → AllBelow (64 * suc i) (t ∷ []) → AllBelow (64 * suc i) (xs ++ (t ∷ []))
    below_then [] h k = k
    below_then (x ∷ xs) h k = (h.0, below_then xs h.1 k)

-- a cell in which none begins
pub around_none : (cs : List (Option Tile)) (i : ℕ) (low high : List Tile) → PlacedFrom 0 cs → i < length cs → begun cs ≡ low ++ high → AllBelow (64 * i) low → AllFrom (64 * i + 64) high → Around cs i low high
around_none cs i low high placed within is below from =
    let first = cells_cut cs i low high placed (omega arith) is below (from_less (64 * i) (64 * i + 64) high (omega arith) from) in
    let second = cells_cut cs (suc i) low high placed (omega arith) is (below_more (64 * i) (64 * suc i) low (omega arith) below) (from_less (64 * suc i) (64 * i + 64) high (omega arith) from) in
    record { within = within; front = first.0; back = second.1 }

-- ---- a block by its first word

abbrev in_cell : ℕ → Option Tile → Option Tile
in_cell first None = None
in_cell first (Some t) = cond (t.first == first) (Some t) None

differs : (m n : ℕ) → (m ≡ n → ⊥) → (m == n) ≡ false
differs m n h = grind (arith, nat_tests)

none_later : (first n : ℕ) (ts : List Tile) → first < n → AllFrom n ts → block_at first ts ≡ None
none_later first n [] h k = refl
none_later first n (t ∷ ts) h k = rw (differs t.first first (λ e. omega (arith, k.0, e))) (none_later first n ts h k.1)

here_by : (first : ℕ) (t : Tile) (ts : List Tile) (b : Bool) → block_at first ts ≡ None → cond b (Some t) (block_at first ts) ≡ cond b (Some t) None
here_by first t ts true h = refl
here_by first t ts false h = h

pub get_is : (n k first : ℕ) (cs : List (Option Tile)) → PlacedFrom n cs → n + 64 * k ≤ first → first < n + 64 * k + 64 → block_at first (begun cs) ≡ in_cell first (get_or cs k None)
get_is n k first [] h low high = refl
get_is n zero first (None ∷ cs) h low high = none_later first (n + 64) (begun cs) (omega arith) (begun_from (n + 64) cs h)
get_is n zero first (Some t ∷ cs) h low high = here_by first t (begun cs) (t.first == first) (none_later first (n + 64) (begun cs) (omega arith) (begun_from (n + 64) cs h.2))
get_is n (suc k) first (None ∷ cs) h low high = get_is (n + 64) k first cs h (omega arith) (omega arith)
get_is n (suc k) first (Some t ∷ cs) h low high = rw (differs t.first first (λ e. omega (arith, h.1, e))) (get_is (n + 64) k first cs h.2 (omega arith) (omega arith))
