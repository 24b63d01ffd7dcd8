-- How many bits of a mask are set.
use Rattle.std.proofs.Common.{◌≡◌, ℕ, ℤ, zero, suc, ◌+◌, ◌-◌, ◌*◌, ◌/◌, ◌%◌, ◌^◌, ◌<◌, ◌≤◌, Bool, true, false, cond, List, [], ◌∷◌, length, get_or, count_ones, refl, sym, ap, ◌∙◌, arith}
use Rattle.std.specs.Prelude.{◌==◌, if◌then◌else◌}
use Rattle.std.specs.Int.{bit_at}
use Rattle.std.specs.Int.Count.{ones_step}
use Rattle.std.specs.List.{sum_by}
use Rattle.std.proofs.lemmas.List.Sums.{sum_by-cons}
use Rattle.std.proofs.lemmas.Nat.{ones-le}
use Rattle.std.proofs.lemmas.Nat.Bits.{bit_at-lt}
use Rattle.std.proofs.Math.Nat.{pow-succ', div-div-eq-div-mul}
use Rattle.qc_lane.specs.Lanes.{is_set, masked_from, words_for, EndsAt}

-- how many of n bits from the one at an index on are set
abbrev set_from : List ℕ → ℕ → ℕ → ℕ
set_from mask i zero = 0
set_from mask i (suc n) = cond (is_set mask i) 1 0 + set_from mask (i + 1) n

-- ---- values

masked_many : (mask : List ℕ) (i : ℕ) (xs : List ℤ) → length (masked_from i mask xs) ≡ set_from mask i (length xs)
masked_many mask i [] = refl
masked_many mask i (x ∷ xs) = by (is_set mask i) (masked_many mask (i + 1) xs)
  where
    by : (b : Bool) → length (masked_from (i + 1) mask xs) ≡ set_from mask (i + 1) (length xs)
        → length (if b then x ∷ masked_from (i + 1) mask xs else masked_from (i + 1) mask xs) ≡ cond b 1 0 + set_from mask (i + 1) (length xs)
    by true rest = omega (arith, rest)
    by false rest = omega (arith, rest)

-- ---- parts of the bits

set_parts : (mask : List ℕ) (i m n : ℕ) → set_from mask i (m + n) ≡ set_from mask i m + set_from mask (i + m) n
set_parts mask i zero n =
    let a : zero + n ≡ n = omega arith in
    let b : i ≡ i + zero = omega arith in
    ap (set_from mask i) a ∙ ap (λ j. set_from mask j n) b ∙ none (set_from mask (i + zero) n)
  where
    none : (k : ℕ) → k ≡ 0 + k
    none k = omega arith
set_parts mask i (suc m) n =
    let a : suc m + n ≡ suc (m + n) = omega arith in
    let b : i + 1 + m ≡ i + suc m = omega arith in
    let rest : set_from mask (i + 1) (m + n) ≡ set_from mask (i + 1) m + set_from mask (i + suc m) n = set_parts mask (i + 1) m n ∙ ap (λ j. set_from mask (i + 1) m + set_from mask j n) b in
    ap (set_from mask i) a ∙ joined (cond (is_set mask i) 1 0) (set_from mask (i + 1) (m + n)) (set_from mask (i + 1) m) (set_from mask (i + suc m) n) rest
  where
    joined : (c r s t : ℕ) → r ≡ s + t → c + r ≡ c + s + t
    joined c r s t e = omega (arith, e)

set_none : (mask : List ℕ) (i n : ℕ) → ((j : ℕ) → i ≤ j → is_set mask j ≡ false) → set_from mask i n ≡ 0
set_none mask i zero clear = refl
set_none mask i (suc n) clear =
    let rest = set_none mask (i + 1) n (λ j come. clear j (omega (arith, come))) in
    ap (λ b. cond b 1 0 + set_from mask (i + 1) n) (clear i (omega arith)) ∙ omega (arith, rest)

-- ---- one word

-- the digits of a number, from the lowest on
abbrev digits : ℕ → ℕ → ℕ
digits w zero = 0
digits w (suc k) = w % 2 + digits (w / 2) k

ones_digits : (k w : ℕ) → w < 2 ^ k → count_ones w ≡ digits w k
ones_digits zero w small = let few = ones-le 0 w small in omega (arith, few)
ones_digits (suc k) w small =
    let p : 2 ^ suc k ≡ 2 * 2 ^ k = pow-succ' 2 k in
    let half : w / 2 < 2 ^ k = omega (arith, p, small) in
    ones_step w ∙ ap (λ n. w % 2 + n) (ones_digits k (w / 2) half)

one_or_none : (x : ℕ) → x < 2 → cond (x == 1) 1 0 ≡ x
one_or_none zero p = refl
one_or_none (suc zero) p = refl
one_or_none (suc (suc x)) p = absurd (omega (arith, p))

first_word : (w : ℕ) (ws : List ℕ) (j k : ℕ) → j + k ≤ 64 → set_from (w ∷ ws) j k ≡ digits (w / 2 ^ j) k
first_word w ws j zero within = refl
first_word w ws j (suc k) within =
    let row : j / 64 ≡ 0 = omega (arith, within) in
    let place : j % 64 ≡ j = omega (arith, within) in
    let here : is_set (w ∷ ws) j ≡ (bit_at w j == 1) = ap (λ n. bit_at (get_or (w ∷ ws) n 0) (j % 64) == 1) row ∙ ap (λ n. bit_at w n == 1) place in
    let next : j + 1 ≡ suc j = omega arith in
    let half : w / 2 ^ (j + 1) ≡ w / 2 ^ j / 2 = ap (λ n. w / 2 ^ n) next ∙ further w j in
    let rest : set_from (w ∷ ws) (j + 1) k ≡ digits (w / 2 ^ j / 2) k = first_word w ws (j + 1) k (omega (arith, within)) ∙ ap (λ n. digits n k) half in
    (λ i. cond (here i) 1 0 + rest i) ∙ ap (λ n. n + digits (w / 2 ^ j / 2) k) (one_or_none (bit_at w j) (bit_at-lt w j))
  where
    turn : (n : ℕ) → 2 * n ≡ n * 2
    turn n = omega arith

    further : (w j : ℕ) → w / 2 ^ suc j ≡ w / 2 ^ j / 2
    further w j =
        let p : 2 ^ suc j ≡ 2 ^ j * 2 = pow-succ' 2 j ∙ turn (2 ^ j) in
        ap (λ n. w / n) p ∙ sym (div-div-eq-div-mul w (2 ^ j) 2)

-- ---- all words

later_word : (w : ℕ) (ws : List ℕ) (i : ℕ) → is_set (w ∷ ws) (64 + i) ≡ is_set ws i
later_word w ws i =
    let row : (64 + i) / 64 ≡ suc (i / 64) = omega arith in
    let place : (64 + i) % 64 ≡ i % 64 = omega arith in
    ap (λ n. bit_at (get_or (w ∷ ws) n 0) ((64 + i) % 64) == 1) row ∙ ap (λ n. bit_at (get_or ws (i / 64) 0) n == 1) place

later_words : (w : ℕ) (ws : List ℕ) (i n : ℕ) → set_from (w ∷ ws) (64 + i) n ≡ set_from ws i n
later_words w ws i zero = refl
later_words w ws i (suc n) =
    let next : 64 + i + 1 ≡ 64 + (i + 1) = omega arith in
    (λ j. cond (later_word w ws i j) 1 0 + (ap (λ k. set_from (w ∷ ws) k n) next ∙ later_words w ws (i + 1) n) j)

all_ones : (mask : List ℕ) → ((k : ℕ) → k < length mask → get_or mask k 0 < 2 ^ 64) → sum_by count_ones mask ≡ set_from mask 0 (64 * length mask)
all_ones [] small = refl
all_ones (w ∷ ws) small =
    let whole : 64 * length (w ∷ ws) ≡ 64 + 64 * length ws = omega arith in
    let one : w / 2 ^ 0 ≡ w = omega arith in
    let first : count_ones w ≡ set_from (w ∷ ws) 0 64 = ones_digits 64 w (small 0 (omega arith)) ∙ sym (first_word w ws 0 64 (omega arith) ∙ ap (λ n. digits n 64) one) in
    let behind : sum_by count_ones ws ≡ set_from (w ∷ ws) 64 (64 * length ws) = all_ones ws (λ k low. small (suc k) (omega (arith, low))) ∙ sym (later_words w ws 0 (64 * length ws)) in
    sum_by-cons count_ones w ws ∙ (λ j. first j + behind j) ∙ sym (ap (set_from (w ∷ ws) 0) whole ∙ set_parts (w ∷ ws) 0 64 (64 * length ws))

-- as many as there are values whose bit is set
pub ones_masked : (mask : List ℕ) (xs : List ℤ) → ((k : ℕ) → k < length mask → get_or mask k 0 < 2 ^ 64) → length mask ≡ words_for (length xs) → EndsAt mask (length xs) → sum_by count_ones mask ≡ length (masked_from 0 mask xs)
ones_masked mask xs small words ends =
    let whole : 64 * length mask ≡ length xs + (64 * length mask - length xs) = omega (arith, words) in
    let none : set_from mask (length xs) (64 * length mask - length xs) ≡ 0 = set_none mask (length xs) (64 * length mask - length xs) ends in
    let at : 0 + length xs ≡ length xs = omega arith in
    all_ones mask small ∙ ap (set_from mask 0) whole ∙ set_parts mask 0 (length xs) (64 * length mask - length xs) ∙ ap (λ k. set_from mask 0 (length xs) + set_from mask k (64 * length mask - length xs)) at ∙ ended (set_from mask 0 (length xs)) (set_from mask (length xs) (64 * length mask - length xs)) none ∙ sym (masked_many mask 0 xs)
  where
    ended : (a b : ℕ) → b ≡ 0 → a + b ≡ a
    ended a b e = omega (arith, e)
