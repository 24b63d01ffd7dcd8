-- The values behind a word of a mask, and those behind words one after another.
use Rattle.std.proofs.Common.{◌≡◌, ℕ, ℤ, zero, suc, pos, ◌+◌, ◌*◌, ◌/◌, ◌%◌, ◌^◌, ◌<◌, ◌≤◌, ◌+ℤ◌, Bool, true, false, List, [], ◌∷◌, ◌++◌, length, take, drop, get_or, min, bit_and, nat_lt, refl, sym, ap, ◌∙◌, arith}
use Rattle.std.specs.Prelude.{◌==◌, ◌&&◌, if◌then◌else◌}
use Rattle.std.specs.Int.{bit_at, int_min, int_max}
use Rattle.std.proofs.Math.IntN.{+ℤ_assoc}
use Rattle.std.proofs.Math.Nat.{pow-succ', div-div-eq-div-mul}
use Rattle.std.proofs.lemmas.Bool.Decides.{nat_tests}
use Rattle.std.proofs.lemmas.Int.{ints}
use Rattle.std.proofs.lemmas.List.{drop-drop, drop_all, take_all}
use Rattle.std.proofs.lemmas.Nat.Bits.{bit_at-zero}
use Rattle.qc_lane.specs.Lanes.{is_set, masked_from, greatest, least, or_greater, or_smaller, total}
use Rattle.qc_lane.proofs.Ahead.{bit_here}
use Rattle.qc_lane.proofs.BitSteps.{bit_in_both, kept_here, left_out_here, none_kept}
use Rattle.qc_lane.proofs.Extremes.{greatest_parts, least_parts, max_first, min_first}

-- ---- one word

pub word_bit : (w j : ℕ) → j < 64 → is_set (w ∷ []) j ≡ (bit_at w j == 1)
word_bit w j low =
    let row : j / 64 ≡ 0 = omega (arith, low) in
    let place : j % 64 ≡ j = omega (arith, low) in
    ap (λ n. bit_at (get_or (w ∷ []) n 0) (j % 64) == 1) row ∙ ap (λ n. bit_at w n == 1) place

-- the bits of half a word
pub halved : (w j : ℕ) → w / 2 ^ j / 2 ≡ w / 2 ^ (j + 1)
halved w j =
    let next : suc j ≡ j + 1 = omega arith in
    let p : 2 ^ j * 2 ≡ 2 ^ suc j = turn (2 ^ j) ∙ sym (pow-succ' 2 j) in
    div-div-eq-div-mul w (2 ^ j) 2 ∙ ap (λ n. w / n) p ∙ ap (λ n. w / 2 ^ n) next
  where
    turn : (n : ℕ) → n * 2 ≡ 2 * n
    turn n = omega arith

abbrev no_bit : List ℕ
no_bit = 0 ∷ []

-- a word without bits leaves no value
pub no_bits : (xs : List ℤ) → masked_from 0 (0 ∷ []) xs ≡ []
no_bits xs = none_kept no_bit xs 0 (λ i come. ap (λ n. n == 1) (ap (λ n. bit_at n (i % 64)) (zeros (i / 64)) ∙ bit_at-zero (i % 64)))
  where
    zeros : (n : ℕ) → get_or no_bit n 0 ≡ 0
    zeros zero = refl
    zeros (suc n) = refl

-- the bits of two words together
pub none_in_both : (a b i n : ℕ) (s : Bool) → bit_and a b ≡ 0 → bit_at a i ≡ 1 → i < n → (bit_at b i == 1) ≡ (nat_lt i n && s) → s ≡ false
none_in_both a b i n s none set low is =
    let there : nat_lt i n ≡ true = grind (arith, nat_tests) in
    sym (is ∙ ap (λ x. x && s) there)
    ∙ ap (λ m. (m == 1) && (bit_at b i == 1)) (sym set)
    ∙ sym (bit_in_both a b i)
    ∙ ap (λ m. bit_at m i == 1) none
    ∙ ap (λ m. m == 1) (bit_at-zero i)

pub behind : (x y z : ℤ) → (x +ℤ y) +ℤ z ≡ x +ℤ (y +ℤ z)
behind x y z = +ℤ_assoc x y z

pub nothing : (x : ℤ) → x +ℤ pos 0 ≡ x
nothing x = grind (arith, ints)

-- one more value, added where its bit is set
pub added_bit : (w j : ℕ) (xs : List ℤ) (sum whole : ℤ) → j < 64 → j < length xs → sum +ℤ total (masked_from j (w ∷ []) (drop j xs)) ≡ whole
    → (sum +ℤ (if bit_at w j == 1 then get_or xs j (pos 0) else pos 0)) +ℤ total (masked_from (j + 1) (w ∷ []) (drop (j + 1) xs)) ≡ whole
added_bit w j xs sum whole low within so_far =
    elim (bit_at w j == 1) as (λ b. (bit_at w j == 1) ≡ b → (sum +ℤ (if b then get_or xs j (pos 0) else pos 0)) +ℤ total (masked_from (j + 1) (w ∷ []) (drop (j + 1) xs)) ≡ whole) [
      | true ↦ λ p.
          behind sum (get_or xs j (pos 0)) (total (masked_from (j + 1) (w ∷ []) (drop (j + 1) xs)))
          ∙ (ap (λ l. sum +ℤ total l) (sym (kept_here (w ∷ []) xs j within (word_bit w j low ∙ p))) ∙ so_far)
      | false ↦ λ p.
          ap (λ s. s +ℤ total (masked_from (j + 1) (w ∷ []) (drop (j + 1) xs))) (nothing sum)
          ∙ (ap (λ l. sum +ℤ total l) (sym (left_out_here (w ∷ []) xs j within (word_bit w j low ∙ p))) ∙ so_far)
    ] refl

pub smaller_bit : (w j : ℕ) (xs : List ℤ) (m whole : ℤ) → j < 64 → j < length xs → or_smaller m (least (masked_from j (w ∷ []) (drop j xs))) ≡ whole
    → or_smaller (if bit_at w j == 1 then int_min m (get_or xs j (pos 0)) else m) (least (masked_from (j + 1) (w ∷ []) (drop (j + 1) xs))) ≡ whole
smaller_bit w j xs m whole low within so_far =
    elim (bit_at w j == 1) as (λ b. (bit_at w j == 1) ≡ b → or_smaller (if b then int_min m (get_or xs j (pos 0)) else m) (least (masked_from (j + 1) (w ∷ []) (drop (j + 1) xs))) ≡ whole) [
      | true ↦ λ p.
          sym (min_first m (get_or xs j (pos 0)) (least (masked_from (j + 1) (w ∷ []) (drop (j + 1) xs))))
          ∙ (ap (λ l. or_smaller m (least l)) (sym (kept_here (w ∷ []) xs j within (word_bit w j low ∙ p))) ∙ so_far)
      | false ↦ λ p. ap (λ l. or_smaller m (least l)) (sym (left_out_here (w ∷ []) xs j within (word_bit w j low ∙ p))) ∙ so_far
    ] refl

pub greater_bit : (w j : ℕ) (xs : List ℤ) (m whole : ℤ) → j < 64 → j < length xs → or_greater m (greatest (masked_from j (w ∷ []) (drop j xs))) ≡ whole
    → or_greater (if bit_at w j == 1 then int_max m (get_or xs j (pos 0)) else m) (greatest (masked_from (j + 1) (w ∷ []) (drop (j + 1) xs))) ≡ whole
greater_bit w j xs m whole low within so_far =
    elim (bit_at w j == 1) as (λ b. (bit_at w j == 1) ≡ b → or_greater (if b then int_max m (get_or xs j (pos 0)) else m) (greatest (masked_from (j + 1) (w ∷ []) (drop (j + 1) xs))) ≡ whole) [
      | true ↦ λ p.
          sym (max_first m (get_or xs j (pos 0)) (greatest (masked_from (j + 1) (w ∷ []) (drop (j + 1) xs))))
          ∙ (ap (λ l. or_greater m (greatest l)) (sym (kept_here (w ∷ []) xs j within (word_bit w j low ∙ p))) ∙ so_far)
      | false ↦ λ p. ap (λ l. or_greater m (greatest l)) (sym (left_out_here (w ∷ []) xs j within (word_bit w j low ∙ p))) ∙ so_far
    ] refl

next_bit : (j i : ℕ) → j + 1 + i ≡ j + suc i
next_bit j i = omega arith

-- where none of the values is less, the number stays
pub none_smaller : (mask : List ℕ) (j : ℕ) (xs : List ℤ) (m : ℤ) → ((i : ℕ) → i < length xs → is_set mask (j + i) ≡ true → int_min m (get_or xs i (pos 0)) ≡ m) → or_smaller m (least (masked_from j mask xs)) ≡ m
none_smaller mask j [] m none = refl
none_smaller mask j (x ∷ xs) m none =
    let rest = none_smaller mask (j + 1) xs m (λ i low set. none (suc i) (omega (arith, low)) (sym (ap (is_set mask) (next_bit j i)) ∙ set)) in
    let here : j ≡ j + 0 = omega arith in
    elim (is_set mask j) as (λ b. is_set mask j ≡ b → or_smaller m (least (if b then x ∷ masked_from (j + 1) mask xs else masked_from (j + 1) mask xs)) ≡ m) [
      | true ↦ λ p. min_first m x (least (masked_from (j + 1) mask xs)) ∙ (ap (λ y. or_smaller y (least (masked_from (j + 1) mask xs))) (none 0 (omega arith) (sym (ap (is_set mask) here) ∙ p)) ∙ rest)
      | false ↦ λ p. rest
    ] refl

pub none_greater : (mask : List ℕ) (j : ℕ) (xs : List ℤ) (m : ℤ) → ((i : ℕ) → i < length xs → is_set mask (j + i) ≡ true → int_max m (get_or xs i (pos 0)) ≡ m) → or_greater m (greatest (masked_from j mask xs)) ≡ m
none_greater mask j [] m none = refl
none_greater mask j (x ∷ xs) m none =
    let rest = none_greater mask (j + 1) xs m (λ i low set. none (suc i) (omega (arith, low)) (sym (ap (is_set mask) (next_bit j i)) ∙ set)) in
    let here : j ≡ j + 0 = omega arith in
    elim (is_set mask j) as (λ b. is_set mask j ≡ b → or_greater m (greatest (if b then x ∷ masked_from (j + 1) mask xs else masked_from (j + 1) mask xs)) ≡ m) [
      | true ↦ λ p. max_first m x (greatest (masked_from (j + 1) mask xs)) ∙ (ap (λ y. or_greater y (greatest (masked_from (j + 1) mask xs))) (none 0 (omega arith) (sym (ap (is_set mask) here) ∙ p)) ∙ rest)
      | false ↦ λ p. rest
    ] refl

-- ---- words one after another

parts : (n i j : ℕ) (mask : List ℕ) (w : ℕ) (xs : List ℤ) → ((m : ℕ) → m < n → is_set mask (i + m) ≡ is_set (w ∷ []) (j + m)) → masked_from i mask xs ≡ masked_from j (w ∷ []) (take n xs) ++ masked_from (i + n) mask (drop n xs)
parts zero i j mask w xs same = ap (λ k. masked_from k mask xs) (none i)
  where
    none : (k : ℕ) → k ≡ k + 0
    none k = omega arith
parts (suc n) i j mask w [] same = refl
parts (suc n) i j mask w (x ∷ xs) same =
    let rest = parts n (i + 1) (j + 1) mask w xs (λ m low. ap (is_set mask) (next i m) ∙ same (suc m) (omega (arith, low)) ∙ sym (ap (is_set (w ∷ [])) (next j m))) in
    let whole = rest ∙ ap (λ k. masked_from (j + 1) (w ∷ []) (take n xs) ++ masked_from k mask (drop n xs)) (next i n) in
    let here = ap (is_set mask) (none i) ∙ same 0 (omega arith) ∙ sym (ap (is_set (w ∷ [])) (none j)) in
    ap (λ b. if b then x ∷ masked_from (i + 1) mask xs else masked_from (i + 1) mask xs) here
    ∙ by (is_set (w ∷ []) j) x (masked_from (i + 1) mask xs) (masked_from (j + 1) (w ∷ []) (take n xs)) (masked_from (i + suc n) mask (drop n xs)) whole
  where
    none : (k : ℕ) → k ≡ k + 0
    none k = omega arith

    next : (k m : ℕ) → k + 1 + m ≡ k + suc m
    next k m = omega arith

    by : (b : Bool) (x : ℤ) (us vs ws : List ℤ) → us ≡ vs ++ ws → (if b then x ∷ us else us) ≡ (if b then x ∷ vs else vs) ++ ws
    by true x us vs ws is = ap (λ l. x ∷ l) is
    by false x us vs ws is = is

-- the values behind a word, and those behind the next ones
pub one_more : (mask : List ℕ) (xs : List ℤ) (k : ℕ) → masked_from (64 * k) mask (drop (64 * k) xs) ≡ masked_from 0 (get_or mask k 0 ∷ []) (take 64 (drop (64 * k) xs)) ++ masked_from (64 * (k + 1)) mask (drop (64 * (k + 1)) xs)
one_more mask xs k =
    let w = get_or mask k 0 in
    let far : 64 * k + 64 ≡ 64 * (k + 1) = omega arith in
    parts 64 (64 * k) 0 mask w (drop (64 * k) xs) (λ m low. bit_here mask k m low ∙ sym (word_bit w m low ∙ refl) ∙ ap (is_set (w ∷ [])) (front m))
    ∙ (ap (λ l. masked_from 0 (w ∷ []) (take 64 (drop (64 * k) xs)) ++ masked_from (64 * k + 64) mask l) (drop-drop 64 (64 * k) xs)
    ∙ ap (λ n. masked_from 0 (w ∷ []) (take 64 (drop (64 * k) xs)) ++ masked_from n mask (drop n xs)) far)
  where
    front : (m : ℕ) → m ≡ 0 + m
    front m = omega arith

pub no_more : (mask : List ℕ) (xs : List ℤ) (n : ℕ) → length xs ≤ n → masked_from n mask (drop n xs) ≡ []
no_more mask xs n all = ap (masked_from n mask) (drop_all n xs all)

total_parts : (xs ys : List ℤ) → total (xs ++ ys) ≡ total xs +ℤ total ys
total_parts [] ys = none (total ys)
  where
    none : (y : ℤ) → y ≡ pos 0 +ℤ y
    none y = grind (arith, ints)
total_parts (x ∷ xs) ys = ap (λ s. x +ℤ s) (total_parts xs ys) ∙ sym (behind x (total xs) (total ys))

pub added_word : (mask : List ℕ) (xs : List ℤ) (k : ℕ) (sum whole : ℤ) → sum +ℤ total (masked_from (64 * k) mask (drop (64 * k) xs)) ≡ whole
    → (sum +ℤ total (masked_from 0 (get_or mask k 0 ∷ []) (take 64 (drop (64 * k) xs)))) +ℤ total (masked_from (64 * (k + 1)) mask (drop (64 * (k + 1)) xs)) ≡ whole
added_word mask xs k sum whole so_far =
    let here = masked_from 0 (get_or mask k 0 ∷ []) (take 64 (drop (64 * k) xs)) in
    let rest = masked_from (64 * (k + 1)) mask (drop (64 * (k + 1)) xs) in
    behind sum (total here) (total rest) ∙ (ap (λ s. sum +ℤ s) (sym (total_parts here rest)) ∙ (ap (λ l. sum +ℤ total l) (sym (one_more mask xs k)) ∙ so_far))

pub smaller_word : (mask : List ℕ) (xs : List ℤ) (k : ℕ) (m whole : ℤ) → or_smaller m (least (masked_from (64 * k) mask (drop (64 * k) xs))) ≡ whole
    → or_smaller (or_smaller m (least (masked_from 0 (get_or mask k 0 ∷ []) (take 64 (drop (64 * k) xs))))) (least (masked_from (64 * (k + 1)) mask (drop (64 * (k + 1)) xs))) ≡ whole
smaller_word mask xs k m whole so_far =
    sym (least_parts m (masked_from 0 (get_or mask k 0 ∷ []) (take 64 (drop (64 * k) xs))) (masked_from (64 * (k + 1)) mask (drop (64 * (k + 1)) xs)))
    ∙ (ap (λ l. or_smaller m (least l)) (sym (one_more mask xs k)) ∙ so_far)

pub greater_word : (mask : List ℕ) (xs : List ℤ) (k : ℕ) (m whole : ℤ) → or_greater m (greatest (masked_from (64 * k) mask (drop (64 * k) xs))) ≡ whole
    → or_greater (or_greater m (greatest (masked_from 0 (get_or mask k 0 ∷ []) (take 64 (drop (64 * k) xs))))) (greatest (masked_from (64 * (k + 1)) mask (drop (64 * (k + 1)) xs))) ≡ whole
greater_word mask xs k m whole so_far =
    sym (greatest_parts m (masked_from 0 (get_or mask k 0 ∷ []) (take 64 (drop (64 * k) xs))) (masked_from (64 * (k + 1)) mask (drop (64 * (k + 1)) xs)))
    ∙ (ap (λ l. or_greater m (greatest l)) (sym (one_more mask xs k)) ∙ so_far)

pub take_some : (n : ℕ) (xs : List ℤ) (m : ℕ) → m ≡ min n (length xs) → take m xs ≡ take n xs
take_some n xs m is =
    elim (nat_lt (length xs) n) as (λ b. nat_lt (length xs) n ≡ b → take m xs ≡ take n xs) [
      | true ↦ λ p.
          let fewer : length xs < n = grind (arith, nat_tests) in
          take_all m xs (omega (arith, is, fewer)) ∙ sym (take_all n xs (omega (arith, fewer)))
      | false ↦ λ p.
          let more : n ≤ length xs = grind (arith, nat_tests) in
          ap (λ k. take k xs) (let same : m ≡ n = omega (arith, is, more) in same)
    ] refl
