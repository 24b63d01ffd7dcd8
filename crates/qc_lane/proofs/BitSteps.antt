-- Bits of masks.
use Rattle.std.proofs.Common.{◌≡◌, ℕ, ◌+◌, ◌-◌, ◌*◌, ◌/◌, ◌%◌, ◌<◌, ◌≤◌, ℤ, pos, negsuc, Bool, true, false, true≢false, cond, not, List, [], ◌∷◌, map, length, length-drop, get_or, set, drop, zero, suc, refl, sym, ap, ◌∙◌, arith, min, bit_and, nat_eq, nat_lt, nat_le, Fits, FitsSigned, w64, of_z, to_z, ◌^◌}
use Rattle.std.specs.Prelude.{◌==◌, ◌&&◌, int_le, int_lt, replicate}
use Rattle.std.specs.Int.{bit_at}
use mir.Val.{bool_byte}
use Rattle.std.specs.Simd.Lanes.{chunk, mask_l, top, zip2}
use Rattle.std.specs.Ordering.{int_eq}
use Rattle.std.specs.Cmp.{signed_Decides, unsigned_Decides}
use Rattle.std.proofs.lemmas.Int.{to_z-of_z}
use Rattle.std.proofs.lemmas.Bool.Decides.{nat_tests}
use Rattle.std.proofs.Math.Nat.{lt_of_lt_of_le}
use Rattle.std.proofs.Math.Pow.{pow_mono}
use Rattle.std.proofs.lemmas.List.{drop_more, get_or-drop, get_or-map, get_or-set_same, get_or-set_other, get_or_past, length-map}
use Rattle.std.proofs.lemmas.Nat.Bits.{bit_at_and, bit_at_not, bit_at-lt, bit_at-zero}
use Rattle.std.proofs.lemmas.Simd.{bit_mask_l, bitmask_splat, get_or-chunk, length-chunk, mask_l-lt, mask_l-mod, tops_compared, zip2_splat_left}
use Rattle.qc_lane.specs.Lanes.{is_set, masked_from, EndsAt}
use Rattle.qc_lane.specs.SetBits.{AreClear}

-- ---- numbers that are 0 or 1

both_set : (x y : ℕ) → x < 2 → y < 2 → (min x y == 1) ≡ ((x == 1) && (y == 1))
both_set zero zero p q = refl
both_set zero (suc zero) p q = refl
both_set zero (suc (suc y)) p q = absurd (omega (arith, q))
both_set (suc zero) zero p q = refl
both_set (suc zero) (suc zero) p q = refl
both_set (suc zero) (suc (suc y)) p q = absurd (omega (arith, q))
both_set (suc (suc x)) y p q = absurd (omega (arith, p))

one_unset : (x y : ℕ) → x < 2 → y < 2 → (min x (1 - y) == 1) ≡ ((x == 1) && not (y == 1))
one_unset zero zero p q = refl
one_unset zero (suc zero) p q = refl
one_unset zero (suc (suc y)) p q = absurd (omega (arith, q))
one_unset (suc zero) zero p q = refl
one_unset (suc zero) (suc zero) p q = refl
one_unset (suc zero) (suc (suc y)) p q = absurd (omega (arith, q))
one_unset (suc (suc x)) y p q = absurd (omega (arith, p))

pub unset : (x : ℕ) → x < 2 → (1 - x == 1) ≡ not (x == 1)
unset zero p = refl
unset (suc zero) p = refl
unset (suc (suc x)) p = absurd (omega (arith, p))

-- ---- relations

le_is : (m n : ℕ) → nat_le m n ≡ not (nat_lt n m)
le_is m n =
    elim (nat_lt n m) as (λ b. nat_lt n m ≡ b → nat_le m n ≡ not b) [
      | true ↦ λ p. grind (arith, nat_tests)
      | false ↦ λ p. grind (arith, nat_tests)
    ] refl

pub not_greater : (x y : ℤ) → int_le x y ≡ not (int_lt y x)
not_greater (pos m) (pos n) = le_is m n
not_greater (pos m) (negsuc n) = refl
not_greater (negsuc m) (pos n) = refl
not_greater (negsuc m) (negsuc n) = le_is n m

same_answer : (a b : Bool) → (a ≡ true → b ≡ true) → (b ≡ true → a ≡ true) → a ≡ b
same_answer true b f g = sym (f refl)
same_answer false true f g = g refl
same_answer false false f g = refl

-- numbers of 64 bits are the same where their bits are
pub same_number : (x y : ℤ) → FitsSigned w64 x → FitsSigned w64 y → (of_z w64 x == of_z w64 y) ≡ int_eq x y
same_number x y fx fy =
    same_answer (of_z w64 x == of_z w64 y) (int_eq x y)
    (λ p. (signed_Decides x y).1 (sym (to_z-of_z w64 x fx) ∙ (ap (to_z w64) ((unsigned_Decides (of_z w64 x) (of_z w64 y)).0 p) ∙ to_z-of_z w64 y fy)))
    (λ p. (unsigned_Decides (of_z w64 x) (of_z w64 y)).1 (ap (of_z w64) ((signed_Decides x y).0 p)))

-- ---- bits of words

pub bit_in_both : (a b i : ℕ) → (bit_at (bit_and a b) i == 1) ≡ ((bit_at a i == 1) && (bit_at b i == 1))
bit_in_both a b i = ap (λ n. n == 1) (bit_at_and a b i) ∙ both_set (bit_at a i) (bit_at b i) (bit_at-lt a i) (bit_at-lt b i)

pub bit_in_one : (a n b i : ℕ) → bit_at n i ≡ 1 - bit_at b i → (bit_at (bit_and a n) i == 1) ≡ ((bit_at a i == 1) && not (bit_at b i == 1))
bit_in_one a n b i is = ap (λ m. m == 1) (bit_at_and a n i ∙ ap (min (bit_at a i)) is) ∙ one_unset (bit_at a i) (bit_at b i) (bit_at-lt a i) (bit_at-lt b i)

pub swapped : (a b : Bool) → (a && b) ≡ (b && a)
swapped true true = refl
swapped true false = refl
swapped false true = refl
swapped false false = refl

-- words that are those of two masks in both
pub in_both : (ws vs us : List ℕ) → ((j : ℕ) → get_or us j 0 ≡ bit_and (get_or vs j 0) (get_or ws j 0)) → (i : ℕ) → is_set us i ≡ (is_set ws i && is_set vs i)
in_both ws vs us each i = ap (λ n. bit_at n (i % 64) == 1) (each (i / 64)) ∙ (bit_in_both (get_or vs (i / 64) 0) (get_or ws (i / 64) 0) (i % 64) ∙ swapped (bit_at (get_or vs (i / 64) 0) (i % 64) == 1) (bit_at (get_or ws (i / 64) 0) (i % 64) == 1))

-- ---- a bit for each value

shown : (b : Bool) → (cond b 1 0 == 1) ≡ b
shown true = refl
shown false = refl

pub bit_of_mask : (ms : List Bool) (i : ℕ) → (bit_at (mask_l ms) i == 1) ≡ get_or ms i false
bit_of_mask ms i = ap (λ n. n == 1) (bit_mask_l ms i) ∙ shown (get_or ms i false)

from_zero : (i : ℕ) → 0 + i ≡ i
from_zero i = omega arith

pub tested : {X : Type 0} (p : X → Bool) (xs : List X) (i : ℕ) (d : X) → get_or (map p xs) i false ≡ (nat_lt i (length xs) && p (get_or xs i d))
tested p [] i d = let none : nat_lt i 0 ≡ false = grind (arith, nat_tests) in rw none refl
tested p (x ∷ xs) zero d = let some : nat_lt 0 (suc (length xs)) ≡ true = grind (arith, nat_tests) in rw some refl
tested p (x ∷ xs) (suc i) d =
    let same : nat_lt (suc i) (suc (length xs)) ≡ nat_lt i (length xs) = next_lt i (length xs) in
    tested p xs i d ∙ ap (λ b. b && p (get_or xs i d)) (sym same)
  where
    next_lt : (i n : ℕ) → nat_lt (suc i) (suc n) ≡ nat_lt i n
    next_lt i n =
        elim (nat_lt i n) as (λ b. nat_lt i n ≡ b → nat_lt (suc i) (suc n) ≡ b) [
          | true ↦ λ p. grind (arith, nat_tests)
          | false ↦ λ p. grind (arith, nat_tests)
        ] refl

-- the bit of a lane that was compared with the same number as the others
pub lane_bits : (t : ℕ → ℕ → Bool) (p : ℤ → Bool) (xs : List ℤ) (y : ℕ) → 64 ≤ length xs → (i : ℕ) → i < 64 → t (of_z w64 (get_or xs i (pos 0))) y ≡ p (get_or xs i (pos 0))
    → (bit_at (mask_l (map (top 63) (zip2 (λ a b. cond (t a b) 18446744073709551615 0) (map (of_z w64) (chunk 0 64 xs)) (replicate 64 y))) % 18446744073709551616) i == 1) ≡ p (get_or xs i (pos 0))
lane_bits t p xs y long i low is =
    let v = map (of_z w64) (chunk 0 64 xs) in
    let count : length v ≡ 64 = length-map (chunk 0 64 xs) (of_z w64) ∙ length-chunk 0 64 xs (omega (arith, long)) in
    let lane : get_or v i 0 ≡ of_z w64 (get_or xs i (pos 0)) = get_or-map (of_z w64) (chunk 0 64 xs) i (pos 0) 0 (omega (arith, low, length-chunk 0 64 xs (omega (arith, long)))) ∙ ap (of_z w64) (get_or-chunk 0 64 xs i (pos 0) low ∙ ap (λ k. get_or xs k (pos 0)) (from_zero i)) in
    ap (λ n. bit_at n i == 1) (bitmask_splat w64 t v 64 y count (omega arith))
    ∙ (bit_of_mask (map (λ x. t x y) v) i ∙ (get_or-map (λ x. t x y) v i 0 false (omega (arith, low, count)) ∙ (ap (λ x. t x y) lane ∙ is)))

-- the same, where the number stands before the lanes
pub bound_bits : (t : ℕ → ℕ → Bool) (p : ℤ → Bool) (xs : List ℤ) (y : ℕ) → 64 ≤ length xs → (i : ℕ) → i < 64 → t y (of_z w64 (get_or xs i (pos 0))) ≡ p (get_or xs i (pos 0))
    → (bit_at (mask_l (map (top 63) (zip2 (λ a b. cond (t a b) 18446744073709551615 0) (replicate 64 y) (map (of_z w64) (chunk 0 64 xs)))) % 18446744073709551616) i == 1) ≡ p (get_or xs i (pos 0))
bound_bits t p xs y long i low is =
    let v = map (of_z w64) (chunk 0 64 xs) in
    let count : length v ≡ 64 = length-map (chunk 0 64 xs) (of_z w64) ∙ length-chunk 0 64 xs (omega (arith, long)) in
    let lane : get_or v i 0 ≡ of_z w64 (get_or xs i (pos 0)) = get_or-map (of_z w64) (chunk 0 64 xs) i (pos 0) 0 (omega (arith, low, length-chunk 0 64 xs (omega (arith, long)))) ∙ ap (of_z w64) (get_or-chunk 0 64 xs i (pos 0) low ∙ ap (λ k. get_or xs k (pos 0)) (from_zero i)) in
    let tests = map (λ x. t y x) v in
    let few : length tests ≤ 64 = omega (arith, count, length-map v (λ x. t y x)) in
    ap (λ ms. bit_at (mask_l ms % 18446744073709551616) i == 1) (tops_compared w64 t (replicate 64 y) v ∙ zip2_splat_left t y 64 v count)
    ∙ (ap (λ n. bit_at n i == 1) (mask_l-mod tests 64 few)
    ∙ (bit_of_mask tests i ∙ (get_or-map (λ x. t y x) v i 0 false (omega (arith, low, count)) ∙ (ap (λ x. t y x) lane ∙ is))))

pub turned : (n : ℕ) (b : Bool) (i : ℕ) → Fits w64 n → i < 64 → (bit_at n i == 1) ≡ b → (bit_at (18446744073709551615 - n) i == 1) ≡ not b
turned n b i fits low is = ap (λ m. m == 1) (bit_at_not w64 n i fits.fits low) ∙ (unset (bit_at n i) (bit_at-lt n i) ∙ ap not is)

pub byte_of : (b : Bool) → bool_byte b ≡ cond b 1 0
byte_of true = refl
byte_of false = refl

pub byte_small : (b : Bool) (n : ℕ) → n ≡ bool_byte b → n ≤ 1
byte_small true n is = omega (arith, is)
byte_small false n is = omega (arith, is)

pub mask_small : (ms : List Bool) → length ms ≤ 62 → mask_l ms < 2 ^ 62
mask_small ms few = lt_of_lt_of_le (mask_l-lt ms) (pow_mono few)

-- ---- the values whose bit is set, from one index before on

pub one_kept : (mask : List ℕ) (xs : List ℤ) (i : ℕ) → 0 < i → i ≤ length xs → is_set mask (i - 1) ≡ true → masked_from (i - 1) mask (drop (i - 1) xs) ≡ get_or xs (i - 1) (pos 0) ∷ masked_from i mask (drop i xs)
one_kept mask xs i some within set =
    let back : i - 1 + 1 ≡ i = omega (arith, some) in
    ap (masked_from (i - 1) mask) (drop_more xs (i - 1) (pos 0) (omega (arith, some, within))) ∙ rw (set, back) refl

pub one_left_out : (mask : List ℕ) (xs : List ℤ) (i : ℕ) → 0 < i → i ≤ length xs → is_set mask (i - 1) ≡ false → masked_from (i - 1) mask (drop (i - 1) xs) ≡ masked_from i mask (drop i xs)
one_left_out mask xs i some within set =
    let back : i - 1 + 1 ≡ i = omega (arith, some) in
    ap (masked_from (i - 1) mask) (drop_more xs (i - 1) (pos 0) (omega (arith, some, within))) ∙ rw (set, back) refl

-- the next value whose bit is set, behind those whose bit isn't

pub kept_here : (mask : List ℕ) (xs : List ℤ) (i : ℕ) → i < length xs → is_set mask i ≡ true → masked_from i mask (drop i xs) ≡ get_or xs i (pos 0) ∷ masked_from (i + 1) mask (drop (i + 1) xs)
kept_here mask xs i within set = ap (masked_from i mask) (drop_more xs i (pos 0) within) ∙ rw set refl

pub left_out_here : (mask : List ℕ) (xs : List ℤ) (i : ℕ) → i < length xs → is_set mask i ≡ false → masked_from i mask (drop i xs) ≡ masked_from (i + 1) mask (drop (i + 1) xs)
left_out_here mask xs i within set = ap (masked_from i mask) (drop_more xs i (pos 0) within) ∙ rw set refl

left_out : (mask : List ℕ) (xs : List ℤ) (n from : ℕ) → from + n ≤ length xs → AreClear mask from (from + n) → masked_from from mask (drop from xs) ≡ masked_from (from + n) mask (drop (from + n) xs)
left_out mask xs zero from within clear = ap (λ k. masked_from k mask (drop k xs)) (omega arith)
left_out mask xs (suc n) from within clear =
    let one = left_out_here mask xs from (omega (arith, within)) (clear from (omega arith) (omega arith)) in
    let rest = left_out mask xs n (from + 1) (omega (arith, within)) (λ i come before. clear i (omega (arith, come)) (omega (arith, before))) in
    let at : from + 1 + n ≡ from + suc n = omega arith in
    one ∙ (rest ∙ ap (λ k. masked_from k mask (drop k xs)) at)

pub next_kept : (mask : List ℕ) (xs : List ℤ) (from i : ℕ) → from ≤ i → i < length xs → AreClear mask from i → is_set mask i ≡ true
    → masked_from from mask (drop from xs) ≡ get_or xs i (pos 0) ∷ masked_from (i + 1) mask (drop (i + 1) xs)
next_kept mask xs from i come within clear set =
    let at : from + (i - from) ≡ i = omega (arith, come) in
    left_out mask xs (i - from) from (omega (arith, come, within)) (λ j behind before. clear j behind (omega (arith, before, come))) ∙ (ap (λ k. masked_from k mask (drop k xs)) at ∙ kept_here mask xs i within set)

pub is_value : (mask : List ℕ) (xs : List ℤ) (i : ℕ) → EndsAt mask (length xs) → is_set mask i ≡ true → i < length xs
is_value mask xs i ends here =
    elim (nat_lt i (length xs)) as (λ b. nat_lt i (length xs) ≡ b → i < length xs) [
      | true ↦ λ p. grind (arith, nat_tests)
      | false ↦ λ p. let far : length xs ≤ i = grind (arith, nat_tests) in absurd (true≢false (sym here ∙ ends i far))
    ] refl

-- where no bit is set from one on, nothing is left
pub none_kept : (mask : List ℕ) (xs : List ℤ) (from : ℕ) → ((i : ℕ) → from ≤ i → is_set mask i ≡ false) → masked_from from mask xs ≡ []
none_kept mask [] from clear = refl
none_kept mask (x ∷ xs) from clear =
    let here : is_set mask from ≡ false = clear from (omega arith) in
    rw here (none_kept mask xs (from + 1) (λ i come. clear i (omega (arith, come))))

-- ---- words of a mask, one after another

regrouped : (a m s : Bool) → ((a && s) && m) ≡ (a && (m && s))
regrouped true m s = swapped s m
regrouped false m s = refl

-- the bits of a word tell of the values from its first on
pub one_word : (values : List ℤ) (nulls : List ℕ) (p : ℤ → Bool) (k j c w : ℕ) → j < 64
    → (bit_at c j == 1) ≡ (nat_lt j (length (drop (k * 64) values)) && p (get_or (drop (k * 64) values) j (pos 0)))
    → (bit_at w j == 1) ≡ ((bit_at c j == 1) && not (bit_at (get_or nulls k 0) j == 1))
    → (bit_at w j == 1) ≡ (nat_lt (64 * k + j) (length values) && (not (is_set nulls (64 * k + j)) && p (get_or values (64 * k + j) (pos 0))))
one_word values nulls p k j c w low hc hw =
    let row : (64 * k + j) / 64 ≡ k = omega (arith, low) in
    let place : (64 * k + j) % 64 ≡ j = omega (arith, low) in
    let at : k * 64 + j ≡ 64 * k + j = omega arith in
    let value : get_or (drop (k * 64) values) j (pos 0) ≡ get_or values (64 * k + j) (pos 0) = get_or-drop (k * 64) values j (pos 0) ∙ ap (λ n. get_or values n (pos 0)) at in
    let within : nat_lt j (length (drop (k * 64) values)) ≡ nat_lt (64 * k + j) (length values) = rw length-drop (counted j (64 * k) (k * 64) (length values) (omega arith)) in
    hw ∙ rw (hc, row, place, value, within) (regrouped (nat_lt (64 * k + j) (length values)) (not (bit_at (get_or nulls k 0) j == 1)) (p (get_or values (64 * k + j) (pos 0))))
  where
    counted : (j m n l : ℕ) → m ≡ n → nat_lt j (l - n) ≡ nat_lt (m + j) l
    counted j m n l is =
        elim (nat_lt j (l - n)) as (λ b. nat_lt j (l - n) ≡ b → b ≡ nat_lt (m + j) l) [
          | true ↦ λ p. grind (arith, nat_tests)
          | false ↦ λ p. grind (arith, nat_tests)
        ] refl

-- one more word
pub word_set : (out : List ℕ) (k w : ℕ) (P : ℕ → Bool) → k < length out → ((i : ℕ) → i < 64 * k → is_set out i ≡ P i) → ((j : ℕ) → j < 64 → (bit_at w j == 1) ≡ P (64 * k + j)) → (i : ℕ) → i < 64 * (k + 1) → is_set (set out k w) i ≡ P i
word_set out k w P low before one i within =
    elim (nat_eq (i / 64) k) as (λ b. nat_eq (i / 64) k ≡ b → is_set (set out k w) i ≡ P i) [
      | true ↦ λ p.
          let row : i / 64 ≡ k = grind (arith, nat_tests) in
          let back : 64 * k + i % 64 ≡ i = omega (arith, row) in
          rw (row, get_or-set_same out k w 0 low) (one (i % 64) (omega arith) ∙ ap P back)
      | false ↦ λ p.
          let apart : i / 64 ≡ k → ⊥ = λ e. grind (arith, nat_tests) in
          rw (get_or-set_other out k (i / 64) w 0 apart) (before i (omega (arith, apart, within)))
    ] refl

-- all words, behind which no bit is set
pub all_words : (out : List ℕ) (k : ℕ) (P : ℕ → Bool) → length out ≤ k → ((i : ℕ) → i < 64 * k → is_set out i ≡ P i) → ((i : ℕ) → 64 * length out ≤ i → P i ≡ false) → (i : ℕ) → is_set out i ≡ P i
all_words out k P all before behind i =
    elim (nat_lt i (64 * k)) as (λ b. nat_lt i (64 * k) ≡ b → is_set out i ≡ P i) [
      | true ↦ λ p. before i (grind (arith, nat_tests))
      | false ↦ λ p.
          let far : 64 * k ≤ i = grind (arith, nat_tests) in
          let none : get_or out (i / 64) 0 ≡ 0 = get_or_past out (i / 64) 0 (omega (arith, far, all)) in
          rw (none, bit_at-zero (i % 64)) (sym (behind i (omega (arith, far, all))))
    ] refl
