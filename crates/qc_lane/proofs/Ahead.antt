-- Bits that are still to come.
use Rattle.std.proofs.Common.{◌≡◌, ◌≢◌, ℕ, ◌+◌, ◌*◌, ◌/◌, ◌%◌, ◌<◌, ◌≤◌, ◌-◌, Bool, true, false, true≢false, List, length, get_or, refl, sym, ap, ◌∙◌, arith, nat_eq, nat_lt, nat_le}
use Rattle.std.specs.Prelude.{◌==◌, ◌&&◌}
use Rattle.std.specs.Int.{bit_at}
use Rattle.std.proofs.lemmas.Bool.Decides.{nat_tests}
use Rattle.std.proofs.lemmas.List.{get_or_past}
use Rattle.std.proofs.lemmas.Nat.Bits.{bit_at-zero}
use Rattle.qc_lane.specs.declared.bits.SetBits.{SetBits}
use Rattle.qc_lane.specs.Lanes.{is_set}
use Rattle.qc_lane.specs.SetBits.{AreClear, IsAhead}

both_true : (a b : Bool) → true ≡ (a && b) → (a ≡ true) × (b ≡ true)
both_true true true e = (refl, refl)
both_true true false e = absurd (true≢false e)
both_true false b e = absurd (true≢false e)

left_false : (a b : Bool) → b ≡ true → false ≡ (a && b) → a ≡ false
left_false true b holds e = absurd (true≢false (sym (e ∙ holds)))
left_false false b holds e = refl

right_false : (a b : Bool) → b ≡ false → (a && b) ≡ false
right_false true b fails = fails
right_false false b fails = refl

right_true : (a b c : Bool) → b ≡ true → c ≡ true → (a && b) ≡ (a && c)
right_true a b c holds also = ap (λ x. a && x) (holds ∙ sym also)

one_set : (n : ℕ) → n ≡ 1 → (n == 1) ≡ true
one_set n is = ap (λ m. m == 1) is

none_set : (n : ℕ) → n ≡ 0 → (n == 1) ≡ false
none_set n is = ap (λ m. m == 1) is

-- the bit of a word is that of the mask
pub bit_here : (mask : List ℕ) (k j : ℕ) → j < 64 → is_set mask (64 * k + j) ≡ (bit_at (get_or mask k 0) j == 1)
bit_here mask k j low =
    let row : (64 * k + j) / 64 ≡ k = omega (arith, low) in
    let place : (64 * k + j) % 64 ≡ j = omega (arith, low) in
    rw (row, place) refl

-- a bit of the word that isn't set, where it is still to come
clear_here : (mask : List ℕ) (s : SetBits) (j : ℕ) → IsAhead mask s → j < 64 → bit_at s.word j ≡ 0 → s.from ≤ 64 * s.index + j → is_set mask (64 * s.index + j) ≡ false
clear_here mask s j ahead low none come =
    let holds : nat_le s.from (64 * s.index + j) ≡ true = grind (arith, nat_tests) in
    left_false (is_set mask (64 * s.index + j)) (nat_le s.from (64 * s.index + j)) holds (sym (none_set (bit_at s.word j) none) ∙ ahead.word j low)

-- no bit below one of the word
clear_below : (mask : List ℕ) (s : SetBits) (low : ℕ) → IsAhead mask s → low ≤ 64 → ((j : ℕ) → j < low → bit_at s.word j ≡ 0) → AreClear mask s.from (64 * s.index + low)
clear_below mask s low ahead small none i come before =
    elim (nat_lt i (64 * s.index)) as (λ b. nat_lt i (64 * s.index) ≡ b → is_set mask i ≡ false) [
      | true ↦ λ p. ahead.passed i come (grind (arith, nat_tests))
      | false ↦ λ p.
          let far : 64 * s.index ≤ i = grind (arith, nat_tests) in
          let at : 64 * s.index + (i - 64 * s.index) ≡ i = omega (arith, far) in
          let near : i - 64 * s.index < low = omega (arith, far, before) in
          ap (is_set mask) (sym at) ∙ clear_here mask s (i - 64 * s.index) ahead (omega (arith, near, small)) (none (i - 64 * s.index) near) (omega (arith, at, come))
    ] refl

zero_bits : (w : ℕ) → w ≡ 0 → (j : ℕ) → bit_at w j ≡ 0
zero_bits w none j = ap (λ n. bit_at n j) none ∙ bit_at-zero j

pub found : (mask : List ℕ) (s : SetBits) (low : ℕ) → IsAhead mask s → low < 64 → bit_at s.word low ≡ 1 → ((j : ℕ) → j < low → bit_at s.word j ≡ 0)
    → (s.from ≤ 64 * s.index + low) × (is_set mask (64 * s.index + low) ≡ true) × AreClear mask s.from (64 * s.index + low)
found mask s low ahead small one none =
    let both = both_true (is_set mask (64 * s.index + low)) (nat_le s.from (64 * s.index + low)) (sym (one_set (bit_at s.word low) one) ∙ ahead.word low small) in
    let holds = both.1 in
    (grind (arith, nat_tests), both.0, clear_below mask s low ahead (omega (arith, small)) none)

pub after_found : (mask : List ℕ) (s : SetBits) (low w : ℕ) → IsAhead mask s → low < 64 → bit_at s.word low ≡ 1 → ((j : ℕ) → j < low → bit_at s.word j ≡ 0)
    → bit_at w low ≡ 0 → ((j : ℕ) → j < 64 → j ≢ low → bit_at w j ≡ bit_at s.word j)
    → IsAhead mask (record { word = w; index = s.index; from = 64 * s.index + low + 1 })
after_found mask s low w ahead small one none gone same = record {
  within = ahead.within;
  word = λ j inside.
      (elim (nat_eq j low) as (λ b. nat_eq j low ≡ b → (bit_at w j == 1) ≡ (is_set mask (64 * s.index + j) && nat_le (64 * s.index + low + 1) (64 * s.index + j))) [
        | true ↦ λ p.
            let is : j ≡ low = grind (arith, nat_tests) in
            let fails : nat_le (64 * s.index + low + 1) (64 * s.index + j) ≡ false = grind (arith, nat_tests) in
            none_set (bit_at w j) (ap (bit_at w) is ∙ gone) ∙ sym (right_false (is_set mask (64 * s.index + j)) (nat_le (64 * s.index + low + 1) (64 * s.index + j)) fails)
        | false ↦ λ p.
            let apart : j ≢ low = λ e. grind (arith, nat_tests) in
            elim (nat_lt j low) as (λ b. nat_lt j low ≡ b → (bit_at w j == 1) ≡ (is_set mask (64 * s.index + j) && nat_le (64 * s.index + low + 1) (64 * s.index + j))) [
              | true ↦ λ q.
                  let below : j < low = grind (arith, nat_tests) in
                  let fails : nat_le (64 * s.index + low + 1) (64 * s.index + j) ≡ false = grind (arith, nat_tests) in
                  none_set (bit_at w j) (same j inside apart ∙ none j below) ∙ sym (right_false (is_set mask (64 * s.index + j)) (nat_le (64 * s.index + low + 1) (64 * s.index + j)) fails)
              | false ↦ λ q.
                  let reached = (found mask s low ahead small one none).0 in
                  let above : low < j = grind (arith, nat_tests) in
                  let holds : nat_le s.from (64 * s.index + j) ≡ true = grind (arith, nat_tests) in
                  let also : nat_le (64 * s.index + low + 1) (64 * s.index + j) ≡ true = grind (arith, nat_tests) in
                  ap (λ n. n == 1) (same j inside apart) ∙ (ahead.word j inside ∙ right_true (is_set mask (64 * s.index + j)) (nat_le s.from (64 * s.index + j)) (nat_le (64 * s.index + low + 1) (64 * s.index + j)) holds also)
            ] refl
      ] refl);
  near = omega (arith, small);
  passed = λ i come before. absurd (omega (arith, come, before));
}

pub next_word : (mask : List ℕ) (s : SetBits) → IsAhead mask s → s.word ≡ 0 → s.index + 1 ≤ length mask → IsAhead mask (record { word = get_or mask (s.index + 1) 0; index = s.index + 1; from = s.from })
next_word mask s ahead none more = record {
  within = more;
  word = λ j low.
      (let reach = ahead.near in
      let holds : nat_le s.from (64 * (s.index + 1) + j) ≡ true = grind (arith, nat_tests) in
      sym (bit_here mask (s.index + 1) j low) ∙ and_true (is_set mask (64 * (s.index + 1) + j)) (nat_le s.from (64 * (s.index + 1) + j)) holds);
  near = (let reach = ahead.near in omega (arith, reach));
  passed = λ i come before. clear_below mask s 64 ahead (omega arith) (λ j inside. zero_bits s.word none j) i come (omega (arith, before));
}
  where
    and_true : (a b : Bool) → b ≡ true → a ≡ (a && b)
    and_true true b holds = sym holds
    and_true false b holds = refl

pub none_left : (mask : List ℕ) (s : SetBits) → IsAhead mask s → s.word ≡ 0 → length mask ≤ s.index + 1 → (i : ℕ) → s.from ≤ i → is_set mask i ≡ false
none_left mask s ahead none last i come =
    elim (nat_lt i (64 * s.index + 64)) as (λ b. nat_lt i (64 * s.index + 64) ≡ b → is_set mask i ≡ false) [
      | true ↦ λ p. clear_below mask s 64 ahead (omega arith) (λ j inside. zero_bits s.word none j) i come (grind (arith, nat_tests))
      | false ↦ λ p.
          let far : 64 * s.index + 64 ≤ i = grind (arith, nat_tests) in
          let past : get_or mask (i / 64) 0 ≡ 0 = get_or_past mask (i / 64) 0 (omega (arith, far, last)) in
          none_set (bit_at (get_or mask (i / 64) 0) (i % 64)) (zero_bits (get_or mask (i / 64) 0) past (i % 64))
    ] refl
