-- Bits that are moved to make a place, or to fill one.
use Rattle.std.proofs.Common.{◌≡◌, ℕ, ◌+◌, ◌-◌, ◌*◌, ◌/◌, ◌%◌, ◌<◌, ◌≤◌, ◌^◌, Bool, true, false, List, length, get_or, set, take, suc, refl, sym, ap, ◌∙◌, arith, subst, nat_eq, inl, inr, get_or-set_same, get_or-set_other}
use mir.Val.{bool_byte}
use Rattle.std.specs.Prelude.{◌==◌, if◌then◌else◌}
use Rattle.std.proofs.Math.Nat.{pow-succ'}
use Rattle.std.proofs.lemmas.Bool.{cases_eq, cases_lt}
use Rattle.std.proofs.lemmas.Bool.Decides.{nat_tests}
use Rattle.std.proofs.lemmas.Nat.{mod_below, mul-add-lt, pow-add, pow_pos, shl_whole, shr_below, shr_split}
use Rattle.std.proofs.lemmas.Nat.Bits.{bit_at_cat_low, bit_at_cat_high}
use Rattle.std.proofs.lemmas.List.{get_or_past, get_or-take, length-set, length-take-le}
use Rattle.qc_table.specs.Bits.{bit_of, bit_at, HasBitAt, IsPacked}
use Rattle.qc_table.proofs.BitSteps.{none_in_zero, shifted}

-- ---- a number of two parts

low_part : (hi at lo i : ℕ) → i < at → bit_of (hi * 2 ^ at + lo) i ≡ bit_of lo i
low_part hi at lo i low = sym (shifted (hi * 2 ^ at + lo) i) ∙ (ap (λ n. nat_eq n 1) (bit_at_cat_low hi at lo i low) ∙ shifted lo i)

high_part : (hi at lo i : ℕ) → lo < 2 ^ at → at ≤ i → bit_of (hi * 2 ^ at + lo) i ≡ bit_of hi (i - at)
high_part hi at lo i small above = sym (shifted (hi * 2 ^ at + lo) i) ∙ (ap (λ n. nat_eq n 1) (bit_at_cat_high hi at lo i small above) ∙ shifted hi (i - at))

cut_low : (w at i : ℕ) → i < at → bit_of (w % 2 ^ at) i ≡ bit_of w i
cut_low w at i low = sym (low_part (w / 2 ^ at) at (w % 2 ^ at) i low) ∙ ap (λ n. bit_of n i) (shr_split w at)

cut_high : (w at i : ℕ) → at ≤ i → bit_of (w / 2 ^ at) (i - at) ≡ bit_of w i
cut_high w at i above = sym (high_part (w / 2 ^ at) at (w % 2 ^ at) i (mod_below w (2 ^ at) (pow_pos at)) above) ∙ ap (λ n. bit_of n i) (shr_split w at)

first_bit : (h b : ℕ) → b < 2 → bit_of (h * 2 + b) 0 ≡ bit_of b 0
first_bit h b small = let same : (h * 2 + b) % 2 ≡ b % 2 = omega arith in ap (λ n. nat_eq n 1) same

later_bit : (h b i : ℕ) → b < 2 → bit_of (h * 2 + b) (suc i) ≡ bit_of h i
later_bit h b i small = let half : (h * 2 + b) / 2 ≡ h = omega arith in ap (λ n. bit_of n i) half

-- ---- a word with one bit more

abbrev pub joined : ℕ → ℕ → ℕ → ℕ
joined w at b = ((w % 2 ^ 63) / 2 ^ at * 2 + b) * 2 ^ at + w % 2 ^ at

-- what stands above the bit, and the bit, have so many bits
pub joined_high : (w at b : ℕ) → at < 64 → b < 2 → (w % 2 ^ 63) / 2 ^ at * 2 + b < 2 ^ (64 - at)
joined_high w at b low small =
    let n : 63 - at + at ≡ 63 = omega arith in
    let whole : w % 2 ^ 63 < 2 ^ (63 - at + at) = subst (λ k. w % 2 ^ 63 < 2 ^ k) (sym n) (mod_below w (2 ^ 63) (pow_pos 63)) in
    let high = shr_below (w % 2 ^ 63) (63 - at) at whole in
    let up : 64 - at ≡ suc (63 - at) = omega arith in
    let twice : 2 ^ (64 - at) ≡ 2 * 2 ^ (63 - at) = ap (λ k. 2 ^ k) up ∙ pow-succ' 2 (63 - at) in
    omega (arith, high, twice, small)

pub joined_whole : (w at b : ℕ) → at < 64 → b < 2 → ((w % 2 ^ 63) / 2 ^ at * 2 + b) * 2 ^ at % 2 ^ 64 ≡ ((w % 2 ^ 63) / 2 ^ at * 2 + b) * 2 ^ at
joined_whole w at b low small = shl_whole ((w % 2 ^ 63) / 2 ^ at * 2 + b) (64 - at) at 64 (joined_high w at b low small) (omega arith)

two_parts : (hi at lo m : ℕ) → at ≤ m → hi < 2 ^ (m - at) → lo < 2 ^ at → hi * 2 ^ at + lo < 2 ^ m
two_parts hi at lo m low high small =
    let all : 2 ^ at * 2 ^ (m - at) ≡ 2 ^ m = sym (pow-add 2 at (m - at)) ∙ ap (λ k. 2 ^ k) (let n : at + (m - at) ≡ m = omega arith in n) in
    subst (λ k. hi * 2 ^ at + lo < k) all (mul-add-lt hi (2 ^ at) lo (2 ^ (m - at)) high small)

pub joined_fits : (w at b : ℕ) → at < 64 → b < 2 → joined w at b < 2 ^ 64
joined_fits w at b low small = two_parts ((w % 2 ^ 63) / 2 ^ at * 2 + b) at (w % 2 ^ at) 64 (omega arith) (joined_high w at b low small) (mod_below w (2 ^ at) (pow_pos at))

pub joined_front : (w at b i : ℕ) → i < at → bit_of (joined w at b) i ≡ bit_of w i
joined_front w at b i low = low_part ((w % 2 ^ 63) / 2 ^ at * 2 + b) at (w % 2 ^ at) i low ∙ cut_low w at i low

pub joined_here : (w at b : ℕ) → b < 2 → bit_of (joined w at b) at ≡ bit_of b 0
joined_here w at b small =
    let none : at - at ≡ 0 = omega arith in
    high_part ((w % 2 ^ 63) / 2 ^ at * 2 + b) at (w % 2 ^ at) at (mod_below w (2 ^ at) (pow_pos at)) (omega arith)
    ∙ (ap (bit_of ((w % 2 ^ 63) / 2 ^ at * 2 + b)) none ∙ first_bit ((w % 2 ^ 63) / 2 ^ at) b small)

pub joined_behind : (w at b i : ℕ) → b < 2 → at ≤ i → i < 63 → bit_of (joined w at b) (i + 1) ≡ bit_of w i
joined_behind w at b i small above low =
    let up : i + 1 - at ≡ suc (i - at) = omega arith in
    high_part ((w % 2 ^ 63) / 2 ^ at * 2 + b) at (w % 2 ^ at) (i + 1) (mod_below w (2 ^ at) (pow_pos at)) (omega arith)
    ∙ (ap (bit_of ((w % 2 ^ 63) / 2 ^ at * 2 + b)) up
    ∙ (later_bit ((w % 2 ^ 63) / 2 ^ at) b (i - at) small ∙ (cut_high (w % 2 ^ 63) at i above ∙ cut_low w 63 i low)))

-- ---- a word with one bit less

abbrev pub without : ℕ → ℕ → ℕ
without w at = w / 2 ^ at / 2 * 2 ^ at + w % 2 ^ at

without_high : (w at : ℕ) → at < 64 → w < 2 ^ 64 → w / 2 ^ at / 2 < 2 ^ (63 - at)
without_high w at low small =
    let n : 64 - at + at ≡ 64 = omega arith in
    let whole : w < 2 ^ (64 - at + at) = subst (λ k. w < 2 ^ k) (sym n) small in
    let high = shr_below w (64 - at) at whole in
    let up : 64 - at ≡ suc (63 - at) = omega arith in
    let twice : 2 ^ (64 - at) ≡ 2 * 2 ^ (63 - at) = ap (λ k. 2 ^ k) up ∙ pow-succ' 2 (63 - at) in
    omega (arith, high, twice)

pub without_whole : (w at : ℕ) → at < 64 → w < 2 ^ 64 → w / 2 ^ at / 2 * 2 ^ at % 2 ^ 64 ≡ w / 2 ^ at / 2 * 2 ^ at
without_whole w at low small = shl_whole (w / 2 ^ at / 2) (63 - at) at 64 (without_high w at low small) (omega arith)

pub without_fits : (w at : ℕ) → at < 64 → w < 2 ^ 64 → without w at < 2 ^ 63
without_fits w at low small = two_parts (w / 2 ^ at / 2) at (w % 2 ^ at) 63 (omega arith) (without_high w at low small) (mod_below w (2 ^ at) (pow_pos at))

pub top_whole : (b : ℕ) → b < 2 → b * 2 ^ 63 % 2 ^ 64 ≡ b * 2 ^ 63
top_whole b small = shl_whole b 1 63 64 small (omega arith)

pub without_front : (w at b i : ℕ) → at < 64 → i < at → bit_of (b * 2 ^ 63 + without w at) i ≡ bit_of w i
without_front w at b i low below =
    low_part b 63 (without w at) i (omega arith) ∙ (low_part (w / 2 ^ at / 2) at (w % 2 ^ at) i below ∙ cut_low w at i below)

pub without_behind : (w at b i : ℕ) → at ≤ i → i < 63 → bit_of (b * 2 ^ 63 + without w at) i ≡ bit_of w (i + 1)
without_behind w at b i above low =
    let up : suc (i - at) ≡ i + 1 - at = omega arith in
    low_part b 63 (without w at) i low
    ∙ (high_part (w / 2 ^ at / 2) at (w % 2 ^ at) i (mod_below w (2 ^ at) (pow_pos at)) above
    ∙ (ap (bit_of (w / 2 ^ at)) up ∙ cut_high w at (i + 1) (omega arith)))

pub without_last : (w at b : ℕ) → at < 64 → w < 2 ^ 64 → bit_of (b * 2 ^ 63 + without w at) 63 ≡ bit_of b 0
without_last w at b low small = high_part b 63 (without w at) 63 (without_fits w at low small) (omega arith)

pub without_all : (w at b : ℕ) → at < 64 → w < 2 ^ 64 → b < 2 → b * 2 ^ 63 + without w at < 2 ^ 64
without_all w at b low small few = two_parts b 63 (without w at) 64 (omega arith) few (without_fits w at low small)

-- ---- a flag as a number

pub flag_small : (b : Bool) → bool_byte b < 2
flag_small true = omega arith
flag_small false = omega arith

pub flag_bit : (b : Bool) → bit_of (bool_byte b) 0 ≡ b
flag_bit true = refl
flag_bit false = refl

-- ---- a word in the place of another

bit_there : (ws : List ℕ) (k x i : ℕ) → k < length ws → i / 64 ≡ k → bit_at (set ws k x) i ≡ bit_of x (i % 64)
bit_there ws k x i low is = rw (is, get_or-set_same ws k x 0 low) refl

bit_elsewhere : (ws : List ℕ) (k x i : ℕ) → (i / 64 ≡ k → ⊥) → bit_at (set ws k x) i ≡ bit_at ws i
bit_elsewhere ws k x i apart = ap (λ w. bit_of w (i % 64)) (get_or-set_other ws k (i / 64) x 0 apart)

bit_read : (ws : List ℕ) (k w i : ℕ) → w ≡ get_or ws k 0 → i / 64 ≡ k → bit_of w (i % 64) ≡ bit_at ws i
bit_read ws k w i is row = rw (row, ← is) refl

bit_past : (ws : List ℕ) (i : ℕ) → length ws * 64 ≤ i → bit_at ws i ≡ false
bit_past ws i past = ap (λ w. bit_of w (i % 64)) (get_or_past ws (i / 64) 0 (omega arith)) ∙ none_in_zero (i % 64)

-- ---- bits that move up

-- bits with one in front of that at an index, from there on
abbrev pub moved : ℕ → Bool → List ℕ → ℕ → Bool
moved at bit ws i = if i == at then bit else bit_at ws (i - 1)

moved_here : (at : ℕ) (bit : Bool) (ws : List ℕ) → moved at bit ws at ≡ bit
moved_here at bit ws = let same : (at == at) ≡ true = grind (arith, nat_tests) in rw same refl

moved_behind : (at : ℕ) (bit : Bool) (ws : List ℕ) (i : ℕ) → at < i → moved at bit ws i ≡ bit_at ws (i - 1)
moved_behind at bit ws i above = let other : (i == at) ≡ false = grind (arith, nat_tests) in rw other refl

-- words in front of one are as they shall be, but for those that stand before the index
pub record AreMovedUpTo (at : ℕ) (bit : Bool) (before now : List ℕ) (index place : ℕ) (carry : Bool) : Type 0 where
  pub size : length now ≡ length before
  pub low : place < 64
  pub reached : at ≤ index * 64 + place
  pub front : (i : ℕ) → i < at → bit_at now i ≡ bit_at before i
  pub done : (i : ℕ) → at ≤ i → i < index * 64 + place → bit_at now i ≡ moved at bit before i
  pub carried : carry ≡ moved at bit before (index * 64 + place)
  pub rest : (i : ℕ) → index * 64 + place ≤ i → bit_at now i ≡ bit_at before i

pub none_up : (at : ℕ) (bit : Bool) (ws : List ℕ) → AreMovedUpTo at bit ws ws (at / 64) (at % 64) bit
none_up at bit ws =
    let there : at / 64 * 64 + at % 64 ≡ at = omega arith in
    record {
      size = refl;
      low = mod_below at 64 (omega arith);
      reached = omega arith;
      front = λ i low. refl;
      done = λ i above low. absurd (omega arith);
      carried = sym (ap (moved at bit ws) there ∙ moved_here at bit ws);
      rest = λ i above. refl;
    }

pub one_up : (at : ℕ) (bit : Bool) (before now : List ℕ) (index place w x : ℕ) (carry next : Bool) → AreMovedUpTo at bit before now index place carry → index < length now → w ≡ get_or now index 0
    → ((i : ℕ) → i < place → bit_of x i ≡ bit_of w i) → bit_of x place ≡ carry → ((i : ℕ) → place ≤ i → i < 63 → bit_of x (i + 1) ≡ bit_of w i) → next ≡ bit_of w 63
    → AreMovedUpTo at bit before (set now index x) (index + 1) 0 next
one_up at bit before now index place w x carry next m within is front here behind last = record {
  size = length-set now index x ∙ m.size;
  low = omega arith;
  reached = omega (arith, m.reached, m.low);
  front = λ i low. elim (cases_eq (i / 64) index) [
    | inl row ↦ bit_there now index x i within row ∙ (front (i % 64) (omega (arith, row, low, m.reached)) ∙ (bit_read now index w i is row ∙ m.front i low))
    | inr apart ↦ bit_elsewhere now index x i apart ∙ m.front i low
  ];
  done = λ i above low. elim (cases_eq (i / 64) index) [
    | inl row ↦ bit_there now index x i within row ∙ in_word i above row
    | inr apart ↦ bit_elsewhere now index x i apart ∙ m.done i above (let less : i / 64 < index = before_word i low apart in omega (arith, less))
  ];
  carried =
      let whole : (index * 64 + 63) / 64 ≡ index = omega arith in
      let place_is : (index * 64 + 63) % 64 ≡ 63 = omega arith in
      let back : (index + 1) * 64 + 0 - 1 ≡ index * 64 + 63 = omega arith in
      last ∙ (ap (bit_of w) (sym place_is) ∙ (bit_read now index w (index * 64 + 63) is whole ∙ (m.rest (index * 64 + 63) (omega (arith, m.low))
      ∙ sym (moved_behind at bit before ((index + 1) * 64 + 0) (omega (arith, m.reached, m.low)) ∙ ap (bit_at before) back))));
  rest = λ i above. bit_elsewhere now index x i (λ row. omega (arith, row, above)) ∙ m.rest i (omega (arith, above, m.low));
}
  where
    before_word : (i : ℕ) → i < (index + 1) * 64 + 0 → (i / 64 ≡ index → ⊥) → i / 64 < index
    before_word i low apart = omega (arith, low, apart)

    in_word : (i : ℕ) → at ≤ i → i / 64 ≡ index → bit_of x (i % 64) ≡ moved at bit before i
    in_word i above row = elim (cases_lt (i % 64) place) [
      | inl low ↦ front (i % 64) low ∙ (bit_read now index w i is row ∙ m.done i above (omega (arith, row, low)))
      | inr high ↦ elim (cases_eq (i % 64) place) [
        | inl same ↦
            let there : index * 64 + place ≡ i = omega (arith, row, same) in
            ap (bit_of x) same ∙ (here ∙ (m.carried ∙ ap (moved at bit before) there))
        | inr apart ↦
            let low : i % 64 < 64 = mod_below i 64 (omega arith) in
            let over : place < i % 64 = omega (arith, high, apart) in
            let back : i % 64 ≡ (i - 1) % 64 + 1 = omega (arith, over) in
            let row' : (i - 1) / 64 ≡ index = omega (arith, row, over) in
            ap (bit_of x) back ∙ (behind ((i - 1) % 64) (omega (arith, back, over)) (omega (arith, back, low))
            ∙ (bit_read now index w (i - 1) is row' ∙ (m.rest (i - 1) (omega (arith, row, over)) ∙ sym (moved_behind at bit before i (omega (arith, row, over, m.reached))))))
      ]
    ]

pub all_up : (at : ℕ) (bit : Bool) (before now : List ℕ) (index place : ℕ) (carry : Bool) → AreMovedUpTo at bit before now index place carry → length before ≤ index → at / 64 < length before
    → (bit_at now at ≡ bit) × ((i : ℕ) → at ≤ i → i + 1 < length before * 64 → bit_at now (i + 1) ≡ bit_at before i)
all_up at bit before now index place carry m all there = (
  m.done at (omega arith) (omega (arith, all, there)) ∙ moved_here at bit before,
  λ i above low.
      let back : i + 1 - 1 ≡ i = omega arith in
      m.done (i + 1) (omega (arith, above)) (omega (arith, all, low)) ∙ (moved_behind at bit before (i + 1) (omega (arith, above)) ∙ ap (bit_at before) back),
)

-- ---- bits that move down

pub record AreMovedDownTo (at : ℕ) (before now : List ℕ) (index place : ℕ) : Type 0 where
  pub size : length now ≡ length before
  pub low : place < 64
  pub reached : at ≤ index * 64 + place
  pub front : (i : ℕ) → i < at → bit_at now i ≡ bit_at before i
  pub done : (i : ℕ) → at ≤ i → i < index * 64 + place → bit_at now i ≡ bit_at before (i + 1)
  pub rest : (i : ℕ) → index * 64 + place ≤ i → bit_at now i ≡ bit_at before i

pub none_down : (at : ℕ) (ws : List ℕ) → AreMovedDownTo at ws ws (at / 64) (at % 64)
none_down at ws = record {
  size = refl;
  low = mod_below at 64 (omega arith);
  reached = omega arith;
  front = λ i low. refl;
  done = λ i above low. absurd (omega arith);
  rest = λ i above. refl;
}

pub one_down : (at : ℕ) (before now : List ℕ) (index place w x : ℕ) (next : Bool) → AreMovedDownTo at before now index place → index < length now → w ≡ get_or now index 0
    → ((i : ℕ) → i < place → bit_of x i ≡ bit_of w i) → ((i : ℕ) → place ≤ i → i < 63 → bit_of x i ≡ bit_of w (i + 1)) → bit_of x 63 ≡ next → next ≡ bit_at now ((index + 1) * 64)
    → AreMovedDownTo at before (set now index x) (index + 1) 0
one_down at before now index place w x next m within is front behind last first = record {
  size = length-set now index x ∙ m.size;
  low = omega arith;
  reached = omega (arith, m.reached, m.low);
  front = λ i low. elim (cases_eq (i / 64) index) [
    | inl row ↦ bit_there now index x i within row ∙ (front (i % 64) (omega (arith, row, low, m.reached)) ∙ (bit_read now index w i is row ∙ m.front i low))
    | inr apart ↦ bit_elsewhere now index x i apart ∙ m.front i low
  ];
  done = λ i above low. elim (cases_eq (i / 64) index) [
    | inl row ↦ bit_there now index x i within row ∙ in_word i above row
    | inr apart ↦ bit_elsewhere now index x i apart ∙ m.done i above (let less : i / 64 < index = before_word i low apart in omega (arith, less))
  ];
  rest = λ i above. bit_elsewhere now index x i (λ row. omega (arith, row, above)) ∙ m.rest i (omega (arith, above, m.low));
}
  where
    before_word : (i : ℕ) → i < (index + 1) * 64 + 0 → (i / 64 ≡ index → ⊥) → i / 64 < index
    before_word i low apart = omega (arith, low, apart)

    in_word : (i : ℕ) → at ≤ i → i / 64 ≡ index → bit_of x (i % 64) ≡ bit_at before (i + 1)
    in_word i above row = elim (cases_lt (i % 64) place) [
      | inl low ↦ front (i % 64) low ∙ (bit_read now index w i is row ∙ m.done i above (omega (arith, row, low)))
      | inr high ↦ elim (cases_eq (i % 64) 63) [
        | inl same ↦
            let there : (index + 1) * 64 ≡ i + 1 = omega (arith, row, same) in
            ap (bit_of x) same ∙ (last ∙ (first ∙ (ap (bit_at now) there ∙ m.rest (i + 1) (omega (arith, row, same, m.low)))))
        | inr apart ↦
            let low : i % 64 < 64 = mod_below i 64 (omega arith) in
            let up : i % 64 + 1 ≡ (i + 1) % 64 = omega (arith, low, apart) in
            let row' : (i + 1) / 64 ≡ index = omega (arith, row, low, apart) in
            behind (i % 64) high (omega (arith, low, apart)) ∙ (ap (bit_of w) up ∙ (bit_read now index w (i + 1) is row' ∙ m.rest (i + 1) (omega (arith, row, high))))
      ]
    ]

pub all_down : (at : ℕ) (before now : List ℕ) (index place : ℕ) → AreMovedDownTo at before now index place → length before ≤ index → (i : ℕ) → at ≤ i → bit_at now i ≡ bit_at before (i + 1)
all_down at before now index place m all i above = elim (cases_lt i (index * 64 + place)) [
  | inl low ↦ m.done i above low
  | inr high ↦ m.rest i high ∙ (bit_past before i (omega (arith, all, high)) ∙ sym (bit_past before (i + 1) (omega (arith, all, high))))
]

-- ---- the whole

-- a bit between those that there are
pub inserted : (at count : ℕ) (bit : Bool) (ws ms vs : List ℕ) → IsPacked ws count → at ≤ count → length ms ≡ count / 64 + 1 → ((i : ℕ) → bit_at ms i ≡ bit_at ws i) → length vs ≡ length ms
    → ((i : ℕ) → i < at → bit_at vs i ≡ bit_at ms i) → bit_at vs at ≡ bit → ((i : ℕ) → at ≤ i → i + 1 < length ms * 64 → bit_at vs (i + 1) ≡ bit_at ms i)
    → IsPacked vs (count + 1) × HasBitAt at bit ws vs
inserted at count bit ws ms vs packed within size same as_many front here behind = (
  record {
    enough = as_many ∙ (size ∙ (let n : count / 64 + 1 ≡ (count + 1 + 63) / 64 = omega arith in n));
    rest = λ i high.
        let back : i - 1 + 1 ≡ i = omega (arith, high) in
        ap (bit_at vs) (sym back) ∙ (each (i - 1) (omega (arith, high, within)) ∙ packed.rest (i - 1) (omega (arith, high)));
  },
  record { front = λ i low. front i low ∙ same i; here = here; behind = each },
)
  where
    each : (i : ℕ) → at ≤ i → bit_at vs (i + 1) ≡ bit_at ws i
    each i above = elim (cases_lt (i + 1) (length ms * 64)) [
      | inl low ↦ behind i above low ∙ same i
      | inr high ↦ bit_past vs (i + 1) (omega (arith, as_many, high)) ∙ sym (packed.rest i (omega (arith, size, high)))
    ]

-- a bit fewer
pub removed : (at count : ℕ) (ws ms vs : List ℕ) → IsPacked ws count → at < count → length ms ≡ length ws → ((i : ℕ) → i < at → bit_at ms i ≡ bit_at ws i) → ((i : ℕ) → at ≤ i → bit_at ms i ≡ bit_at ws (i + 1)) → vs ≡ take ((count + 62) / 64) ms
    → IsPacked vs (count - 1) × HasBitAt at (bit_at ws at) vs ws
removed at count ws ms vs packed within size front behind is = (
  record {
    enough = ap length is ∙ (length-take-le ((count + 62) / 64) ms (omega (arith, size, packed.enough)) ∙ (let n : (count + 62) / 64 ≡ (count - 1 + 63) / 64 = omega (arith, within) in n));
    rest = λ i high. kept i ∙ (behind i (omega (arith, high, within)) ∙ packed.rest (i + 1) (omega (arith, high)));
  },
  record { front = λ i low. sym (kept i ∙ front i low); here = refl; behind = λ i above. sym (kept i ∙ behind i above) },
)
  where
    kept : (i : ℕ) → bit_at vs i ≡ bit_at ms i
    kept i = elim (cases_lt (i / 64) ((count + 62) / 64)) [
      | inl low ↦ ap (λ us. bit_at us i) is ∙ ap (λ w. bit_of w (i % 64)) (get_or-take ((count + 62) / 64) ms (i / 64) 0 low)
      | inr high ↦
          let all : length vs ≡ (count + 62) / 64 = ap length is ∙ length-take-le ((count + 62) / 64) ms (omega (arith, size, packed.enough)) in
          bit_past vs i (omega (arith, all, high)) ∙ sym (behind i (omega (arith, high, within)) ∙ packed.rest (i + 1) (omega (arith, high)))
    ]
