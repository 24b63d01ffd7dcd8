-- A bit that is added where it is 0.
use Rattle.std.proofs.Common.{◌≡◌, ℕ, ◌+◌, ◌-◌, ◌*◌, ◌/◌, ◌%◌, ◌<◌, ◌≤◌, ◌^◌, Bool, true, false, List, [], ◌∷◌, ◌++◌, length, get_or, set, zero, suc, refl, sym, ap, ◌∙◌, arith, nat_eq, ◌≢◌, get_or-set_same, get_or-set_other}
use Rattle.std.specs.Prelude.{◌==◌, if◌then◌else◌}
use Rattle.std.proofs.Math.Nat.{pow-succ', div-div-eq-div-mul}
use Rattle.std.proofs.lemmas.Bool.Decides.{nat_tests}
use Rattle.qc_table.specs.Bits.{bit_of, bit_at, IsPacked}

even : (w : ℕ) → (w % 2 == 1) ≡ false → w % 2 ≡ 0
even w h = grind (arith, nat_tests)

half_more : (w p : ℕ) → (w + 2 * p) / 2 ≡ w / 2 + p
half_more w p = omega arith

same_parity : (w p : ℕ) → (w + 2 * p) % 2 ≡ w % 2
same_parity w p = omega arith

-- the sum with a power of 2 fits, where the bit is 0
pub bit_fits : (m k w : ℕ) → k < m → w < 2 ^ m → bit_of w k ≡ false → w + 2 ^ k < 2 ^ m
bit_fits zero k w low small none = absurd (omega arith)
bit_fits (suc m) zero w low small none =
    let e = even w none in
    let p : 2 ^ suc m ≡ 2 * 2 ^ m = pow-succ' 2 m in
    omega (arith, e, p)
bit_fits (suc m) (suc k) w low small none =
    let p : 2 ^ suc m ≡ 2 * 2 ^ m = pow-succ' 2 m in
    let q : 2 ^ suc k ≡ 2 * 2 ^ k = pow-succ' 2 k in
    let half : w / 2 < 2 ^ m = omega (arith, p) in
    let rest = bit_fits m k (w / 2) (omega arith) half none in
    omega (arith, p, q, rest)

after_none : (l : ℕ) → (suc l == 0) ≡ false
after_none l = grind (arith, nat_tests)

before_some : (k : ℕ) → (0 == suc k) ≡ false
before_some k = grind (arith, nat_tests)

both_after : (l k : ℕ) → (suc l == suc k) ≡ (l == k)
both_after l k =
    elim (l == k) as (λ b. (l == k) ≡ b → (suc l == suc k) ≡ b) [
      | true ↦ λ p. grind (arith, nat_tests)
      | false ↦ λ p. grind (arith, nat_tests)
    ] refl

-- the sum has this bit, and the others as before
pub bit_added : (k w l : ℕ) → bit_of w k ≡ false → bit_of (w + 2 ^ k) l ≡ (if l == k then true else bit_of w l)
bit_added zero w zero none =
    let e = even w none in
    let odd : (w + 1) % 2 ≡ 1 = omega (arith, e) in
    rw odd refl
bit_added zero w (suc l) none =
    let e = even w none in
    let same : (w + 1) / 2 ≡ w / 2 = omega (arith, e) in
    rw (same, after_none l) refl
bit_added (suc k) w zero none = rw (pow-succ' 2 k, same_parity w (2 ^ k), before_some k) refl
bit_added (suc k) w (suc l) none = rw (pow-succ' 2 k, half_more w (2 ^ k), both_after l k) (bit_added k (w / 2) l none)

pub none_in_zero : (k : ℕ) → bit_of 0 k ≡ false
none_in_zero zero = refl
none_in_zero (suc k) = none_in_zero k

-- a word of 0 behind the others changes no bit
zero_behind : (ws : List ℕ) (j : ℕ) → get_or (ws ++ 0 ∷ []) j 0 ≡ get_or ws j 0
zero_behind [] zero = refl
zero_behind [] (suc j) = refl
zero_behind (w ∷ ws) zero = refl
zero_behind (w ∷ ws) (suc j) = zero_behind ws j

pub zero_pushed : (ws : List ℕ) (i : ℕ) → bit_at (ws ++ 0 ∷ []) i ≡ bit_at ws i
zero_pushed ws i = rw (zero_behind ws (i / 64)) refl

same_place : (i at : ℕ) → i / 64 ≡ at / 64 → (i % 64 == at % 64) ≡ (i == at)
same_place i at row =
    elim (i % 64 == at % 64) as (λ b. (i % 64 == at % 64) ≡ b → b ≡ (i == at)) [
      | true ↦ λ p. grind (arith, nat_tests)
      | false ↦ λ p. grind (arith, nat_tests)
    ] refl

other_place : (i at : ℕ) → (i / 64 ≡ at / 64 → ⊥) → (i == at) ≡ false
other_place i at apart =
    elim (i == at) as (λ b. (i == at) ≡ b → b ≡ false) [
      | true ↦ λ p. absurd (apart (ap (λ n. n / 64) (grind (arith, nat_tests))))
      | false ↦ λ p. refl
    ] refl

-- one bit is set, and the others stay
pub bit_set : (ws : List ℕ) (at w : ℕ) → at / 64 < length ws → w ≡ get_or ws (at / 64) 0 → bit_at ws at ≡ false → (i : ℕ) → bit_at (set ws (at / 64) (w + 2 ^ (at % 64))) i ≡ (if i == at then true else bit_at ws i)
bit_set ws at w there is clear i =
    let none : bit_of w (at % 64) ≡ false = rw is clear in
    elim (nat_eq (i / 64) (at / 64)) as (λ b. nat_eq (i / 64) (at / 64) ≡ b → bit_at (set ws (at / 64) (w + 2 ^ (at % 64))) i ≡ (if i == at then true else bit_at ws i)) [
      | true ↦ λ p.
          let row : i / 64 ≡ at / 64 = grind (arith, nat_tests) in
          rw (row, get_or-set_same ws (at / 64) (w + 2 ^ (at % 64)) 0 there, ← is, ← (same_place i at row)) (bit_added (at % 64) w (i % 64) none)
      | false ↦ λ p.
          let apart : i / 64 ≢ at / 64 = grind (arith, nat_tests) in
          rw (get_or-set_other ws (at / 64) (i / 64) (w + 2 ^ (at % 64)) 0 apart, other_place i at apart) refl
    ] refl

-- ---- a bit that is taken away where it is 1

odd : (w : ℕ) → (w % 2 == 1) ≡ true → w % 2 ≡ 1
odd w h = grind (arith, nat_tests)

-- a bit that is 1 is part of the word
pub bit_part : (k w : ℕ) → bit_of w k ≡ true → 2 ^ k ≤ w
bit_part zero w one = let o = odd w one in omega (arith, o)
bit_part (suc k) w one =
    let p : 2 ^ suc k ≡ 2 * 2 ^ k = pow-succ' 2 k in
    let half = bit_part k (w / 2) one in
    omega (arith, p, half)

-- and is 0 in the difference
none_left : (k w : ℕ) → bit_of w k ≡ true → bit_of (w - 2 ^ k) k ≡ false
none_left zero w one =
    let o = odd w one in
    let e : (w - 1) % 2 ≡ 0 = omega (arith, o) in
    rw e refl
none_left (suc k) w one =
    let half = bit_part k (w / 2) one in
    let same : (w - 2 * 2 ^ k) / 2 ≡ w / 2 - 2 ^ k = omega (arith, half) in
    rw (pow-succ' 2 k, same) (none_left k (w / 2) one)

-- the difference lacks this bit, and has the others as before
pub bit_taken : (k w l : ℕ) → bit_of w k ≡ true → bit_of (w - 2 ^ k) l ≡ (if l == k then false else bit_of w l)
bit_taken k w l one =
    let part = bit_part k w one in
    let whole : w - 2 ^ k + 2 ^ k ≡ w = omega (arith, part) in
    let sum = ap (λ v. bit_of v l) (sym whole) ∙ bit_added k (w - 2 ^ k) l (none_left k w one) in
    elim (l == k) as (λ b. (l == k) ≡ b → bit_of (w - 2 ^ k) l ≡ (if b then false else bit_of w l)) [
      | true ↦ λ p.
          let same : l ≡ k = grind (arith, nat_tests) in
          rw same (none_left k w one)
      | false ↦ λ p. sym (sum ∙ ap (λ b. if b then true else bit_of (w - 2 ^ k) l) p)
    ] refl

-- one bit is cleared, and the others stay
pub bit_cleared : (ws : List ℕ) (at w : ℕ) → at / 64 < length ws → w ≡ get_or ws (at / 64) 0 → bit_at ws at ≡ true → (i : ℕ) → bit_at (set ws (at / 64) (w - 2 ^ (at % 64))) i ≡ (if i == at then false else bit_at ws i)
bit_cleared ws at w there is one i =
    let some : bit_of w (at % 64) ≡ true = rw is one in
    elim (nat_eq (i / 64) (at / 64)) as (λ b. nat_eq (i / 64) (at / 64) ≡ b → bit_at (set ws (at / 64) (w - 2 ^ (at % 64))) i ≡ (if i == at then false else bit_at ws i)) [
      | true ↦ λ p.
          let row : i / 64 ≡ at / 64 = grind (arith, nat_tests) in
          rw (row, get_or-set_same ws (at / 64) (w - 2 ^ (at % 64)) 0 there, ← is, ← (same_place i at row)) (bit_taken (at % 64) w (i % 64) some)
      | false ↦ λ p.
          let apart : i / 64 ≢ at / 64 = grind (arith, nat_tests) in
          rw (get_or-set_other ws (at / 64) (i / 64) (w - 2 ^ (at % 64)) 0 apart, other_place i at apart) refl
    ] refl

-- a bit that is as it shall be
pub bit_same : (ws : List ℕ) (at : ℕ) (bit : Bool) → bit_at ws at ≡ bit → (i : ℕ) → bit_at ws i ≡ (if i == at then bit else bit_at ws i)
bit_same ws at bit is i =
    elim (i == at) as (λ b. (i == at) ≡ b → bit_at ws i ≡ (if b then bit else bit_at ws i)) [
      | true ↦ λ p.
          let same : i ≡ at = grind (arith, nat_tests) in
          ap (bit_at ws) same ∙ is
      | false ↦ λ p. refl
    ] refl

-- a bit is tested by shifting it to the end
pub shifted : (w k : ℕ) → nat_eq (w / 2 ^ k % 2) 1 ≡ bit_of w k
shifted w zero = let same : w / 1 ≡ w = omega arith in rw same refl
shifted w (suc k) = rw (pow-succ' 2 k, ← (div-div-eq-div-mul w 2 (2 ^ k))) (shifted (w / 2) k)

-- no bits
pub none_packed : IsPacked [] 0
none_packed = record { enough = refl; rest = λ i _. none_in_zero (i % 64) }
