-- Numbers as bytes, the low one first.
use Rattle.std.proofs.Common.{◌≡◌, ℕ, zero, suc, ◌+◌, ◌*◌, ◌/◌, ◌%◌, ◌^◌, ◌<◌, ◌≤◌, List, [], ◌∷◌, length, get_or, take, drop, refl, sym, ap, ◌∙◌, arith, inl, inr}
use Rattle.std.specs.Int.{byte_at, bytes_low_first, w64, to_le_bytes}
use Rattle.std.proofs.Math.Nat.{div-div-eq-div-mul, pow-succ'}
use Rattle.std.proofs.lemmas.Bool.{cases_lt}
use Rattle.std.proofs.lemmas.List.{get_or-drop, get_or-take, get_or_past, length-take}
use Rattle.byteorder.specs.Endian.{little_number, little_bytes, little_from}
use Rattle.byteorder.specs.Numbers.{little_from-cons}
use Rattle.byteorder.proofs.Bytes.{take-bytes_low_first}

abbrev pub IsBytes : List ℕ → Type 0
IsBytes bytes = (i : ℕ) → get_or bytes i 0 < 256

pub IsBytes-drop : (n : ℕ) (bytes : List ℕ) → IsBytes bytes → IsBytes (drop n bytes)
IsBytes-drop n bytes h i = rw get_or-drop (h (n + i))

pub IsBytes-take : (n : ℕ) (bytes : List ℕ) → IsBytes bytes → IsBytes (take n bytes)
IsBytes-take n bytes h i =
    elim (cases_lt i n) [
      | inl lt ↦ rw (get_or-take n bytes i 0 lt) (h i)
      | inr le ↦ rw (get_or_past (take n bytes) i 0 (omega (arith, length-take n bytes))) (omega arith)
    ]

pub IsBytes-rest : (b : ℕ) (bytes : List ℕ) → IsBytes (b ∷ bytes) → IsBytes bytes
IsBytes-rest b bytes h i = h (suc i)

-- a byte in front moves the places on
place_on : (i b y : ℕ) → b < 256 → byte_at (suc i) (b + 256 * y) ≡ byte_at i y
place_on zero b y lt = omega arith
place_on (suc i) b y lt =
    let v : ℕ = b + 256 * y in
    let low : v / 256 ≡ y = omega arith in
    let power : 256 ^ suc (suc i) ≡ 256 * 256 ^ suc i = pow-succ' 256 (suc i) in
    ap (λ (p : ℕ). v / p % 256) power ∙ ap (λ (q : ℕ). q % 256) (sym (div-div-eq-div-mul v 256 (256 ^ suc i)) ∙ ap (λ (q : ℕ). q / 256 ^ suc i) low)

bytes_on : (i n b y : ℕ) → b < 256 → bytes_low_first (suc i) n (b + 256 * y) ≡ bytes_low_first i n y
bytes_on i zero b y lt = refl
bytes_on i (suc n) b y lt = ap (λ (d : ℕ). d ∷ bytes_low_first (suc (suc i)) n (b + 256 * y)) (place_on i b y lt) ∙ ap (λ (ds : List ℕ). byte_at i y ∷ ds) (bytes_on (suc i) n b y lt)

-- the bytes of the number that bytes spell are these bytes
pub bytes_again : (n : ℕ) (bytes : List ℕ) → length bytes ≡ n → IsBytes bytes → little_bytes n (little_number n bytes) ≡ bytes
bytes_again zero [] e h = refl
bytes_again zero (b ∷ bytes) e h = absurd (omega (arith, e))
bytes_again (suc n) [] e h = absurd (omega (arith, e))
bytes_again (suc n) (b ∷ bytes) e h =
    let y : ℕ = little_from 0 n bytes in
    let lt : b < 256 = h 0 in
    let value : little_number (suc n) (b ∷ bytes) ≡ b + 256 * y = ap (λ (r : ℕ). b + 256 * r) (little_from-cons 0 n b bytes) in
    let first : (b + 256 * y) % 256 ≡ b = omega arith in
    ap (little_bytes (suc n)) value
    ∙ ap (λ (d : ℕ). d ∷ bytes_low_first 1 n (b + 256 * y)) first
    ∙ ap (λ (ds : List ℕ). b ∷ ds) (bytes_on 0 n b y lt ∙ bytes_again n bytes (omega (arith, e)) (IsBytes-rest b bytes h))

-- the low bytes of a number of eight bytes
pub low_bytes : (count n : ℕ) → count ≤ 8 → take count (to_le_bytes w64 n) ≡ bytes_low_first 0 count n
low_bytes count n le = take-bytes_low_first 0 8 count n le
