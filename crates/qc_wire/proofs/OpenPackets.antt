-- A list that others are put behind, and four places of it that are set.
use Rattle.std.proofs.Common.{◌≡◌, ℕ, zero, suc, ◌+◌, ◌≤◌, List, [], ◌∷◌, ◌++◌, length, get_or, take, drop, set, refl, ap, arith, Ok, Err, Result, OnOk, append_assoc, ◌∙◌}
use Rattle.std.specs.Int.{byte_at, w32, to_le_bytes}
use Rattle.qc_sql.specs.Packets.{packet}

pub front_stays : {X : Type 0} (n : ℕ) (xs ys : List X) → n ≤ length xs → take n (xs ++ ys) ≡ take n xs
front_stays zero xs ys le = refl
front_stays (suc n) [] ys le = absurd (omega (arith, le))
front_stays (suc n) (x ∷ xs) ys le = ap (λ t. x ∷ t) (front_stays n xs ys (omega (arith, le)))

pub payload_grows : {X : Type 0} (n : ℕ) (xs ys : List X) → n ≤ length xs → drop n (xs ++ ys) ≡ drop n xs ++ ys
payload_grows zero xs ys le = refl
payload_grows (suc n) [] ys le = absurd (omega (arith, le))
payload_grows (suc n) (x ∷ xs) ys le = payload_grows n xs ys (omega (arith, le))

-- four places one behind the other
pub header_set : (n : ℕ) (xs : List ℕ) (a b c d : ℕ) → n + 4 ≤ length xs
    → set (set (set (set xs n a) (suc n) b) (suc (suc n)) c) (suc (suc (suc n))) d ≡ take n xs ++ a ∷ b ∷ c ∷ d ∷ drop (suc (suc (suc (suc n)))) xs
header_set zero (v ∷ w ∷ x ∷ y ∷ xs) a b c d le = refl
header_set zero [] a b c d le = absurd (omega (arith, le))
header_set zero (v ∷ []) a b c d le = absurd (omega (arith, le))
header_set zero (v ∷ w ∷ []) a b c d le = absurd (omega (arith, le))
header_set zero (v ∷ w ∷ x ∷ []) a b c d le = absurd (omega (arith, le))
header_set (suc n) [] a b c d le = absurd (omega (arith, le))
header_set (suc n) (x ∷ xs) a b c d le = ap (λ t. x ∷ t) (header_set n xs a b c d (omega (arith, le)))

-- a header in front of a payload
pub header_is : (bytes digits : List ℕ) (from sequence : ℕ) → from + 4 ≤ length bytes → digits ≡ to_le_bytes w32 (length (drop (from + 4) bytes))
    → set (set (set (set bytes from (get_or digits 0 0)) (from + 1) (get_or digits 1 0)) (from + 2) (get_or digits 2 0)) (from + 3) sequence ≡ take from bytes ++ packet sequence (drop (from + 4) bytes)
unfolding packet
header_is bytes digits from sequence room is =
    let n = length (drop (from + 4) bytes) in
    let one : from + 1 ≡ suc from = omega arith in
    let two : from + 2 ≡ suc (suc from) = omega arith in
    let three : from + 3 ≡ suc (suc (suc from)) = omega arith in
    let four : suc (suc (suc (suc from))) ≡ from + 4 = omega arith in
    rw (is, one, two, three)
    (header_set from bytes (byte_at 0 n) (byte_at 1 n) (byte_at 2 n) sequence room ∙ ap (λ k. take from bytes ++ byte_at 0 n ∷ byte_at 1 n ∷ byte_at 2 n ∷ sequence ∷ drop k bytes) four)

-- what follows where a call succeeds
pub on_ok : {A E P Q : Type 0} (r : Result A E) → (P → Q) → OnOk r P → OnOk r Q
on_ok (Ok x) f p = f p
on_ok (Err e) f p = tt

-- four pieces one behind the other
pub four_pieces : {X : Type 0} (old a b c d : List X) {one two three all : List X} → one ≡ old ++ a → two ≡ one ++ b → three ≡ two ++ c → all ≡ three ++ d
    → all ≡ old ++ (a ++ (b ++ (c ++ d)))
four_pieces old a b c d first second third fourth =
    fourth
    ∙ ap (λ l. l ++ d) (third ∙ ap (λ l. l ++ c) (second ∙ ap (λ l. l ++ b) first))
    ∙ append_assoc ((old ++ a) ++ b) c d ∙ append_assoc (old ++ a) b (c ++ d) ∙ append_assoc old a (b ++ (c ++ d))
